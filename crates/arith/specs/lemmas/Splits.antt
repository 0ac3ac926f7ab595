-- A split is the quotient and its rest, and no other pair is.
use Rattle.std.proofs.Common.{◌≡◌, ℕ, zero, suc, ◌/◌, ◌%◌, ◌<◌, ap, ◌∙◌, arith}
use Rattle.std.proofs.lemmas.Nat.{div-add-mod', div-mul-add, mod-mul-add, mod_below}
use Rattle.arith.specs.Division.{Split}

pub parts_split : (amount quantity : ℕ) → 0 < quantity → Split 1 amount quantity (amount / quantity) (amount % quantity)
parts_split amount quantity some =
    let whole = div-add-mod' amount quantity in
    let rest = mod_below amount quantity some in
    record { stepped = omega arith; whole = omega arith; rest = omega arith }

pub split_parts : (amount rate quantity carry : ℕ) → Split 1 amount quantity rate carry → ◌≡◌ {A = ℕ × ℕ} (amount / quantity, amount % quantity) (rate, carry)
split_parts amount rate zero carry s = absurd (omega (arith, s.rest))
split_parts amount rate (suc n) carry s =
    let below : carry < suc n = omega (arith, s.rest) in
    let r : amount / suc n ≡ rate = ap (λ a. a / suc n) s.whole ∙ div-mul-add rate (suc n) carry below in
    let c : amount % suc n ≡ carry = ap (λ a. a % suc n) s.whole ∙ mod-mul-add rate (suc n) carry below in
    cc
