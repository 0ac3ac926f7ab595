-- How much a number grows when it is scaled.
use Rattle.std.proofs.Common.{◌≡◌, ℕ, zero, suc, ◌+◌, ◌-◌, ◌*◌, ◌/◌, ◌<◌, ◌≤◌, ℤ, pos, negsuc, neg_ℤ, nat_abs, le_refl, ap, ◌∙◌, mul_assoc, mul_comm, mul-add, arith}
use Rattle.std.proofs.lemmas.Nat.{mul-le}
use Rattle.std.proofs.Math.Nat.{div-le_of_le-mul}
use Rattle.arith.specs.Division.{floor}
use Rattle.arith.specs.Scaling.{whole_ppm, more_by, more_by_signed}

pub no_less : (x ppm : ℕ) → x ≤ more_by ppm x
no_less x ppm = omega (arith, mul-add x whole_ppm ppm)

pub at_most_double : (x ppm : ℕ) → ppm ≤ whole_ppm → more_by ppm x ≤ 2 * x
at_most_double x ppm h = omega (arith, mul-add x whole_ppm ppm, mul-le x ppm x whole_ppm (le_refl x) h)

pub at_most_times : (whole x c times : ℕ) → c ≤ times * whole → x * c / whole ≤ times * x
at_most_times whole x c times h =
    let most : x * c ≤ x * (times * whole) = mul-le x c x (times * whole) (le_refl x) h in
    let turned : x * (times * whole) ≡ whole * (times * x) =
    mul_comm x (times * whole) ∙ ap (λ n. n * x) (mul_comm times whole) ∙ mul_assoc whole times x in
    div-le_of_le-mul whole (omega arith)

-- the size of a floor below 0
below_zero : (m : ℕ) → 0 < m → nat_abs (floor (neg_ℤ (pos m)) whole_ppm) ≡ suc ((m - 1) / whole_ppm)
below_zero zero h = absurd (omega arith)
below_zero (suc m) h = let e : suc m - 1 ≡ m = omega arith in rw e

pub no_less_signed : (x : ℤ) (ppm : ℕ) → nat_abs x ≤ nat_abs (more_by_signed ppm x)
no_less_signed (pos x) ppm = no_less x ppm
no_less_signed (negsuc x) ppm =
    let m = mul-add (suc x) whole_ppm ppm in
    omega (arith, below_zero (suc x * (whole_ppm + ppm)) (omega arith))

pub at_most_double_signed : (x : ℤ) (ppm : ℕ) → ppm ≤ whole_ppm → nat_abs (more_by_signed ppm x) ≤ 2 * nat_abs x
at_most_double_signed (pos x) ppm h = at_most_double x ppm h
at_most_double_signed (negsuc x) ppm h =
    let m = mul-add (suc x) whole_ppm ppm in
    let most = mul-le (suc x) ppm (suc x) whole_ppm (le_refl (suc x)) h in
    omega (arith, below_zero (suc x * (whole_ppm + ppm)) (omega arith))
