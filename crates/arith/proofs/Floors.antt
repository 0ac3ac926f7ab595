-- The floor of a quotient of integers is one number.
use Rattle.std.proofs.Common.{◌≡◌, ℕ, zero, suc, ◌*◌, ◌/◌, ◌<◌, ℤ, pos, negsuc, ◌+ℤ◌, ◌*ℤ◌, neg_ℤ, Ok, sym, refl, ap, suc-mul, add-mul, zero-mul, arith}
use native.Mathlib.Nat.{div-eq_of_lt-le, div-eq_of_lt}
use Rattle.std.proofs.lemmas.Nat.{div-add-mod', mod_below}
use Rattle.std.proofs.lemmas.Int.{ints}
use Rattle.arith.specs.Division.{Floor, floor, floor_of, AroundZero}

next : (q : ℕ) → negsuc q +ℤ pos 1 ≡ neg_ℤ (pos q)
next zero = refl
next (suc q) = omega (arith, ints)

neg_mul : (q d : ℕ) → neg_ℤ (pos q) *ℤ pos d ≡ neg_ℤ (pos (q * d))
neg_mul zero d = rw (zero-mul d)
neg_mul (suc q) d = refl

pub floor_holds : (n : ℤ) (d : ℕ) → 0 < d → Floor n d (floor n d)
floor_holds (pos a) d p =
    record {
      low = omega (arith, ints, div-add-mod' a d);
      high = omega (arith, ints, div-add-mod' a d, mod_below a d p, add-mul (a / d) 1 d);
    }
floor_holds (negsuc a) d p =
    record {
      low = omega (arith, ints, div-add-mod' a d, mod_below a d p, suc-mul (a / d) d);
      high = rw (next (a / d), neg_mul (a / d) d) (omega (arith, ints, div-add-mod' a d));
    }

pub floor_only : (n q : ℤ) (d : ℕ) → 0 < d → Floor n d q → q ≡ floor n d
floor_only (pos n) (pos q) d p f = ap pos (sym (div-eq_of_lt-le d {m = n} (omega (arith, ints, f.low)) (omega (arith, ints, f.high))))
floor_only (pos n) (negsuc q) d p f = absurd (let h = rw (next q, neg_mul q d) at f.high in omega (arith, ints))
floor_only (negsuc n) (pos q) d p f = absurd (omega (arith, ints, f.low))
floor_only (negsuc n) (negsuc q) d p f =
    let h = rw (next q, neg_mul q d) at f.high in
    ap negsuc (sym (div-eq_of_lt-le d {m = n} (omega (arith, ints)) (omega (arith, ints, f.low, suc-mul q d, add-mul q 1 d))))

no_floor : (n q : ℤ) → Floor n 0 q → ⊥
no_floor n (pos q) f = omega (arith, ints, f.low, f.high)
no_floor n (negsuc q) f = let h = rw (next q, neg_mul q 0) at f.high in omega (arith, ints, f.low)

pub answer_only : (n q : ℤ) (d : ℕ) → Floor n d q → floor_of n d ≡ Ok q
answer_only n q zero f = absurd (no_floor n q f)
answer_only n q (suc d) f = ap Ok (sym (floor_only n q (suc d) (omega arith) f))

pub around_zero : AroundZero
around_zero n d h = (ap pos (div-eq_of_lt h), ap negsuc (div-eq_of_lt h))
