-- A product goes into a difference.
use Rattle.std.proofs.Common.{◌≡◌, ℕ, ◌+◌, ◌*◌, ℤ, pos, ◌-ℤ◌, ◌*ℤ◌, ap, mul-add, arith}
use borrow.Author.Differences.{up, down}
use Rattle.std.proofs.lemmas.Int.{ints}

times : (q : ℕ) (d : ℤ) (a b : ℕ) → up d + b ≡ down d + a → pos q *ℤ d ≡ pos (q * a) -ℤ pos (q * b)
times q d a b e =
    let m = ap (λ x. q * x) e in
    omega (arith, ints, m, mul-add q (up d) b, mul-add q (down d) a)

pub times_sub : (q a b : ℕ) → pos q *ℤ (pos a -ℤ pos b) ≡ pos (q * a) -ℤ pos (q * b)
times_sub q a b = times q (pos a -ℤ pos b) a b (omega (arith, ints))
