-- Division with its rest, and division towards minus infinity.
use Rattle.std.specs.Prelude.{◌≡◌, ℕ, zero, suc, ◌+◌, ◌-◌, ◌*◌, ◌^◌, ◌/◌, ◌%◌, ◌<◌, ℤ, pos, negsuc, ◌+ℤ◌, ◌*ℤ◌, ◌≤ℤ◌, ◌<ℤ◌, Ok, Err, Result}
use Rattle.arith.specs.declared.quantity.NoQuantity.{NoQuantity}

-- An amount is split over a quantity: the rate is a multiple of the step, nothing is lost, and what is carried is too little
-- for a step more.
pub record Split (step amount quantity rate carry : ℕ) : Type 0 where
  pub stepped : rate % step ≡ 0
  pub whole : amount ≡ rate * quantity + carry
  pub rest : carry < step * quantity

-- The two numbers, a rate and a carry, into which an amount is split, in steps of 1.
abbrev pub IsSplit : {A : Type 0} → (A → ℕ) → A → ℕ → A × ℕ → Type 0
IsSplit number amount quantity p = Split 1 (number amount) quantity (number p.0) p.1

-- A split, or none where there is no quantity.
abbrev pub SplitOrNone : {A : Type 0} → (A → ℕ) → A → ℕ → Result (A × ℕ) NoQuantity → Type 0
SplitOrNone number amount quantity (Ok p) = IsSplit number amount quantity p
SplitOrNone number amount quantity (Err e) = quantity ≡ 0

-- The answer of a split by its two parts: there is none over a quantity of 0.
abbrev pub split_by : {A : Type 0} → (A → ℕ → A × ℕ) → A → ℕ → Result (A × ℕ) NoQuantity
split_by parts amount zero = Err (record {})
split_by parts amount (suc n) = Ok (parts amount (suc n))

-- q is the largest number with q * d ≤ n.
pub record Floor (n : ℤ) (d : ℕ) (q : ℤ) : Type 0 where
  pub low : (q *ℤ pos d) ≤ℤ n
  pub high : n <ℤ ((q +ℤ pos 1) *ℤ pos d)

-- The floor of n / d: -(a + 1) / d is -(a / d + 1).
abbrev pub floor : ℤ → ℕ → ℤ
floor (pos a) d = pos (a / d)
floor (negsuc a) d = negsuc (a / d)

abbrev pub floor_of : ℤ → ℕ → Result ℤ NoQuantity
floor_of n zero = Err (record {})
floor_of n (suc d) = Ok (floor n (suc d))

-- A floor, or none where there is no divisor.
abbrev pub FloorOrNone : ℤ → ℕ → Result ℤ NoQuantity → Type 0
FloorOrNone n d (Ok q) = Floor n d q
FloorOrNone n d (Err e) = d ≡ 0

-- From 0 up to the divisor the floor is 0, from -1 down to minus the divisor it is -1.
abbrev pub AroundZero : Type 0
AroundZero = (n d : ℕ) → n < d → (floor (pos n) d ≡ pos 0) × (floor (negsuc n) d ≡ negsuc 0)

abbrev pub least : ℤ
least = negsuc (2 ^ 63 - 1)

abbrev pub greatest : ℤ
greatest = pos (2 ^ 63 - 1)

-- The least and the greatest number of 64 bits, over 1 and over the greatest divisor.
pub record AtTheLimits : Type 0 where
  pub least_over_one : floor least 1 ≡ least
  pub least_over_most : floor least (2 ^ 64 - 1) ≡ negsuc 0
  pub greatest_over_one : floor greatest 1 ≡ greatest
  pub greatest_over_most : floor greatest (2 ^ 64 - 1) ≡ pos 0
