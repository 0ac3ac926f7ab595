-- What a methodology means.
use Rattle.std.specs.Prelude.{◌≡◌, ℕ, ◌*◌, ◌<◌, ◌≤◌}
use Rattle.metering.specs.Limits.{block_count}
use Rattle.methodology.specs.declared.shape.Shape.{Shape}
use Rattle.methodology.specs.Limits.{supply_limit, factor_limit}

-- The interval of each block; and an interval's allowed supply, kWh, by the kWh sent in, the kWh delivered and the filed loss
-- factor.
pub record Meaning : Type 0 where
  pub interval : ℕ → ℕ
  pub allowed : ℕ → ℕ → ℕ → ℕ

-- n is one of 1 to last
abbrev pub UpTo : ℕ → ℕ → Type 0
UpTo last n = (1 ≤ n) × (n ≤ last)

-- y is from one to two times x
abbrev pub OneToTwo : ℕ → ℕ → Type 0
OneToTwo x y = (x ≤ y) × (y ≤ 2 * x)

-- each block of the day is in an interval that the shape has
abbrev pub Placed : Shape → Meaning → Type 0
Placed s m = (block : ℕ) → block < block_count → UpTo s.intervals (m.interval block)

-- allowed supply stays between what was delivered and twice as much, as long as what was sent in does
abbrev pub Supplied : Meaning → Type 0
Supplied m =
    (sent delivered factor : ℕ) →
    sent ≤ supply_limit → factor ≤ factor_limit →
    OneToTwo delivered sent → OneToTwo delivered (m.allowed sent delivered factor)

-- an answer is the allowed supply, where the energy and the factor keep their limits
abbrev pub IsAllowed : Meaning → ℕ → ℕ → ℕ → ℕ → Type 0
IsAllowed m sent delivered factor answer =
    sent ≤ supply_limit → delivered ≤ supply_limit → factor ≤ factor_limit →
    answer ≡ m.allowed sent delivered factor
