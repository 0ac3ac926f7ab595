-- The heads of a methodology, counted from 1.
use Rattle.std.specs.Prelude.{◌≡◌, ℕ, ◌+◌, ◌-◌, ◌<◌, ◌≤◌, Bool, true, false, cond, nat_le}
use Rattle.methodology.specs.declared.shape.Shape.{Shape}
use Rattle.methodology.specs.declared.head.Head.{Head}
use Rattle.methodology.specs.declared.head.Head.TheVariants.{Generation, Revenue, Interval}
use Rattle.arith.specs.Money.{energy_rate_limit, demand_rate_limit}
use Rattle.methodology.specs.Meaning.{Meaning, UpTo}

abbrev pub heads_of : Shape → ℕ
heads_of s = 1 + s.revenues + s.intervals

abbrev pub head_at : Shape → ℕ → Head
head_at s number =
    cond (nat_le number 1) Generation
    (cond (nat_le number (1 + s.revenues)) (Revenue (number - 1))
    (Interval (number - 1 - s.revenues)))

-- The number of the head that a block's energy goes to.
abbrev pub block_head : Shape → Meaning → ℕ → ℕ
block_head s m block = 1 + s.revenues + m.interval block

-- A head's number is that of an interval.
abbrev pub IsIntervalHead : Shape → ℕ → Type 0
IsIntervalHead s number = (1 + s.revenues < number) × (number ≤ heads_of s)

-- Generation comes first, then the revenues in their order, then the intervals in theirs.
pub record Ordered (s : Shape) : Type 0 where
  pub first : head_at s 1 ≡ Generation
  pub revenues : (i : ℕ) → UpTo s.revenues i → head_at s (1 + i) ≡ Revenue i
  pub intervals : (i : ℕ) → UpTo s.intervals i → head_at s (1 + s.revenues + i) ≡ Interval i

abbrev pub by_demand : Head → Bool
by_demand Generation = true
by_demand (Revenue i) = true
by_demand (Interval i) = false

abbrev pub rate_limit : Head → ℕ
rate_limit h = cond (by_demand h) demand_rate_limit energy_rate_limit
