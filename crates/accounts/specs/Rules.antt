-- What a methodology means to the account.
use Rattle.std.specs.Prelude.{ℕ, ◌+◌, ◌<◌, ◌≤◌}
use Rattle.metering.specs.Limits.{block_count}
use Rattle.methodology.specs.Limits.{head_limit, supply_limit, factor_limit}
use Rattle.methodology.specs.Meaning.{Meaning, UpTo, OneToTwo}
use Rattle.methodology.specs.declared.rules.Methodology.{Ghosts}
use Rattle.methodology.specs.declared.shape.Shape.{Shape}

-- how many revenues and intervals there are, the interval of a block, an interval's allowed supply
pub record Rules : Type 0 where
  pub revenues : ℕ
  pub intervals : ℕ
  pub interval : ℕ → ℕ
  pub allowed : ℕ → ℕ → ℕ → ℕ

abbrev pub rules_of : Shape → Meaning → Rules
rules_of s m = record { revenues = s.revenues; intervals = s.intervals; interval = m.interval; allowed = m.allowed }

abbrev pub rules_by : {M : Type 0} → Ghosts M → M → Rules
rules_by methodology m = rules_of methodology.shape (methodology.meaning m)

-- generation, the revenues, the intervals
abbrev pub head_count : Rules → ℕ
head_count r = 1 + r.revenues + r.intervals

-- what the rules of every methodology keep
pub record Regular (r : Rules) : Type 0 where
  pub few : head_count r ≤ head_limit
  pub placed : (block : ℕ) → block < block_count → UpTo r.intervals (r.interval block)
  pub supplied : (sent delivered factor : ℕ) → sent ≤ supply_limit → factor ≤ factor_limit → OneToTwo delivered sent → OneToTwo delivered (r.allowed sent delivered factor)
