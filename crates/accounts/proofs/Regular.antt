-- The rules of every methodology are regular.
use Rattle.std.proofs.Common.{ℕ, ◌<◌, ◌≤◌}
use Rattle.metering.specs.Limits.{block_count}
use Rattle.methodology.specs.Limits.{supply_limit, factor_limit}
use Rattle.methodology.specs.Meaning.{Meaning, UpTo, OneToTwo}
use Rattle.methodology.specs.declared.shape.Shape.{Shape}
use Rattle.accounts.specs.Rules.{rules_of, Regular}

-- the two premises are the laws that an implementation of Methodology shows
pub regular : (s : Shape) (m : Meaning) → ((block : ℕ) → block < block_count → UpTo s.intervals (m.interval block)) → ((sent delivered factor : ℕ) → sent ≤ supply_limit → factor ≤ factor_limit → OneToTwo delivered sent → OneToTwo delivered (m.allowed sent delivered factor)) → Regular (rules_of s m)
regular s m placed supplied = record { few = s.few; placed = placed; supplied = supplied }
