-- The two markets of the house.
use Rattle.std.specs.Prelude.{ℕ, ◌+◌, ◌*◌, ◌/◌, Bool, cond, ◌&&◌, nat_le, nat_lt}
use Rattle.std.proofs.Common.{lit≤}
use Rattle.arith.specs.Scaling.{more_by}
use Rattle.metering.specs.Limits.{block_count}
use Rattle.methodology.specs.declared.shape.Shape.{Shape}
use Rattle.methodology.specs.Meaning.{Meaning}

abbrev from_to : ℕ → ℕ → ℕ → Bool
from_to first last n = nat_le first n && nat_le n last

-- Day, peak and off-peak.
abbrev pub three_intervals : ℕ → ℕ
three_intervals block = cond (from_to 11 36 block) 1 (cond (from_to 37 44 block) 2 3)

abbrev pub three_shape : Shape
three_shape = record { revenues = 2; intervals = 3; most = lit≤ tt; some = lit≤ tt; few = lit≤ tt }

abbrev pub three_meaning : Meaning
three_meaning = record { interval = three_intervals; allowed = λ sent delivered factor. sent }

-- Peak and off-peak.
abbrev pub two_intervals : ℕ → ℕ
two_intervals block = cond (from_to 34 41 block) 1 2

abbrev pub two_shape : Shape
two_shape = record { revenues = 3; intervals = 2; most = lit≤ tt; some = lit≤ tt; few = lit≤ tt }

abbrev pub two_meaning : Meaning
two_meaning =
    record { interval = two_intervals; allowed = λ sent delivered factor. more_by factor delivered }

-- The same by the clock, in minutes after midnight: when a block begins, and the interval of a minute.
abbrev pub begins : ℕ → ℕ
begins block = block * (1440 / block_count)

abbrev clock : ℕ → ℕ → ℕ
clock hour minute = 60 * hour + minute

abbrev between : ℕ → ℕ → ℕ → Bool
between start end minute = nat_le start minute && nat_lt minute end

abbrev pub three_by_the_clock : ℕ → ℕ
three_by_the_clock minute =
    cond (between (clock 5 30) (clock 18 30) minute) 1
    (cond (between (clock 18 30) (clock 22 30) minute) 2 3)

abbrev pub two_by_the_clock : ℕ → ℕ
two_by_the_clock minute = cond (between (clock 17 0) (clock 21 0) minute) 1 2
