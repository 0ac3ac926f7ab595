-- Scaling by millionths and thousandths.
use Rattle.std.specs.Prelude.{ℕ, ◌+◌, ◌*◌, ◌/◌, ◌<◌, ◌≤◌, ℤ, pos, ◌*ℤ◌}
use Rattle.arith.specs.Division.{floor}

abbrev pub whole_ppm : ℕ
whole_ppm = 1000000

abbrev pub whole_thousandths : ℕ
whole_thousandths = 1000

-- r is n / d, rounded down.
pub record Rounded (n d r : ℕ) : Type 0 where
  pub low : r * d ≤ n
  pub high : n < (r + 1) * d

-- so many millionths of x
abbrev pub millionths : ℕ → ℕ → ℕ
millionths ppm x = x * ppm / whole_ppm

-- x and so many millionths of it on top
abbrev pub more_by : ℕ → ℕ → ℕ
more_by ppm x = millionths (whole_ppm + ppm) x

-- the same of a signed number
abbrev pub more_by_signed : ℕ → ℤ → ℤ
more_by_signed ppm x = floor (x *ℤ pos (whole_ppm + ppm)) whole_ppm

-- so many thousandths of x
abbrev pub thousandths : ℕ → ℕ → ℕ
thousandths c x = x * c / whole_thousandths
