-- The limits that methodologies and their heads keep.
use Rattle.std.specs.Prelude.{ℕ}
use Rattle.arith.specs.Scaling.{whole_ppm}

-- most allowed revenues: there are three names for them
abbrev pub revenue_limit : ℕ
revenue_limit = 3

-- most heads: a table by head has this many places
abbrev pub head_limit : ℕ
head_limit = 6

-- most energy of an interval and a month that a methodology answers for, kWh: more than a month's readings can hold
abbrev pub supply_limit : ℕ
supply_limit = 100000000000

-- most that a filed loss factor may be, ppm: as much lost as delivered
abbrev pub factor_limit : ℕ
factor_limit = whole_ppm
