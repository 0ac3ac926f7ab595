-- The limit of a yearly revenue.
use Rattle.std.specs.Prelude.{ℕ, ◌^◌}

-- most that a year may allow a company, cents
abbrev pub yearly_limit : ℕ
yearly_limit = 10 ^ 13
