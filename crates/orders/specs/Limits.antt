-- Limits of the money at a place.
use Rattle.std.specs.Prelude.{ℕ}

-- most that may stand at a place and be on its orders together, grains
abbrev pub money_limit : ℕ
money_limit = 4000000000000000000
