-- The limits of agreements. Those of prices are the rate limits of `arith`.
use Rattle.std.specs.Prelude.{ℕ, ◌*◌, ◌^◌}
use Rattle.arith.specs.Scaling.{whole_ppm}
use Rattle.metering.specs.Limits.{demand_limit}

-- most that may be contracted, kW: as much as a meter may show
abbrev pub contracted_limit : ℕ
contracted_limit = demand_limit

-- most a quota may be, kWh
abbrev pub quota_limit : ℕ
quota_limit = 10 ^ 15

-- the ceiling of a reading's capacity due and of its block sum, grains
abbrev pub due_limit : ℕ
due_limit = 10 ^ 17

-- the greatest factor of an index layer, in millionths: four times
abbrev pub index_limit : ℕ
index_limit = 4 * whole_ppm

-- the highest number of a layer
abbrev pub layer_limit : ℕ
layer_limit = 255
