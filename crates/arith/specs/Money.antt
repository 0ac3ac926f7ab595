-- The grain, in which all money is counted, and the most that a unit may cost.
use Rattle.std.specs.Prelude.{ℕ}

-- the grains of a cent
abbrev pub cent : ℕ
cent = 10000

-- most that a rate or a price by energy may be, grains per kWh
abbrev pub energy_rate_limit : ℕ
energy_rate_limit = 100000000

-- most that a rate or a price by demand may be, grains per kW
abbrev pub demand_rate_limit : ℕ
demand_rate_limit = 50000000000
