-- The limits of what a tariff files.
use Rattle.std.specs.Prelude.{ℕ, ◌*◌, ◌/◌, ◌^◌}
use Rattle.arith.specs.Months.{months_of_year}
use Rattle.arith.specs.Scaling.{whole_ppm}
use Rattle.metering.specs.Limits.{demand_limit, licensee_limit}

-- most that a cost may be, cents
abbrev pub cost_limit : ℕ
cost_limit = 10 ^ 14

-- most that six monthly peaks may add up to, kW: the greatest demand of every licensee in each month of a half-year
abbrev pub peaks_limit : ℕ
peaks_limit = months_of_year / 2 * licensee_limit * demand_limit

-- most energy that may be sent in, kWh
abbrev pub sent_limit : ℕ
sent_limit = 10 ^ 11

-- most energy that an interval may be delivered, kWh
abbrev pub delivered_limit : ℕ
delivered_limit = 48000000000

-- most that a coefficient may be, thousandths
abbrev pub coefficient_limit : ℕ
coefficient_limit = 4000

-- most that the interest may be, ppm
abbrev pub interest_limit : ℕ
interest_limit = whole_ppm
