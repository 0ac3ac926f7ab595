-- How large the figures of a closing can be.
use Rattle.std.specs.Prelude.{ℕ, ◌+◌, ◌*◌, ◌^◌}
use Rattle.arith.specs.Money.{cent, demand_rate_limit}
use Rattle.metering.specs.Limits.{place_limit, reading_limit}
use Rattle.methodology.specs.Limits.{head_limit}
use Rattle.agreements.specs.Limits.{due_limit}
use Rattle.rates.specs.Limits.{yearly_limit}
use Rattle.accounts.specs.Limits.{carry_limit}

-- a head's difference, grains: its quantity times a rate of 64 bits
abbrev pub difference_limit : ℕ
difference_limit = carry_limit * 2 ^ 64

-- a head's pool, grains: the dues of all places, a share and a carry
abbrev pub pool_limit : ℕ
pool_limit = place_limit * due_limit + cent * yearly_limit + carry_limit

-- what a licensee owes, grains: the highest rate on the most energy under every head, and a fraction
abbrev pub owed_limit : ℕ
owed_limit = head_limit * (demand_rate_limit * reading_limit) + cent
