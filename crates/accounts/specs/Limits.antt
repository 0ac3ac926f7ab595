-- The limits that the account keeps.
use Rattle.std.specs.Prelude.{ℕ, ◌*◌, ◌^◌}
use Rattle.metering.specs.Limits.{licensee_limit, reading_limit}

-- most that a balance may be in size, grains
abbrev pub balance_limit : ℕ
balance_limit = 4 * 10 ^ 18

-- a carry is less than the quantity that it was left by: what all licensees take in a month
abbrev pub carry_limit : ℕ
carry_limit = licensee_limit * reading_limit
