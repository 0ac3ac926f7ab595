-- The order of a year.
use Rattle.std.specs.Prelude.{ℕ, ◌+◌, Bool, true, false, cond, ◌==◌, nat_le}
use Rattle.arith.specs.Months.{months_of_year}
use Rattle.ledger.specs.declared.stage.Half.{Half}
use Rattle.ledger.specs.declared.stage.Half.TheVariants.{First, Second}
use Rattle.ledger.specs.declared.stage.Stage.{Stage}
use Rattle.ledger.specs.declared.stage.Stage.TheVariants.{BeforeYear, BeforeTariff, InMonth}

-- the last month of the first half-year
abbrev pub half_year : ℕ
half_year = 6

-- the month that a tariff opens
abbrev pub first_month : Half → Stage
first_month First = InMonth 1
first_month Second = InMonth (half_year + 1)

-- where the house stands once a month is closed
abbrev pub after_month : ℕ → Stage
after_month n = cond (n == half_year) (BeforeTariff Second) (cond (nat_le months_of_year n) BeforeYear (InMonth (n + 1)))

-- a year is to be filed, or a tariff, or a month is open
abbrev pub before_year : Stage → Bool
before_year BeforeYear = true
before_year _ = false

abbrev pub before_tariff : Stage → Bool
before_tariff (BeforeTariff half) = true
before_tariff _ = false

abbrev pub in_month : Stage → Bool
in_month (InMonth n) = true
in_month _ = false
