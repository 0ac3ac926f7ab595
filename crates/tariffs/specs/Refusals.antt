-- The numbers of the refusals of a year and of a tariff.
use Rattle.std.specs.Prelude.{ℕ}
use Rattle.tariffs.specs.declared.refusal.TariffFault.{TariffFault}
use Rattle.tariffs.specs.declared.refusal.TariffFault.TheVariants.{Misfiled, OutOfRange}

-- a year's count or one of its revenues does not fit
abbrev pub year_number : ℕ
year_number = 13

-- each fault's number; a rate out of range tells its head besides
abbrev pub fault_number : TariffFault → ℕ
fault_number Misfiled = 14
fault_number (OutOfRange head) = 15
