-- The numbers of a closing's refusals.
use Rattle.std.specs.Prelude.{ℕ}
use Rattle.settlement.specs.declared.fault.CloseFault.{CloseFault}
use Rattle.settlement.specs.declared.fault.CloseFault.TheVariants.{Counts, NoQuantity, Supply, RateOverLimit, BalancePast}

abbrev pub number_of : CloseFault → ℕ
number_of Counts = 16
number_of (NoQuantity head) = 17
number_of (Supply head) = 18
number_of (RateOverLimit head) = 19
number_of (BalancePast head) = 20
