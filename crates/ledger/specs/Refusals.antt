-- The refusals of the parts as the house tells them, and the number and values of each case.
use Rattle.std.specs.Prelude.{ℕ, List, [], ◌∷◌, Some, None, Option}
use Rattle.agreements.specs.declared.fault.Fault.{Fault}
use Rattle.agreements.specs.Faults.{cause_number}
use Rattle.banks.specs.declared.refusal.BankRefusal.{BankRefusal}
use Rattle.banks.specs.declared.refusal.BankRefusal.TheVariants as bank
use Rattle.tariffs.specs.declared.refusal.TariffFault.{TariffFault}
use Rattle.tariffs.specs.declared.refusal.TariffFault.TheVariants as tariff
use Rattle.settlement.specs.declared.fault.CloseFault.{CloseFault}
use Rattle.settlement.specs.declared.fault.CloseFault.TheVariants as close
use Rattle.orders.specs.declared.till.CreditRefusal.{CreditRefusal}
use Rattle.orders.specs.declared.till.CreditRefusal.TheVariants as credit
use Rattle.orders.specs.declared.till.DrawRefusal.{DrawRefusal}
use Rattle.orders.specs.declared.till.DrawRefusal.TheVariants as draw
use Rattle.ledger.specs.declared.refusal.Refusal.{Refusal}
use Rattle.ledger.specs.declared.refusal.Refusal.TheVariants.{WrongKind, NoMonth, NoPlace, Again, Agreement, TooMuch, NotNow, Misallowed, Misfiled, RateOutOfRange, Counts, NoQuantity, Supply, RateOverLimit, BalancePast, UnderACent}

-- each case's number
abbrev pub number_of : Refusal → ℕ
number_of WrongKind = 6
number_of NoMonth = 7
number_of NoPlace = 8
number_of Again = 9
number_of (Agreement fault) = 10
number_of TooMuch = 11
number_of NotNow = 12
number_of Misallowed = 13
number_of Misfiled = 14
number_of (RateOutOfRange head) = 15
number_of Counts = 16
number_of (NoQuantity head) = 17
number_of (Supply head) = 18
number_of (RateOverLimit head) = 19
number_of (BalancePast head) = 20
number_of UnderACent = 21

-- and its values: the agreement's cause and layer, or a head
abbrev pub values_of : Refusal → List ℕ
values_of WrongKind = []
values_of NoMonth = []
values_of NoPlace = []
values_of Again = []
values_of (Agreement fault) = cause_number fault.cause ∷ fault.layer ∷ []
values_of TooMuch = []
values_of NotNow = []
values_of Misallowed = []
values_of Misfiled = []
values_of (RateOutOfRange head) = head ∷ []
values_of Counts = []
values_of (NoQuantity head) = head ∷ []
values_of (Supply head) = head ∷ []
values_of (RateOverLimit head) = head ∷ []
values_of (BalancePast head) = head ∷ []
values_of UnderACent = []

-- the head that it names, and the agreement's own fault, where it has one
abbrev pub head_of : Refusal → Option ℕ
head_of (RateOutOfRange head) = Some head
head_of (NoQuantity head) = Some head
head_of (Supply head) = Some head
head_of (RateOverLimit head) = Some head
head_of (BalancePast head) = Some head
head_of _ = None

abbrev pub fault_of : Refusal → Option Fault
fault_of (Agreement fault) = Some fault
fault_of _ = None

-- what a year, a tariff, a bank, a till and a closing refuse, as the house tells it; an agreement's fault stays as it was made
abbrev pub of_year : Refusal
of_year = Misallowed

abbrev pub of_tariff : TariffFault → Refusal
of_tariff tariff.Misfiled = Misfiled
of_tariff (tariff.OutOfRange head) = RateOutOfRange head

abbrev pub of_bank : BankRefusal → Refusal
of_bank bank.NoPlace = NoPlace
of_bank (bank.Fault fault) = Agreement fault

abbrev pub of_credit : CreditRefusal → Refusal
of_credit credit.NoPlace = NoPlace
of_credit credit.TooMuch = TooMuch

abbrev pub of_close : CloseFault → Refusal
of_close close.Counts = Counts
of_close (close.NoQuantity head) = NoQuantity head
of_close (close.Supply head) = Supply head
of_close (close.RateOverLimit head) = RateOverLimit head
of_close (close.BalancePast head) = BalancePast head

abbrev pub of_draw : DrawRefusal → Refusal
of_draw draw.NoPlace = NoPlace
of_draw draw.UnderACent = UnderACent
