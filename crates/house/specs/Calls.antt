-- What each call of a house answers and leaves: the ledger's relations, of what the house shows before and after.
use Rattle.std.specs.Prelude.{ℕ, Result}
use Rattle.metering.specs.declared.reading.Reading.{Reading}
use Rattle.banks.specs.declared.bank.Bank.{Ghosts as BankGhosts}
use Rattle.methodology.specs.declared.rules.Methodology.{Ghosts as MarketGhosts}
use Rattle.accounts.specs.declared.sheet.Sheet.{Sheet}
use Rattle.tariffs.specs.declared.row.Row.{Row}
use Rattle.tariffs.specs.declared.filing.Filing.{Filing}
use Rattle.orders.specs.declared.order.PayOrder.{PayOrder}
use Rattle.orders.specs.declared.order.Paid.{Paid}
use Rattle.orders.specs.declared.order.Returned.{Returned}
use Rattle.ledger.specs.declared.refusal.Refusal.{Refusal}
use Rattle.ledger.specs.Calls as calls
use Rattle.house.specs.declared.house.House.{House}
use Rattle.house.specs.Shown.{shows}

module _ {B M : Type 0} {bank : BankGhosts B} {market : MarketGhosts M} where
  abbrev pub Year : House B M bank market → Row → Result (Unit {0}) Refusal → House B M bank market → Type 0
  Year h filed r h' = calls.Year (shows h) filed r (shows h')

  abbrev pub Tariff : House B M bank market → Filing → Result (Unit {0}) Refusal → House B M bank market → Type 0
  Tariff h filing r h' = calls.Tariff (shows h) filing r (shows h')

  abbrev pub Meter : House B M bank market → Reading → Result ℕ Refusal → House B M bank market → Type 0
  Meter h reading r h' = calls.Meter (shows h) reading r (shows h')

  abbrev pub Deliver : House B M bank market → Reading → Result (Unit {0}) Refusal → House B M bank market → Type 0
  Deliver h reading r h' = calls.Deliver (shows h) reading r (shows h')

  abbrev pub Close : House B M bank market → ℕ → ℕ → Sheet → Result (Unit {0}) Refusal → House B M bank market → Sheet → Type 0
  Close h readings deliveries sheet r h' sheet' = calls.Close (shows h) readings deliveries sheet r (shows h') sheet'

  abbrev pub Draw : House B M bank market → ℕ → Result PayOrder Refusal → House B M bank market → Type 0
  Draw h place r h' = calls.Draw (shows h) place r (shows h')

  abbrev pub Release : House B M bank market → PayOrder → Result Paid Returned → House B M bank market → Type 0
  Release h order r h' = calls.Release (shows h) order r (shows h')

  abbrev pub Hold : House B M bank market → PayOrder → Result (Unit {0}) Returned → House B M bank market → Type 0
  Hold h order r h' = calls.Hold (shows h) order r (shows h')
