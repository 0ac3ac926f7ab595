-- What a pay desk does, as a relation of the houses before and after.
use Rattle.std.specs.Prelude.{ℕ, Result}
use Rattle.banks.specs.declared.bank.Bank.{Ghosts as BankGhosts}
use Rattle.methodology.specs.declared.rules.Methodology.{Ghosts as MarketGhosts}
use Rattle.orders.specs.declared.order.PayOrder.{PayOrder}
use Rattle.orders.specs.declared.order.Returned.{Returned}
use Rattle.ledger.specs.declared.refusal.Refusal.{Refusal}
use Rattle.house.specs.declared.house.House.{House}
use Rattle.house.specs.Shown.{shows}
use Rattle.pay_desk.specs.declared.desk.Settled.{Settled}
use Rattle.pay_desk.specs.Desk as desk

module _ {B M : Type 0} {bank : BankGhosts B} {market : MarketGhosts M} where
  abbrev pub PutsOff : House B M bank market → PayOrder → Result Settled Returned → House B M bank market → Type 0
  PutsOff h o r h' = desk.PutsOff (shows h) o r (shows h')

  abbrev pub PresentsAtDesk : House B M bank market → House B M bank market → PayOrder → Result Settled Returned → House B M bank market → House B M bank market → Type 0
  PresentsAtDesk at owner o r at' owner' = desk.PresentsAtDesk (shows at) (shows owner) o r (shows at') (shows owner')

  abbrev pub Settles : ℕ → House B M bank market → ℕ → Result Settled Refusal → House B M bank market → Type 0
  Settles most h p r h' = desk.Settles most (shows h) p r (shows h')

  abbrev pub Elsewhere : House B M bank market → House B M bank market → ℕ → Result Settled Refusal → House B M bank market → House B M bank market → Type 0
  Elsewhere at owner p r at' owner' = desk.Elsewhere (shows at) (shows owner) p r (shows at') (shows owner')
