-- What performing a list of calls on a house to be made gives back.
use Rattle.std.specs.Prelude.{◌≡◌, true, List, Ok, Err, Option, Result}
use Rattle.banks.specs.declared.bank.Bank.{Ghosts as BankGhosts}
use Rattle.methodology.specs.declared.rules.Methodology.{Ghosts as MarketGhosts}
use Rattle.orders.specs.declared.order.PayOrder.{PayOrder}
use Rattle.house.specs.Shown.{shows}
use Rattle.history.specs.declared.call.Call.{Call}
use Rattle.history.specs.declared.new_house.NewHouse.{NewHouse}
use Rattle.history.specs.declared.performance.Performance.{Performance}
use Rattle.history.specs.declared.performance.Unperformed.{Unperformed}
use Rattle.history.specs.declared.performance.Unperformed.TheVariants.{SerialTaken, NoMemory}
use Rattle.history.specs.Bearing.{any_bears, Foreign}
use Rattle.history.specs.Slots.{slots_of}
use Rattle.history.specs.Histories.{Performed}

module _ {B M : Type 0} {bank : BankGhosts B} {market : MarketGhosts M} where
  -- the calls were performed on the new house, beside these orders of other houses
  abbrev pub Performs : NewHouse B M → List (Option PayOrder) → List Call → Performance B M bank market → Type 0
  Performs new others calls p =
      Performed market.shape (market.meaning new.methodology) (bank.row new.bank) new.serial others calls p.answers.items (slots_of p.hand) (shows p.house)

  -- or were not: one of those orders bears the serial that the house was to bear, or there is no memory
  abbrev pub Perform : NewHouse B M → List (Option PayOrder) → List Call → Result (Performance B M bank market) Unperformed → Type 0
  Perform new others calls (Ok p) = Performs new others calls p
  Perform new others calls (Err SerialTaken) = any_bears new.serial others ≡ true
  Perform new others calls (Err NoMemory) = Foreign new.serial others
