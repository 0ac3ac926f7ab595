-- What a house at work on a list of calls does, with the orders that it has in hand.
use Rattle.std.specs.Prelude.{ℕ, ◌<◌, length}
use Rattle.banks.specs.declared.bank.Bank.{Ghosts as BankGhosts}
use Rattle.methodology.specs.declared.rules.Methodology.{Ghosts as MarketGhosts}
use Rattle.ledger.specs.Views.{till_of}
use Rattle.house.specs.Shown.{shows}
use Rattle.history.specs.declared.answer.Answer.{Answer}
use Rattle.history.specs.declared.call.Call.{Call}
use Rattle.history.specs.declared.desk.Desk.{Desk}
use Rattle.history.specs.declared.order_list.Orders.{Orders}
use Rattle.history.specs.Bearing.{Foreign}
use Rattle.history.specs.Slots.{slots_of, room_in}
use Rattle.history.specs.Steps.{DrawsInHand, Stepped}

module _ {B M : Type 0} {bank : BankGhosts B} {market : MarketGhosts M} where
  -- an order more can be kept in hand
  abbrev pub Roomy : Desk B M bank market → Type 0
  Roomy d = length (slots_of d.hand) < room_in d.hand

  -- these orders are of other houses
  abbrev pub OfOthers : Desk B M bank market → Orders → Type 0
  OfOthers d others = Foreign (till_of (shows d.house)).serial (slots_of others)

  -- a draw, whose order comes in hand
  abbrev pub DrawsInto : Desk B M bank market → ℕ → Answer → Desk B M bank market → Type 0
  DrawsInto d place a d' = DrawsInHand (shows d.house) place (slots_of d.hand) a (slots_of d'.hand) (shows d'.house)

  -- a call of a list, beside orders of other houses
  abbrev pub Steps : Desk B M bank market → Orders → Call → Answer → Desk B M bank market → Orders → Type 0
  Steps d others c a d' others' = Stepped c a (shows d.house) d.hand others (shows d'.house) d'.hand others'
