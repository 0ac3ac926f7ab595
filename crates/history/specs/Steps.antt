-- What a call of a list answers in plain numbers.
use Rattle.std.specs.Prelude.{◌≡◌, ℕ, ◌+◌, ◌≤◌, length, List, Ok, Err, Option, Result}
use Rattle.agreements.specs.Meaning.{Meaning}
use Rattle.methodology.specs.Meaning.{Meaning as Market}
use Rattle.methodology.specs.declared.shape.Shape.{Shape}
use Rattle.accounts.specs.declared.sheet.Sheet.{Sheet}
use Rattle.orders.specs.declared.order.PayOrder.{PayOrder}
use Rattle.ledger.specs.declared.refusal.Refusal.{Refusal}
use Rattle.ledger.specs.Views.{View}
use Rattle.ledger.specs.Calls as calls
use Rattle.history.specs.declared.call.Call.{Call}
use Rattle.history.specs.declared.call.Stated.{Stated}
use Rattle.history.specs.declared.answer.Answer.{Answer}
use Rattle.history.specs.declared.answer.Answer.TheVariants.{Closed, Drawn, Refused}
use Rattle.history.specs.declared.order_list.Orders.{Orders}
use Rattle.history.specs.Slots.{slots_of, room_in}
use Rattle.history.specs.Histories.{hand_drawn, Next}

-- a closing with its sheet
abbrev pub close_told : Result (Unit {0}) Refusal → Sheet → Answer
close_told (Ok _) s = Closed s
close_told (Err why) s = Refused why

abbrev pub Closes : View → Stated → Answer → View → Type 0
Closes v stated a w = (r : Result (Unit {0}) Refusal) × (s : Sheet) × (s' : Sheet) × (a ≡ close_told r s') × calls.Close v stated.readings stated.deliveries s r w s'

-- a draw with its order's place and cents
abbrev pub draw_told : Result PayOrder Refusal → Answer
draw_told (Ok o) = Drawn o.place o.cents
draw_told (Err why) = Refused why

abbrev pub DrawsInHand : View → ℕ → List (Option PayOrder) → Answer → List (Option PayOrder) → View → Type 0
DrawsInHand v place hand a hand' w = (r : Result PayOrder Refusal) × (a ≡ draw_told r) × (hand' ≡ hand_drawn r hand) × calls.Draw v place r w

-- a call more is made: what was performed before it is performed with it, the orders of other houses stay where they are, and one order more is in hand at most
pub record Stepped (c : Call) (a : Answer) (v : View) (hand others : Orders) (w : View) (hand' others' : Orders) : Type 0 where
  pub next : (shape : Shape) (market : Market) (row : List Meaning) (serial : ℕ) → Next shape market row serial (slots_of others) c a (slots_of hand) v (slots_of hand') w
  pub others_stay : slots_of others' ≡ slots_of others
  pub long : length (slots_of hand') ≤ length (slots_of hand) + 1
  pub room : room_in hand' ≡ room_in hand
