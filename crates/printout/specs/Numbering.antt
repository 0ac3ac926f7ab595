-- The number that is printed of a drawn order is the one by which later calls name it.
use Rattle.std.specs.Prelude.{◌≡◌, ℕ, ◌<◌, List, [], ◌∷◌, length, Ok, Some, Option}
use Rattle.agreements.specs.Meaning.{Meaning}
use Rattle.methodology.specs.Meaning.{Meaning as Market}
use Rattle.methodology.specs.declared.shape.Shape.{Shape}
use Rattle.orders.specs.declared.order.PayOrder.{PayOrder}
use Rattle.ledger.specs.Views.{View}
use Rattle.history.specs.declared.call.Call.{Call}
use Rattle.history.specs.declared.answer.Answer.{Answer}
use Rattle.history.specs.Slots.{slot}
use Rattle.history.specs.Histories.{Performed, hand_drawn}
use Rattle.history.specs.Steps.{draw_told}
use Rattle.printout.specs.Counting.{last_number, orders_after}

-- how many orders a printer has counted that had counted so many before these answers
abbrev pub orders_over : ℕ → List Answer → ℕ
orders_over orders [] = orders
orders_over orders (a ∷ answers) = orders_over (orders_after orders a) answers

-- where the next call of a list draws an order, the order is in hand under the number that its line has, if the printer
-- began with the list
abbrev pub NumberedAsNamed : Type 0
NumberedAsNamed =
    (shape : Shape) (market : Market) (row : List Meaning) (serial : ℕ) (others : List (Option PayOrder))
    (cs : List Call) (answers : List Answer) (hand : List (Option PayOrder)) (v : View)
    → Performed shape market row serial others cs answers hand v
    → length answers < last_number
    → (o : PayOrder) → slot (hand_drawn (Ok o) hand) (orders_after (orders_over 0 answers) (draw_told (Ok o))) ≡ Some o
