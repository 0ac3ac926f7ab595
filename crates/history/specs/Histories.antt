-- Lists of calls performed one after another: every call is made, with its answer, and the law holds after it.
use Rattle.std.specs.Prelude.{◌≡◌, ℕ, List, [], ◌∷◌, ◌++◌, Some, None, Ok, Err, Option, Result}
use Rattle.agreements.specs.Meaning.{Meaning}
use Rattle.methodology.specs.Meaning.{Meaning as Market}
use Rattle.methodology.specs.declared.shape.Shape.{Shape}
use Rattle.accounts.specs.declared.sheet.Sheet.{Sheet}
use Rattle.orders.specs.declared.order.PayOrder.{PayOrder}
use Rattle.orders.specs.declared.order.Paid.{Paid}
use Rattle.orders.specs.declared.order.Returned.{Returned}
use Rattle.ledger.specs.declared.refusal.Refusal.{Refusal}
use Rattle.ledger.specs.Views.{View}
use Rattle.ledger.specs.Runs.{Event, year, tariff, meter, deliver, close, draw, release, hold, Run}
use Rattle.ledger.specs.Accepted.{due_after}
use Rattle.ledger.specs.Law.{Law}
use Rattle.history.specs.declared.call.Call.{Call}
use Rattle.history.specs.declared.call.Call.TheVariants.{Year, Tariff, Meter, Deliver, Close, Draw, Present}
use Rattle.history.specs.declared.call.Named.{Named}
use Rattle.history.specs.declared.call.Named.TheVariants.{Drawn, Other}
use Rattle.history.specs.declared.spending.Spending.TheVariants.{Release, Hold}
use Rattle.history.specs.declared.answer.Answer.{Answer}
use Rattle.history.specs.declared.answer.Answer.TheVariants.{Accepted, Metered, Closed, Drawn as DrawnOut, Paid as PaidOut, Refused, Returned as CameBack, Absent}
use Rattle.history.specs.Slots.{slot, without, in_slots}

-- what an answer says of a call that is accepted or refused with nothing besides
abbrev pub told : Result (Unit {0}) Refusal → Answer
told (Ok _) = Accepted
told (Err why) = Refused why

-- and of a reading: its dues
abbrev pub meter_told : Result ℕ Refusal → Answer
meter_told (Ok dues) = Metered dues
meter_told (Err why) = Refused why

-- what is answered to a call, after the calls es to a house over a bank with these meanings
abbrev pub answer_to : List Meaning → List Event → Event → Answer
answer_to row es (year given r) = told r
answer_to row es (tariff given r) = told r
answer_to row es (meter given (Ok _)) = Metered (due_after row es given)
answer_to row es (meter given (Err why)) = Refused why
answer_to row es (deliver given r) = told r
answer_to row es (close readings deliveries s (Ok _) s') = Closed s'
answer_to row es (close readings deliveries s (Err why) s') = Refused why
answer_to row es (draw place (Ok o)) = DrawnOut o.place o.cents
answer_to row es (draw place (Err why)) = Refused why
answer_to row es (release o (Ok paid)) = PaidOut paid.place paid.cents
answer_to row es (release o (Err back)) = CameBack
answer_to row es (hold o (Ok _)) = Accepted
answer_to row es (hold o (Err back)) = CameBack

-- the order that is named: one that was drawn and is still in hand, or one of another house
abbrev pub named : List (Option PayOrder) → List (Option PayOrder) → Named → Option PayOrder
named hand others (Drawn number) = slot hand number
named hand others (Other number) = slot others number

-- the orders in hand after a draw, each under the number of its draw
abbrev pub hand_drawn : Result PayOrder Refusal → List (Option PayOrder) → List (Option PayOrder)
hand_drawn (Ok o) hand = hand ++ (Some o ∷ [])
hand_drawn (Err _) hand = hand

-- and after an order was presented: one that was drawn and is taken in is no longer in hand
abbrev pub hand_spent : {X : Type 0} → Result X Returned → Named → List (Option PayOrder) → List (Option PayOrder)
hand_spent (Ok _) (Drawn number) hand = without hand number
hand_spent (Ok _) (Other number) hand = hand
hand_spent (Err _) which hand = hand

-- the call was made, with the arguments that it names
abbrev pub Makes : Call → List (Option PayOrder) → List (Option PayOrder) → Event → List (Option PayOrder) → Type 0
Makes (Year given) hand others e hand' = (r : Result (Unit {0}) Refusal) × (e ≡ year given r) × (hand' ≡ hand)
Makes (Tariff given) hand others e hand' = (r : Result (Unit {0}) Refusal) × (e ≡ tariff given r) × (hand' ≡ hand)
Makes (Meter given) hand others e hand' = (r : Result ℕ Refusal) × (e ≡ meter given r) × (hand' ≡ hand)
Makes (Deliver given) hand others e hand' = (r : Result (Unit {0}) Refusal) × (e ≡ deliver given r) × (hand' ≡ hand)
Makes (Close stated) hand others e hand' = (r : Result (Unit {0}) Refusal) × (s : Sheet) × (s' : Sheet) × (e ≡ close stated.readings stated.deliveries s r s') × (hand' ≡ hand)
Makes (Draw place) hand others e hand' = (r : Result PayOrder Refusal) × (e ≡ draw place r) × (hand' ≡ hand_drawn r hand)
Makes (Present Release which) hand others e hand' = (o : PayOrder) × (r : Result Paid Returned) × (named hand others which ≡ Some o) × (e ≡ release o r) × (hand' ≡ hand_spent r which hand)
Makes (Present Hold which) hand others e hand' = (o : PayOrder) × (r : Result (Unit {0}) Returned) × (named hand others which ≡ Some o) × (e ≡ hold o r) × (hand' ≡ hand_spent r which hand)

-- the order named is not there, so that no call can be made
abbrev pub Lacks : Call → List (Option PayOrder) → List (Option PayOrder) → Type 0
Lacks (Present how which) hand others = named hand others which ≡ None
Lacks _ hand others = ⊥

module _ (shape : Shape) (market : Market) (row : List Meaning) (serial : ℕ) (others : List (Option PayOrder)) where
  -- the calls of a list with their answers, in the same order; their events, the last first; the orders in hand, and what the house then shows
  pub data History : List Call → List Answer → List Event → List (Option PayOrder) → View → Type 0 where
    begun : {v : View} → Run shape market row serial [] [] v → History [] [] [] [] v
    made : {cs : List Call} {answers : List Answer} {es : List Event} {hand hand' : List (Option PayOrder)} {v w : View} (c : Call) {e : Event} → History cs answers es hand v → Makes c hand others e hand' → Run shape market row serial (e ∷ es) (in_slots hand') w → History (cs ++ c ∷ []) (answers ++ answer_to row es e ∷ []) (e ∷ es) hand' w
    lacking : {cs : List Call} {answers : List Answer} {es : List Event} {hand : List (Option PayOrder)} {v : View} (c : Call) → History cs answers es hand v → Lacks c hand others → History (cs ++ c ∷ []) (answers ++ Absent ∷ []) es hand v

  -- the calls were performed: they have a history, its events are calls to a house newly made, and the law holds after them
  pub record Performed (cs : List Call) (answers : List Answer) (hand : List (Option PayOrder)) (v : View) : Type 0 where
    pub events : List Event
    pub history : History cs answers events hand v
    pub run : Run shape market row serial events (in_slots hand) v
    pub law : Law shape market row events (in_slots hand) v

  -- after one call more
  abbrev pub Next : Call → Answer → List (Option PayOrder) → View → List (Option PayOrder) → View → Type 0
  Next c a hand v hand' w = (cs : List Call) (answers : List Answer) → Performed cs answers hand v → Performed (cs ++ c ∷ []) (answers ++ a ∷ []) hand' w
