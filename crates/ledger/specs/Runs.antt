-- Every list of calls to a house newly made, refused ones among them.
use Rattle.std.specs.Prelude.{◌≡◌, ℕ, List, [], ◌∷◌, ◌++◌, Ok, Err, Result, ◌≢◌}
use Rattle.metering.specs.declared.reading.Reading.{Reading}
use Rattle.agreements.specs.Meaning.{Meaning}
use Rattle.methodology.specs.Meaning.{Meaning as Market}
use Rattle.methodology.specs.declared.shape.Shape.{Shape}
use Rattle.accounts.specs.declared.sheet.Sheet.{Sheet}
use Rattle.tariffs.specs.declared.row.Row.{Row}
use Rattle.tariffs.specs.declared.filing.Filing.{Filing}
use Rattle.orders.specs.declared.order.PayOrder.{PayOrder}
use Rattle.orders.specs.declared.order.Paid.{Paid}
use Rattle.orders.specs.declared.order.Returned.{Returned}
use Rattle.ledger.specs.declared.refusal.Refusal.{Refusal}
use Rattle.ledger.specs.Views.{View}
use Rattle.ledger.specs.Calls.{NewHouse, Year, Tariff, Meter, Deliver, Close, Draw, Release, Hold}

-- a call with what it was given and what it answered; a closing with the sheet before it and after it
pub data Event : Type 0 where
  year : Row → Result (Unit {0}) Refusal → Event
  tariff : Filing → Result (Unit {0}) Refusal → Event
  meter : Reading → Result ℕ Refusal → Event
  deliver : Reading → Result (Unit {0}) Refusal → Event
  close : (readings deliveries : ℕ) → Sheet → Result (Unit {0}) Refusal → Sheet → Event
  draw : ℕ → Result PayOrder Refusal → Event
  release : PayOrder → Result Paid Returned → Event
  hold : PayOrder → Result (Unit {0}) Returned → Event

-- the call is made: what the house shows before it, and what it leaves
abbrev pub Step : View → Event → View → Type 0
Step v (year filed answer) w = Year v filed answer w
Step v (tariff filing answer) w = Tariff v filing answer w
Step v (meter r answer) w = Meter v r answer w
Step v (deliver r answer) w = Deliver v r answer w
Step v (close readings deliveries s answer s') w = Close v readings deliveries s answer w s'
Step v (draw p answer) w = Draw v p answer w
Step v (release o answer) w = Release v o answer w
Step v (hold o answer) w = Hold v o answer w

-- an order of a list, and the others of the list
pub data Among (o : PayOrder) : List PayOrder → List PayOrder → Type 0 where
  first : {os : List PayOrder} → Among o (o ∷ os) os
  later : {q : PayOrder} {os rest : List PayOrder} → Among o os rest → Among o (q ∷ os) (q ∷ rest)

-- what may be presented: an order in hand, or any order of another house
pub data Presents (serial : ℕ) (o : PayOrder) (hand : List PayOrder) : List PayOrder → Type 0 where
  own : {rest : List PayOrder} → Among o hand rest → Presents serial o hand rest
  other : (o.serial ≢ serial) → Presents serial o hand hand

-- the orders in hand after a draw
abbrev pub with_drawn : Result PayOrder Refusal → List PayOrder → List PayOrder
with_drawn (Ok o) hand = hand ++ o ∷ []
with_drawn (Err _) hand = hand

-- and after an order was presented, of which `rest` are the others: one that is not taken in comes back
abbrev pub with_presented : {X : Type 0} → Result X Returned → (hand rest : List PayOrder) → List PayOrder
with_presented (Ok _) hand rest = rest
with_presented (Err _) hand rest = hand

-- an event may present an order; `rest` are the orders in hand besides it, and all of them where none is presented
abbrev pub MayPresent : ℕ → Event → (hand rest : List PayOrder) → Type 0
MayPresent serial (release o answer) hand rest = Presents serial o hand rest
MayPresent serial (hold o answer) hand rest = Presents serial o hand rest
MayPresent serial _ hand rest = rest ≡ hand

-- the orders in hand after it
abbrev pub hand_after : Event → (hand rest : List PayOrder) → List PayOrder
hand_after (draw p answer) hand rest = with_drawn answer hand
hand_after (release o answer) hand rest = with_presented answer hand rest
hand_after (hold o answer) hand rest = with_presented answer hand rest
hand_after _ hand rest = hand

-- the calls made to a house newly made over a bank and a methodology with these meanings, the last call first,
-- with the orders in hand and what the house then shows
module _ (shape : Shape) (market : Market) (row : List Meaning) (serial : ℕ) where
  pub data Run : List Event → List PayOrder → View → Type 0 where
    new : {v : View} → v.shape ≡ shape → v.market ≡ market → v.row ≡ row → NewHouse serial v → Run [] [] v
    step : {es : List Event} {hand : List PayOrder} {v w : View} (e : Event) (rest : List PayOrder) → Run es hand v → Step v e w → MayPresent serial e hand rest → Run (e ∷ es) (hand_after e hand rest) w
