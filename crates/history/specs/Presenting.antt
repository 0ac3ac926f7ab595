-- What presenting an order answers and leaves.
use Rattle.std.specs.Prelude.{◌≡◌, ℕ, ◌⊎◌, List, Some, None, Ok, Err, Option, Result}
use Rattle.banks.specs.declared.bank.Bank.{Ghosts as BankGhosts}
use Rattle.methodology.specs.declared.rules.Methodology.{Ghosts as MarketGhosts}
use Rattle.orders.specs.declared.order.PayOrder.{PayOrder}
use Rattle.orders.specs.declared.order.Paid.{Paid}
use Rattle.orders.specs.declared.order.Returned.{Returned}
use Rattle.ledger.specs.Views.{View}
use Rattle.ledger.specs.Calls as calls
use Rattle.house.specs.declared.house.House.{House}
use Rattle.house.specs.Shown.{shows}
use Rattle.history.specs.declared.order_list.Orders.{Orders}
use Rattle.history.specs.declared.spending.Spending.{Spending}
use Rattle.history.specs.declared.spending.Spending.TheVariants.{Release, Hold}
use Rattle.history.specs.declared.answer.Answer.{Answer}
use Rattle.history.specs.declared.answer.Answer.TheVariants.{Accepted, Paid as PaidOut, Returned as CameBack, Absent}
use Rattle.history.specs.Slots.{slots_of, slot, without}

-- a house takes an order in, or gives it back
abbrev pub Spends : Spending → View → PayOrder → Result Answer Returned → View → Type 0
Spends Release v o (Ok a) w = (paid : Paid) × (a ≡ PaidOut paid.place paid.cents) × calls.Release v o (Ok paid) w
Spends Release v o (Err back) w = calls.Release v o (Err back) w
Spends Hold v o (Ok a) w = (a ≡ Accepted) × calls.Hold v o (Ok tt) w
Spends Hold v o (Err back) w = calls.Hold v o (Err back) w

-- the same of what stands in a slot: an order that comes back is put there again
abbrev pub PutsBack : PayOrder → Result Answer Returned → Answer → Option PayOrder → Type 0
PutsBack o (Ok told) a x' = (a ≡ told) × (x' ≡ None)
PutsBack o (Err back) a x' = (a ≡ CameBack) × (x' ≡ Some o)

abbrev pub PresentsAt : Spending → Option PayOrder → View → Answer → Option PayOrder → View → Type 0
PresentsAt how None v a x' w = (a ≡ Absent) × (x' ≡ None) × (w ≡ v)
PresentsAt how (Some o) v a x' w = (r : Result Answer Returned) × Spends how v o r w × PutsBack o r a x'

-- the order was there, and was presented: taken in it is gone, and else it is where it was
abbrev pub After : List (Option PayOrder) → ℕ → Result Answer Returned → Answer → List (Option PayOrder) → Type 0
After slots number (Ok told) a slots' = (a ≡ told) × (slots' ≡ without slots number)
After slots number (Err back) a slots' = (a ≡ CameBack) × (slots' ≡ slots)

pub record Presented (how : Spending) (number : ℕ) (slots : List (Option PayOrder)) (v : View) (o : PayOrder) (r : Result Answer Returned) (a : Answer) (slots' : List (Option PayOrder)) (w : View) : Type 0 where
  pub there : slot slots number ≡ Some o
  pub spent : Spends how v o r w
  pub after : After slots number r a slots'

-- no order was there, and no call was made
pub record Missing (number : ℕ) (slots : List (Option PayOrder)) (v : View) (a : Answer) (slots' : List (Option PayOrder)) (w : View) : Type 0 where
  pub nowhere : slot slots number ≡ None
  pub told : a ≡ Absent
  pub same_slots : slots' ≡ slots
  pub same_house : w ≡ v

abbrev pub Presentation : Spending → ℕ → List (Option PayOrder) → View → Answer → List (Option PayOrder) → View → Type 0
Presentation how number slots v a slots' w =
    Missing number slots v a slots' w ⊎ ((o : PayOrder) × (r : Result Answer Returned) × Presented how number slots v o r a slots' w)

module _ {B M : Type 0} {bank : BankGhosts B} {market : MarketGhosts M} where
  -- the same of a house and of a list of orders
  abbrev pub PresentsIn : Spending → ℕ → House B M bank market → Orders → Answer → House B M bank market → Orders → Type 0
  PresentsIn how number h orders a h' orders' = Presentation how number (slots_of orders) (shows h) a (slots_of orders') (shows h')
