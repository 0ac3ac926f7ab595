-- All orders in hand are held.
use Rattle.std.specs.Prelude.{◌≡◌, ℕ, ◌+◌, ◌*◌, ◌≤◌, List}
use Rattle.arith.specs.Money.{cent}
use Rattle.orders.specs.declared.order.PayOrder.{PayOrder}
use Rattle.orders.specs.declared.till.Till.{Till}
use Rattle.orders.specs.Tills.{stands, ordered_at}
use Rattle.ledger.specs.Views.{View, till_of, with_till}
use Rattle.ledger.specs.Accepted.{in_hand}

-- all that a till has on orders is on these
abbrev pub Covers : Till → List PayOrder → Type 0
Covers t os = (p : ℕ) → 1 ≤ p → ordered_at t p ≡ in_hand p os

-- the money that was on orders stands at its place again, and nothing else has changed
pub record AllHeld (v w : View) : Type 0 where
  pub none_on_orders : (p : ℕ) → 1 ≤ p → ordered_at (till_of w) p ≡ 0
  pub stand : (p : ℕ) → 1 ≤ p → stands (till_of w) p ≡ stands (till_of v) p + cent * ordered_at (till_of v) p
  pub left : w ≡ with_till v (till_of w)
