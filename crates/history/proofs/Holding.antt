-- Orders in hand are held one after another.
use Rattle.std.proofs.Common.{◌≡◌, ℕ, ◌+◌, ◌*◌, ◌≤◌, true, List, [], ◌∷◌, ◌++◌, is_ok, Ok, Err, Result, sym, refl, ap, ◌∙◌, arith}
use Rattle.std.proofs.lemmas.Bool.{eqb-true, eq-eqb, le-leb, and_parts, and_from, false≢true}
use Rattle.arith.specs.Money.{cent}
use Rattle.orders.specs.declared.order.PayOrder.{PayOrder}
use Rattle.orders.specs.declared.order.Returned.{Returned}
use Rattle.orders.specs.Tills.{stands, ordered_at, mine}
use Rattle.ledger.specs.Views.{View, till_of, with_till}
use Rattle.ledger.specs.Calls as calls
use Rattle.ledger.specs.Accepted.{in_hand}
use Rattle.ledger.proofs.Hand.{by_place, cents_here, cents_there, in_hand_more}
use Rattle.history.specs.Bearing.{all_bear}
use Rattle.history.specs.Holding.{AllHeld}

-- what lasts while orders are held: those left are the house's own, and no money is lost
pub record Holding (v : View) (os : List PayOrder) (w : View) : Type 0 where
  pub own : all_bear (till_of w).serial os ≡ true
  pub covered : (p : ℕ) → 1 ≤ p → ordered_at (till_of w) p ≡ in_hand p os
  pub whole : (p : ℕ) → 1 ≤ p → stands (till_of w) p + cent * ordered_at (till_of w) p ≡ stands (till_of v) p + cent * ordered_at (till_of v) p
  pub left : w ≡ with_till v (till_of w)

all_but_last : (serial : ℕ) (os : List PayOrder) (o : PayOrder) → all_bear serial (os ++ o ∷ []) ≡ true → (all_bear serial os ≡ true) × (o.serial ≡ serial)
all_but_last serial [] o h = (refl, eqb-true o.serial serial (and_parts _ _ h).0)
all_but_last serial (q ∷ os) o h =
    let parts = and_parts _ _ h in
    let rest = all_but_last serial os o parts.1 in
    (and_from _ _ parts.0 rest.0, rest.1)

module _ (v : View) (os : List PayOrder) (o : PayOrder) (w : View) (i : Holding v (os ++ o ∷ []) w) where
  -- the last order is the house's own
  last_mine : mine (till_of w) o ≡ true
  last_mine =
      let some = o.placed.0 in
      let on = i.covered o.place some in
      let more = in_hand_more o.place os o in
      let cents = cents_here o in
      and_from _ _ (eq-eqb o.serial (till_of w).serial (all_but_last (till_of w).serial os o i.own).1) (le-leb o.cents (ordered_at (till_of w) o.place) (omega arith))

  -- and so the house takes it in
  pub taken_in : (r : Result (Unit {0}) Returned) (u : View) → calls.Hold w o r u → is_ok r ≡ true
  taken_in (Ok x) u m = refl
  taken_in (Err back) u m = absurd (false≢true (sym m.held.not_mine ∙ last_mine))

  pub held_one : (u : View) → calls.Hold w o (Ok tt) u → Holding v os u
  held_one u m =
      let put = m.held.1 in
      record {
        own = ap (λ s. all_bear s os) put.serial_is ∙ (all_but_last (till_of w).serial os o i.own).0;
        covered =
            by_place (λ p. 1 ≤ p → ordered_at (till_of u) p ≡ in_hand p os) o.place
            (λ some. let on = i.covered o.place some in let more = in_hand_more o.place os o in let cents = cents_here o in let now_on = put.ordered_is in omega arith)
            (λ p ne some. let on = i.covered p some in let more = in_hand_more p os o in let cents = cents_there o p ne in let now_on = put.others_on_orders p some ne in omega arith);
        whole =
            by_place (λ p. 1 ≤ p → stands (till_of u) p + cent * ordered_at (till_of u) p ≡ stands (till_of v) p + cent * ordered_at (till_of v) p) o.place
            (λ some. let before = i.whole o.place some in let on = i.covered o.place some in let more = in_hand_more o.place os o in let cents = cents_here o in let now_on = put.ordered_is in let now-stands = put.standing_is in omega arith)
            (λ p ne some. let before = i.whole p some in let now_on = put.others_on_orders p some ne in let now-stands = put.others_stand p some ne in omega arith);
        left = m.left ∙ ap (λ x. with_till x (till_of u)) i.left;
      }

pub all_held : (v : View) (w : View) → Holding v [] w → AllHeld v w
all_held v w i =
    record {
      none_on_orders = λ p some. i.covered p some;
      stand = λ p some. let before = i.whole p some in let none = i.covered p some in omega arith;
      left = i.left;
    }
