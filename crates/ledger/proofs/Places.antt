-- The money of each place adds up after every list of calls.
use Rattle.std.proofs.Common.{◌≡◌, ℕ, ◌+◌, ◌-◌, ◌*◌, ◌≤◌, true, cond, eqb, List, [], ◌∷◌, ◌++◌, Some, None, Ok, Err, Option, Result, sym, refl, ap, ◌∙◌, append-nil, arith}
use Rattle.std.proofs.lemmas.Bool.{eqb-true, and_parts}
use Rattle.std.specs.Option.{option_map}
use Rattle.metering.specs.declared.reading.Reading.{Reading}
use Rattle.agreements.specs.Meaning.{Meaning, moved}
use Rattle.banks.specs.Rows.{at_place}
use Rattle.methodology.specs.Meaning.{Meaning as Market}
use Rattle.methodology.specs.declared.shape.Shape.{Shape}
use Rattle.accounts.specs.declared.sheet.Sheet.{Sheet}
use Rattle.tariffs.specs.declared.row.Row.{Row}
use Rattle.tariffs.specs.declared.filing.Filing.{Filing}
use Rattle.orders.specs.declared.order.PayOrder.{PayOrder}
use Rattle.orders.specs.declared.order.Paid.{Paid}
use Rattle.orders.specs.declared.order.Returned.{Returned}
use Rattle.orders.specs.declared.till.Till.{Till}
use Rattle.arith.specs.Money.{cent}
use Rattle.orders.specs.Tills.{stands, ordered_at, mine, Puts}
use Rattle.ledger.specs.declared.ledger.Ledger.{Ledger}
use Rattle.ledger.specs.declared.refusal.Refusal.{Refusal}
use Rattle.ledger.specs.Views.{View, till_of, with_ledger}
use Rattle.ledger.specs.Terms.{worth, dues_at, place_after, given_at}
use Rattle.ledger.specs.Calls.{Year, Tariff, Meter, Metered, Deliver, Close, Draw, OrderDrawn, Release, Hold}
use Rattle.ledger.specs.Runs.{Event, year, tariff, meter, deliver, close, draw, release, hold, Among, Presents, own, other, with_drawn, with_presented, Run, new, step}
use Rattle.ledger.specs.Accepted.{some_or, reading_of, payment_of, accepted_at, paid_at, cents_at, in_hand}
use Rattle.ledger.specs.Law.{Settled}
use Rattle.ledger.proofs.Terms.{place_after_more, given_at_more, at_moved}
use Rattle.ledger.proofs.Hand.{by_place, here, elsewhere, cents_here, cents_there, in_hand_more, in_hand_less, Bear, bear_more, bear_rest, bear_of}

-- a call that meter did not accept brings no reading, and one that is no accepted release pays nothing
same_accepted : (p : ℕ) (e : Event) (es : List Event) → reading_of e ≡ None → accepted_at p (e ∷ es) ≡ accepted_at p es
same_accepted p e es none = ap (λ o. accepted_at p es ++ some_or o [] (λ r. cond (eqb r.number p) (r ∷ []) [])) none ∙ append-nil (accepted_at p es)

same_paid : (p : ℕ) (e : Event) (es : List Event) → payment_of e ≡ None → paid_at p (e ∷ es) ≡ paid_at p es
same_paid p e es none = let same = ap (λ o. paid_at p es + some_or o 0 (cents_at p)) none in omega arith

module _ (shape : Shape) (market : Market) (row : List Meaning) (serial : ℕ) where
  pub record Held (es : List Event) (hand : List PayOrder) (v : View) : Type 0 where
    pub shape_is : v.shape ≡ shape
    pub market_is : v.market ≡ market
    pub serial_is : (till_of v).serial ≡ serial
    pub standing : (p : ℕ) → at_place v.row p ≡ place_after (at_place row p) (accepted_at p es)
    pub on : (p : ℕ) → 1 ≤ p → ordered_at (till_of v) p ≡ in_hand p hand
    pub bear : Bear serial hand
    pub money : (p : ℕ) → 1 ≤ p → Settled shape market row es hand v p

  -- a call that leaves bank and till alone
  still : (e : Event) {es : List Event} {hand : List PayOrder} {v w : View} {l : Ledger} → reading_of e ≡ None → payment_of e ≡ None → w ≡ with_ledger v l → l.till ≡ till_of v → Held es hand v → Held (e ∷ es) hand w
  still e {es} {hand} {v} {w} read paid left till i =
      let till-same : till_of w ≡ till_of v = ap till_of left ∙ till in
      record {
        shape_is = ap (λ (u : View). u.shape) left ∙ i.shape_is;
        market_is = ap (λ (u : View). u.market) left ∙ i.market_is;
        serial_is = ap (λ (t : Till). t.serial) till-same ∙ i.serial_is;
        standing = λ p. ap (λ (u : View). at_place u.row p) left ∙ i.standing p ∙ sym (ap (place_after (at_place row p)) (same_accepted p e es read));
        on = λ p some. ap (λ t. ordered_at t p) till-same ∙ i.on p some;
        bear = i.bear;
        money =
            λ p some.
            let before = i.money p some in
            let none-paid = same_paid p e es paid in
            let none_read = ap (given_at (at_place row p)) (same_accepted p e es read) in
            let till = ap (λ t. stands t p) till-same in
            omega arith;
      }

  -- a call that leaves all alone
  idle : (e : Event) {es : List Event} {hand : List PayOrder} {v w : View} → reading_of e ≡ None → payment_of e ≡ None → w ≡ v → Held es hand v → Held (e ∷ es) hand w
  idle e {v = v} read paid same i = still e {l = v.ledger} read paid same refl i

  meter_step : {es : List Event} {hand : List PayOrder} {v w : View} (r : Reading) (dues : ℕ) → Held es hand v → Metered v r dues w → Held (meter r (Ok dues) ∷ es) hand w
  meter_step {es} {hand} {v} {w} r dues i m =
      record {
        shape_is = ap (λ (u : View). u.shape) m.left ∙ i.shape_is;
        market_is = ap (λ (u : View). u.market) m.left ∙ i.market_is;
        serial_is = m.credited.serial_is ∙ i.serial_is;
        standing =
            by_place (λ p. at_place w.row p ≡ place_after (at_place row p) (accepted_at p (meter r (Ok dues) ∷ es))) q
            (ap (λ ms. at_place ms q) m.booked.there ∙ at_moved v.row q r ∙ ap (option_map (λ m. moved m r)) (i.standing q)
            ∙ sym (place_after_more (at_place row q) (accepted_at q es) r) ∙ ap (place_after (at_place row q)) (sym more))
            (λ p ne. m.booked.elsewhere p ne ∙ i.standing p ∙ ap (place_after (at_place row p)) (sym (no_more p ne)));
        on =
            by_place (λ p. 1 ≤ p → ordered_at (till_of w) p ≡ in_hand p hand) q
            (λ some. m.credited.ordered_is ∙ i.on q some)
            (λ p ne some. m.credited.others_on_orders p some ne ∙ i.on p some);
        bear = i.bear;
        money =
            by_place (λ p. 1 ≤ p → Settled shape market row (meter r (Ok dues) ∷ es) hand w p) q
            (λ some.
            let before = i.money q some in
            let now-stands = m.credited.standing_is in
            let due = m.due ∙ ap (λ place. worth (dues_at place r)) (i.standing q) in
            let given = ap (given_at (at_place row q)) more ∙ given_at_more (at_place row q) (accepted_at q es) r in
            omega arith)
            (λ p ne some.
            let before = i.money p some in
            let now-stands = m.credited.others_stand p some ne in
            let given = ap (given_at (at_place row p)) (no_more p ne) in
            omega arith);
      }
    where
      q : ℕ
      q = r.number

      more : accepted_at q (meter r (Ok dues) ∷ es) ≡ accepted_at q es ++ (r ∷ [])
      more = ap (λ rs. accepted_at q es ++ rs) (here q (r ∷ []) [])

      no_more : (p : ℕ) → (p ≡ q → ⊥) → accepted_at p (meter r (Ok dues) ∷ es) ≡ accepted_at p es
      no_more p ne = ap (λ rs. accepted_at p es ++ rs) (elsewhere q p (r ∷ []) [] ne) ∙ append-nil (accepted_at p es)

  draw_step : {es : List Event} {hand : List PayOrder} {v w : View} (q : ℕ) (o : PayOrder) → Held es hand v → OrderDrawn v q o w → Held (draw q (Ok o) ∷ es) (hand ++ o ∷ []) w
  draw_step {es} {hand} {v} {w} q o i m =
      record {
        shape_is = ap (λ (u : View). u.shape) m.left ∙ i.shape_is;
        market_is = ap (λ (u : View). u.market) m.left ∙ i.market_is;
        serial_is = m.drawn.left.serial_is ∙ i.serial_is;
        standing = λ p. ap (λ (u : View). at_place u.row p) m.left ∙ i.standing p ∙ sym (ap (place_after (at_place row p)) (append-nil (accepted_at p es)));
        on =
            by_place (λ p. 1 ≤ p → ordered_at (till_of w) p ≡ in_hand p (hand ++ o ∷ [])) q
            (λ some. let before = i.on q some in let put = m.drawn.left.ordered_is in let cents = cents_of_q in let more = in_hand_more q hand o in omega arith)
            (λ p ne some. let before = i.on p some in let put = m.drawn.left.others_on_orders p some ne in let cents = cents_of_p p ne in let more = in_hand_more p hand o in omega arith);
        bear = bear_more serial hand o (m.drawn.serial_of ∙ i.serial_is) i.bear;
        money =
            by_place (λ p. 1 ≤ p → Settled shape market row (draw q (Ok o) ∷ es) (hand ++ o ∷ []) w p) q
            (λ some.
            let before = i.money q some in
            let given = ap (given_at (at_place row q)) (append-nil (accepted_at q es)) in
            let put = m.drawn.left.standing_is in
            let cents = cents_of_q in
            let whole = m.drawn.cents_of in
            let more = in_hand_more q hand o in
            omega arith)
            (λ p ne some.
            let before = i.money p some in
            let given = ap (given_at (at_place row p)) (append-nil (accepted_at p es)) in
            let put = m.drawn.left.others_stand p some ne in
            let cents = cents_of_p p ne in
            let more = in_hand_more p hand o in
            omega arith);
      }
    where
      cents_of_q : cents_at q o ≡ o.cents
      cents_of_q = ap (λ n. cents_at n o) (sym m.drawn.place_of) ∙ cents_here o

      cents_of_p : (p : ℕ) → (p ≡ q → ⊥) → cents_at p o ≡ 0
      cents_of_p p ne = cents_there o p (λ e. ne (e ∙ m.drawn.place_of))

  -- an order that the house takes in was in hand
  taken : {es : List Event} {hand rest : List PayOrder} {v : View} {o : PayOrder} → Held es hand v → Presents serial o hand rest → mine (till_of v) o ≡ true → Among o hand rest
  taken i (own a) t = a
  taken {v = v} {o = o} i (other ne) t = absurd (ne (eqb-true o.serial (till_of v).serial (and_parts _ _ t).0 ∙ i.serial_is))

  -- and is for no more than is on orders at its place
  pub own_mine : {es : List Event} {hand rest : List PayOrder} {v : View} {o : PayOrder} → Held es hand v → Among o hand rest → (o.serial ≡ (till_of v).serial) × (o.cents ≤ ordered_at (till_of v) o.place)
  own_mine {o = o} i a =
      (bear_of serial a i.bear ∙ sym i.serial_is, let on = i.on o.place o.placed.0 in let less = in_hand_less a o.place in let cents = cents_here o in omega arith)

  module _ {es : List Event} {hand rest : List PayOrder} {v : View} (w : View) {o : PayOrder} (i : Held es hand v) (standing : ℕ) (m : Puts (till_of v) o.place standing (ordered_at (till_of v) o.place - o.cents) (till_of w)) (a : Among o hand rest) where
    taken_on : (p : ℕ) → 1 ≤ p → ordered_at (till_of w) p ≡ in_hand p rest
    taken_on =
        by_place (λ p. 1 ≤ p → ordered_at (till_of w) p ≡ in_hand p rest) o.place
        (λ some. let before = i.on o.place some in let less = in_hand_less a o.place in let cents = cents_here o in let put = m.ordered_is in omega arith)
        (λ p ne some. let before = i.on p some in let less = in_hand_less a p in let cents = cents_there o p ne in let put = m.others_on_orders p some ne in omega arith)

    -- the order's cents are paid, or stand again
    spent_step : (e : Event) {l : Ledger} → reading_of e ≡ None → w ≡ with_ledger v l → ((p : ℕ) → 1 ≤ p → cent * paid_at p (e ∷ es) + stands (till_of w) p ≡ cent * paid_at p es + stands (till_of v) p + cent * cents_at p o) → Held (e ∷ es) rest w
    spent_step e read left whole =
        record {
          shape_is = ap (λ (u : View). u.shape) left ∙ i.shape_is;
          market_is = ap (λ (u : View). u.market) left ∙ i.market_is;
          serial_is = m.serial_is ∙ i.serial_is;
          standing = λ p. ap (λ (u : View). at_place u.row p) left ∙ i.standing p ∙ sym (ap (place_after (at_place row p)) (same_accepted p e es read));
          on = taken_on;
          bear = bear_rest serial a i.bear;
          money =
              λ p some.
              let before = i.money p some in
              let given = ap (given_at (at_place row p)) (same_accepted p e es read) in
              let less = in_hand_less a p in
              let all = whole p some in
              omega arith;
        }

  release_step : {es : List Event} {hand rest : List PayOrder} {v w : View} (o : PayOrder) (r : Result Paid Returned) → Held es hand v → Presents serial o hand rest → Release v o r w → Held (release o r ∷ es) (with_presented r hand rest) w
  release_step {es} {v = v} {w = w} o (Ok paid) i h m =
      spent_step w i (stands (till_of v) o.place) m.released.2 (taken i h m.released.0) (release o (Ok paid)) refl m.left
      (by_place (λ p. 1 ≤ p → cent * paid_at p (release o (Ok paid) ∷ es) + stands (till_of w) p ≡ cent * paid_at p es + stands (till_of v) p + cent * cents_at p o) o.place
      (λ some. let put = m.released.2.standing_is in omega arith)
      (λ p ne some. let put = m.released.2.others_stand p some ne in omega arith))
  release_step o (Err back) i h m = still (release o (Err back)) refl refl m.left m.released.same i

  hold_step : {es : List Event} {hand rest : List PayOrder} {v w : View} (o : PayOrder) (r : Result (Unit {0}) Returned) → Held es hand v → Presents serial o hand rest → Hold v o r w → Held (hold o r ∷ es) (with_presented r hand rest) w
  hold_step {es} {v = v} {w = w} o (Ok u) i h m =
      spent_step w i (stands (till_of v) o.place + cent * o.cents) m.held.1 (taken i h m.held.0) (hold o (Ok u)) refl m.left
      (by_place (λ p. 1 ≤ p → cent * paid_at p (hold o (Ok u) ∷ es) + stands (till_of w) p ≡ cent * paid_at p es + stands (till_of v) p + cent * cents_at p o) o.place
      (λ some. let put = m.held.1.standing_is in let cents = cents_here o in omega arith)
      (λ p ne some. let put = m.held.1.others_stand p some ne in let cents = cents_there o p ne in omega arith))
  hold_step o (Err back) i h m = still (hold o (Err back)) refl refl m.left m.held.same i

  year_step : {es : List Event} {hand : List PayOrder} {v w : View} (given : Row) (r : Result (Unit {0}) Refusal) → Held es hand v → Year v given r w → Held (year given r ∷ es) hand w
  year_step given (Ok u) i m = still (year given (Ok u)) refl refl m.1.left refl i
  year_step given (Err why) i m = idle (year given (Err why)) refl refl m.1 i

  tariff_step : {es : List Event} {hand : List PayOrder} {v w : View} (given : Filing) (r : Result (Unit {0}) Refusal) → Held es hand v → Tariff v given r w → Held (tariff given r ∷ es) hand w
  tariff_step given (Ok u) i m = still (tariff given (Ok u)) refl refl m.1.left refl i
  tariff_step given (Err why) i m = idle (tariff given (Err why)) refl refl m.1 i

  meters : {es : List Event} {hand : List PayOrder} {v w : View} (given : Reading) (r : Result ℕ Refusal) → Held es hand v → Meter v given r w → Held (meter given r ∷ es) hand w
  meters given (Ok dues) i m = meter_step given dues i m.1
  meters given (Err why) i m = idle (meter given (Err why)) refl refl m.1 i

  deliver_step : {es : List Event} {hand : List PayOrder} {v w : View} (given : Reading) (r : Result (Unit {0}) Refusal) → Held es hand v → Deliver v given r w → Held (deliver given r ∷ es) hand w
  deliver_step given (Ok u) i m = still (deliver given (Ok u)) refl refl m.1.left refl i
  deliver_step given (Err why) i m = idle (deliver given (Err why)) refl refl m.1 i

  close_step : {es : List Event} {hand : List PayOrder} {v w : View} (readings deliveries : ℕ) (s s' : Sheet) (r : Result (Unit {0}) Refusal) → Held es hand v → Close v readings deliveries s r w s' → Held (close readings deliveries s r s' ∷ es) hand w
  close_step readings deliveries s s' (Ok u) i m = still (close readings deliveries s (Ok u) s') refl refl m.1.left refl i
  close_step readings deliveries s s' (Err why) i m = idle (close readings deliveries s (Err why) s') refl refl m.1 i

  draws : {es : List Event} {hand : List PayOrder} {v w : View} (p : ℕ) (r : Result PayOrder Refusal) → Held es hand v → Draw v p r w → Held (draw p r ∷ es) (with_drawn r hand) w
  draws p (Ok o) i m = draw_step p o i m.1
  draws p (Err why) i m = idle (draw p (Err why)) refl refl m.1 i

  pub held_after : {es : List Event} {hand : List PayOrder} {v : View} → Run shape market row serial es hand v → Held es hand v
  held_after (new {v} shape_is market_is row_is n) =
      record {
        shape_is = shape_is;
        market_is = market_is;
        serial_is = n.money.serial_is;
        standing = λ p. ap (λ ms. at_place ms p) row_is ∙ place_unmoved (at_place row p);
        on = λ p some. n.money.none_on_orders p;
        bear = tt;
        money = λ p some. let none = n.money.none_stands p in let unpaid = nothing_given (at_place row p) in omega arith;
      }
    where
      place_unmoved : (place : Option Meaning) → place ≡ place_after place []
      place_unmoved None = refl
      place_unmoved (Some m) = refl

      nothing_given : (place : Option Meaning) → given_at place [] ≡ 0
      nothing_given None = refl
      nothing_given (Some m) = refl
  held_after (step (year given r) rest run m h) = year_step given r (held_after run) m
  held_after (step (tariff given r) rest run m h) = tariff_step given r (held_after run) m
  held_after (step (meter given r) rest run m h) = meters given r (held_after run) m
  held_after (step (deliver given r) rest run m h) = deliver_step given r (held_after run) m
  held_after (step (close readings deliveries s r s') rest run m h) = close_step readings deliveries s s' r (held_after run) m
  held_after (step (draw p r) rest run m h) = draws p r (held_after run) m
  held_after (step (release o r) rest run m h) = release_step o r (held_after run) h m
  held_after (step (hold o r) rest run m h) = hold_step o r (held_after run) h m
