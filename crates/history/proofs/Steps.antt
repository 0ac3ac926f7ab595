-- Each call of a list adds one event to its history, or none where the order that it names is not there.
use Rattle.std.proofs.Common.{◌≡◌, ℕ, zero, suc, ◌+◌, ◌-◌, ◌<◌, ◌≤◌, true, List, [], ◌∷◌, ◌++◌, length, get_or, take, Some, None, Ok, Err, Option, Result, sym, refl, ap, ◌∙◌, subst, inl, inr, arith, length-append, take_all}
use Rattle.std.proofs.lemmas.List.{take_more}
use Rattle.std.proofs.lemmas.Bool.{eqb-true, eqb-false, eq-eqb, and_parts, and_from, or_parts}
use Rattle.metering.specs.declared.reading.Reading.{Reading}
use Rattle.agreements.specs.Meaning.{Meaning}
use Rattle.methodology.specs.Meaning.{Meaning as Market}
use Rattle.methodology.specs.declared.shape.Shape.{Shape}
use Rattle.accounts.specs.declared.sheet.Sheet.{Sheet}
use Rattle.tariffs.specs.declared.row.Row.{Row}
use Rattle.tariffs.specs.declared.filing.Filing.{Filing}
use Rattle.settlement.proofs.Keeping.{every_closing}
use Rattle.orders.specs.declared.order.PayOrder.{PayOrder}
use Rattle.orders.specs.declared.order.Returned.{Returned}
use Rattle.orders.specs.Tills.{mine, ordered_at}
use Rattle.ledger.specs.declared.refusal.Refusal.{Refusal}
use Rattle.ledger.specs.Views.{View, till_of}
use Rattle.ledger.specs.Terms.{worth, dues_at}
use Rattle.ledger.specs.Calls as calls
use Rattle.ledger.specs.Runs.{Event, year, tariff, meter, deliver, close, draw, release, hold, Run, new, step, own, other, with_drawn}
use Rattle.ledger.specs.Accepted.{in_hand}
use Rattle.ledger.proofs.Hand.{Bear}
use Rattle.ledger.proofs.Places.{held_after}
use Rattle.ledger.proofs.Months.{every_run}
use Rattle.history.specs.declared.call.Call.{Call}
use Rattle.history.specs.declared.call.Call.TheVariants.{Year, Tariff, Meter, Deliver, Close, Draw, Present}
use Rattle.history.specs.declared.call.Named.{Named}
use Rattle.history.specs.declared.call.Named.TheVariants.{Drawn, Other}
use Rattle.history.specs.declared.spending.Spending.{Spending}
use Rattle.history.specs.declared.spending.Spending.TheVariants.{Release, Hold}
use Rattle.history.specs.declared.call.Stated.{Stated}
use Rattle.history.specs.declared.answer.Answer.{Answer}
use Rattle.history.specs.declared.answer.Answer.TheVariants.{Metered}
use Rattle.history.specs.declared.order_list.Orders.{Orders}
use Rattle.history.specs.Slots.{slot, in_slots, slots_of}
use Rattle.history.specs.Presenting.{Spends, After, Missing, Presentation}
use Rattle.history.specs.Histories.{told, meter_told, answer_to, named, hand_drawn, Makes, History, begun, made, lacking, Performed, Next}
use Rattle.history.specs.Bearing.{any_bears, all_bear, Foreign}
use Rattle.history.specs.Steps.{close_told, Closes, draw_told, DrawsInHand, Stepped}
use Rattle.history.proofs.Slots.{none_not_some, some_same, numbered, without_long, among_slots, slots_more}

-- orders of other houses
foreign_at : (serial : ℕ) (slots : List (Option PayOrder)) (i : ℕ) (o : PayOrder) → Foreign serial slots → get_or slots i None ≡ Some o → o.serial ≡ serial → ⊥
foreign_at serial [] i o f h = absurd (none_not_some h)
foreign_at serial (None ∷ slots) zero o f h = absurd (none_not_some h)
foreign_at serial (Some q ∷ slots) zero o f h = λ e. eqb-false q.serial serial (or_parts _ _ f).0 (ap (λ (x : PayOrder). x.serial) (some_same h) ∙ e)
foreign_at serial (x ∷ slots) (suc i) o f h = foreign_at serial slots i o (or_parts _ _ f).1 h

pub foreign_slot : (serial : ℕ) (slots : List (Option PayOrder)) (number : ℕ) (o : PayOrder) → Foreign serial slots → slot slots number ≡ Some o → o.serial ≡ serial → ⊥
foreign_slot serial slots number o f h = foreign_at serial slots (number - 1) o f (numbered slots number o h).2

not_mine : (v : View) (others : List (Option PayOrder)) (number : ℕ) (o : PayOrder) → Foreign (till_of v).serial others → slot others number ≡ Some o → mine (till_of v) o ≡ true → ⊥
not_mine v others number o foreign there m =
    foreign_slot (till_of v).serial others number o foreign there (eqb-true o.serial (till_of v).serial (and_parts _ _ m).0)

module _ (shape : Shape) (market : Market) (row : List Meaning) (serial : ℕ) (others : List (Option PayOrder)) where
  -- one event more
  more : (c : Call) (e : Event) (a : Answer) {hand hand' : List (Option PayOrder)} {v w : View} (cs : List Call) (answers : List Answer) (y : Performed shape market row serial others cs answers hand v) → Makes c hand others e hand' → Run shape market row serial (e ∷ y.events) (in_slots hand') w → a ≡ answer_to row y.events e → Performed shape market row serial others (cs ++ c ∷ []) (answers ++ a ∷ []) hand' w
  more c e a {hand' = hand'} {w = w} cs answers y makes run is =
      record {
        events = e ∷ y.events;
        history = subst (λ x. History shape market row serial others (cs ++ c ∷ []) (answers ++ x ∷ []) (e ∷ y.events) hand' w) (sym is) (made c y.history makes run);
        run = run;
        law = every_run every_closing shape market row serial (e ∷ y.events) (in_slots hand') w run;
      }

  pub next_year : (given : Row) (r : Result (Unit {0}) Refusal) (a : Answer) (hand : List (Option PayOrder)) (v w : View) → a ≡ told r → calls.Year v given r w → Next shape market row serial others (Year given) a hand v hand w
  next_year given r a hand v w is m cs answers y = more (Year given) (year given r) a cs answers y (r, refl, refl) (step (year given r) _ y.run m refl) is

  pub next_tariff : (given : Filing) (r : Result (Unit {0}) Refusal) (a : Answer) (hand : List (Option PayOrder)) (v w : View) → a ≡ told r → calls.Tariff v given r w → Next shape market row serial others (Tariff given) a hand v hand w
  next_tariff given r a hand v w is m cs answers y = more (Tariff given) (tariff given r) a cs answers y (r, refl, refl) (step (tariff given r) _ y.run m refl) is

  pub next_deliver : (given : Reading) (r : Result (Unit {0}) Refusal) (a : Answer) (hand : List (Option PayOrder)) (v w : View) → a ≡ told r → calls.Deliver v given r w → Next shape market row serial others (Deliver given) a hand v hand w
  next_deliver given r a hand v w is m cs answers y = more (Deliver given) (deliver given r) a cs answers y (r, refl, refl) (step (deliver given r) _ y.run m refl) is

  -- the dues told are what the terms give, from the standing that the bank came with
  meter_answer : (given : Reading) (r : Result ℕ Refusal) (w : View) {es : List Event} {hand : List PayOrder} {v : View} → Run shape market row serial es hand v → calls.Meter v given r w → meter_told r ≡ answer_to row es (meter given r)
  meter_answer given (Ok dues) w run m =
      ap Metered m.1.due ∙ ap (λ place. Metered (worth (dues_at place given))) ((held_after shape market row serial run).standing given.number)
  meter_answer given (Err why) w run m = refl

  pub next_meter : (given : Reading) (r : Result ℕ Refusal) (a : Answer) (hand : List (Option PayOrder)) (v w : View) → a ≡ meter_told r → calls.Meter v given r w → Next shape market row serial others (Meter given) a hand v hand w
  next_meter given r a hand v w is m cs answers y = more (Meter given) (meter given r) a cs answers y (r, refl, refl) (step (meter given r) _ y.run m refl) (is ∙ meter_answer given r w y.run m)

  close_answer : (stated : Stated) (r : Result (Unit {0}) Refusal) (s s' : Sheet) (es : List Event) → close_told r s' ≡ answer_to row es (close stated.readings stated.deliveries s r s')
  close_answer stated (Ok u) s s' es = refl
  close_answer stated (Err why) s s' es = refl

  pub next_close : (stated : Stated) (a : Answer) (hand : List (Option PayOrder)) (v w : View) → Closes v stated a w → Next shape market row serial others (Close stated) a hand v hand w
  next_close stated a hand v w (r, s, s', is, m) cs answers y = more (Close stated) (close stated.readings stated.deliveries s r s') a cs answers y (r, s, s', refl, refl) (step (close stated.readings stated.deliveries s r s') _ y.run m refl) (is ∙ close_answer stated r s s' y.events)

  draw_answer : (place : ℕ) (r : Result PayOrder Refusal) (es : List Event) → draw_told r ≡ answer_to row es (draw place r)
  draw_answer place (Ok o) es = refl
  draw_answer place (Err why) es = refl

  drawn_slots : (r : Result PayOrder Refusal) (hand : List (Option PayOrder)) → with_drawn r (in_slots hand) ≡ in_slots (hand_drawn r hand)
  drawn_slots (Ok o) hand = sym (slots_more hand o)
  drawn_slots (Err why) hand = refl

  pub next_draw : (place : ℕ) (a : Answer) (hand hand' : List (Option PayOrder)) (v w : View) → DrawsInHand v place hand a hand' w → Next shape market row serial others (Draw place) a hand v hand' w
  next_draw place a hand hand' v w (r, is, left, m) cs answers y =
      more (Draw place) (draw place r) a cs answers y (r, refl, left)
      (subst (λ os. Run shape market row serial (draw place r ∷ y.events) os w) (drawn_slots r hand ∙ ap in_slots (sym left)) (step (draw place r) _ y.run m refl))
      (is ∙ draw_answer place r y.events)

  -- an order in hand is presented
  next_own_release : (number : ℕ) (o : PayOrder) (r : Result Answer Returned) (a : Answer) (hand hand' : List (Option PayOrder)) (v w : View) → slot hand number ≡ Some o → Spends Release v o r w → After hand number r a hand' → Next shape market row serial others (Present Release (Drawn number)) a hand v hand' w
  next_own_release number o (Ok told') a hand hand' v w there (paid, is, m) (same, left) cs answers y =
      more (Present Release (Drawn number)) (release o (Ok paid)) a cs answers y (o, Ok paid, there, refl, left)
      (subst (λ slots. Run shape market row serial (release o (Ok paid) ∷ y.events) (in_slots slots) w) (sym left) (step (release o _) _ y.run m (own (among_slots hand number o there)))) (same ∙ is)
  next_own_release number o (Err back) a hand hand' v w there m (same, left) cs answers y =
      more (Present Release (Drawn number)) (release o (Err back)) a cs answers y (o, Err back, there, refl, left)
      (subst (λ slots. Run shape market row serial (release o (Err back) ∷ y.events) (in_slots slots) w) (sym left) (step (release o _) _ y.run m (own (among_slots hand number o there)))) same

  next_own_hold : (number : ℕ) (o : PayOrder) (r : Result Answer Returned) (a : Answer) (hand hand' : List (Option PayOrder)) (v w : View) → slot hand number ≡ Some o → Spends Hold v o r w → After hand number r a hand' → Next shape market row serial others (Present Hold (Drawn number)) a hand v hand' w
  next_own_hold number o (Ok told') a hand hand' v w there (is, m) (same, left) cs answers y =
      more (Present Hold (Drawn number)) (hold o (Ok tt)) a cs answers y (o, Ok tt, there, refl, left)
      (subst (λ slots. Run shape market row serial (hold o (Ok tt) ∷ y.events) (in_slots slots) w) (sym left) (step (hold o _) _ y.run m (own (among_slots hand number o there)))) (same ∙ is)
  next_own_hold number o (Err back) a hand hand' v w there m (same, left) cs answers y =
      more (Present Hold (Drawn number)) (hold o (Err back)) a cs answers y (o, Err back, there, refl, left)
      (subst (λ slots. Run shape market row serial (hold o (Err back) ∷ y.events) (in_slots slots) w) (sym left) (step (hold o _) _ y.run m (own (among_slots hand number o there)))) same

  -- no order was there
  next_missing : (how : Spending) (which : Named) (number : ℕ) (slots slots' : List (Option PayOrder)) (a : Answer) (hand hand' : List (Option PayOrder)) (v w : View) → named hand others which ≡ slot slots number → hand' ≡ hand → Missing number slots v a slots' w → Next shape market row serial others (Present how which) a hand v hand' w
  next_missing how which number slots slots' a hand hand' v w is left m cs answers y =
      subst (λ h. Performed shape market row serial others (cs ++ Present how which ∷ []) (answers ++ a ∷ []) h w) (sym left)
      (subst (λ u. Performed shape market row serial others (cs ++ Present how which ∷ []) (answers ++ a ∷ []) hand u) (sym m.same_house)
      (subst (λ b. Performed shape market row serial others (cs ++ Present how which ∷ []) (answers ++ b ∷ []) hand v) (sym m.told)
      record {
        events = y.events;
        history = lacking (Present how which) y.history (is ∙ m.nowhere);
        run = y.run;
        law = y.law;
      }))

  pub next_own : (how : Spending) (number : ℕ) (a : Answer) (hand hand' : List (Option PayOrder)) (v w : View) → Presentation how number hand v a hand' w → Next shape market row serial others (Present how (Drawn number)) a hand v hand' w
  next_own how number a hand hand' v w (inl m) = next_missing how (Drawn number) number hand hand' a hand hand' v w refl m.same_slots m
  next_own Release number a hand hand' v w (inr (o, r, m)) = next_own_release number o r a hand hand' v w m.there m.spent m.after
  next_own Hold number a hand hand' v w (inr (o, r, m)) = next_own_hold number o r a hand hand' v w m.there m.spent m.after

  -- an order of another house comes back
  next_other_release : (number : ℕ) (o : PayOrder) (r : Result Answer Returned) (a : Answer) (hand others' : List (Option PayOrder)) (v w : View) → Foreign (till_of v).serial others → slot others number ≡ Some o → Spends Release v o r w → After others number r a others' → Next shape market row serial others (Present Release (Other number)) a hand v hand w
  next_other_release number o (Ok told') a hand others' v w foreign there (paid, is, m) after cs answers y =
      absurd (not_mine v others number o foreign there m.released.0)
  next_other_release number o (Err back) a hand others' v w foreign there m (same, left) cs answers y =
      more (Present Release (Other number)) (release o (Err back)) a cs answers y (o, Err back, there, refl, refl)
      (step (release o _) _ y.run m (other (λ e. foreign_slot (till_of v).serial others number o foreign there (e ∙ sym (held_after shape market row serial y.run).serial_is)))) same

  next_other_hold : (number : ℕ) (o : PayOrder) (r : Result Answer Returned) (a : Answer) (hand others' : List (Option PayOrder)) (v w : View) → Foreign (till_of v).serial others → slot others number ≡ Some o → Spends Hold v o r w → After others number r a others' → Next shape market row serial others (Present Hold (Other number)) a hand v hand w
  next_other_hold number o (Ok told') a hand others' v w foreign there (is, m) after cs answers y =
      absurd (not_mine v others number o foreign there m.held.0)
  next_other_hold number o (Err back) a hand others' v w foreign there m (same, left) cs answers y =
      more (Present Hold (Other number)) (hold o (Err back)) a cs answers y (o, Err back, there, refl, refl)
      (step (hold o _) _ y.run m (other (λ e. foreign_slot (till_of v).serial others number o foreign there (e ∙ sym (held_after shape market row serial y.run).serial_is)))) same

  pub next_other : (how : Spending) (number : ℕ) (a : Answer) (hand others' : List (Option PayOrder)) (v w : View) → Foreign (till_of v).serial others → Presentation how number others v a others' w → Next shape market row serial others (Present how (Other number)) a hand v hand w
  next_other how number a hand others' v w foreign (inl m) = next_missing how (Other number) number others others' a hand hand v w refl refl m
  next_other Release number a hand others' v w foreign (inr (o, r, m)) = next_other_release number o r a hand others' v w foreign m.there m.spent m.after
  next_other Hold number a hand others' v w foreign (inr (o, r, m)) = next_other_hold number o r a hand others' v w foreign m.there m.spent m.after

  -- a house newly made, before any call
  pub performed_none : (v : View) (answers : List Answer) (hand : List (Option PayOrder)) → v.shape ≡ shape → v.market ≡ market → v.row ≡ row → calls.NewHouse serial v → answers ≡ [] → hand ≡ [] → Performed shape market row serial others [] answers hand v
  performed_none v answers hand Shape-is market_is row_is n unanswered none =
      let run : Run shape market row serial [] [] v = new Shape-is market_is row_is n in
      subst (λ x. Performed shape market row serial others [] x hand v) (sym unanswered)
      (subst (λ h. Performed shape market row serial others [] [] h v) (sym none)
      record { events = []; history = begun run; run = run; law = every_run every_closing shape market row serial [] [] v run })

-- orders of other houses stay where they are
others_taken : (how : Spending) (number : ℕ) (o : PayOrder) (r : Result Answer Returned) (a : Answer) (others others' : List (Option PayOrder)) (v w : View) → Foreign (till_of v).serial others → slot others number ≡ Some o → Spends how v o r w → After others number r a others' → others' ≡ others
others_taken Release number o (Ok told') a others others' v w foreign there (paid, is, m) after = absurd (not_mine v others number o foreign there m.released.0)
others_taken Hold number o (Ok told') a others others' v w foreign there (is, m) after = absurd (not_mine v others number o foreign there m.held.0)
others_taken Release number o (Err back) a others others' v w foreign there m (same, left) = left
others_taken Hold number o (Err back) a others others' v w foreign there m (same, left) = left

pub others_stay : (how : Spending) (number : ℕ) (a : Answer) (others others' : List (Option PayOrder)) (v w : View) → Foreign (till_of v).serial others → Presentation how number others v a others' w → others' ≡ others
others_stay how number a others others' v w foreign (inl m) = m.same_slots
others_stay how number a others others' v w foreign (inr (o, r, m)) = others_taken how number o r a others others' v w foreign m.there m.spent m.after

-- the orders in hand are one more at most
own_long : (number : ℕ) (o : PayOrder) (r : Result Answer Returned) (a : Answer) (hand hand' : List (Option PayOrder)) → slot hand number ≡ Some o → After hand number r a hand' → length hand' ≡ length hand
own_long number o (Ok told') a hand hand' there (same, left) = ap length left ∙ without_long hand number (numbered hand number o there).0
own_long number o (Err back) a hand hand' there (same, left) = ap length left

pub presented_long : (how : Spending) (number : ℕ) (a : Answer) (hand hand' : List (Option PayOrder)) (v w : View) → Presentation how number hand v a hand' w → length hand' ≡ length hand
presented_long how number a hand hand' v w (inl m) = ap length m.same_slots
presented_long how number a hand hand' v w (inr (o, r, m)) = own_long number o r a hand hand' m.there m.after

drawn_long : (r : Result PayOrder Refusal) (hand : List (Option PayOrder)) → length (hand_drawn r hand) ≤ length hand + 1
drawn_long (Ok o) hand = let long = length-append hand (Some o ∷ []) in omega arith
drawn_long (Err why) hand = omega arith

pub draws_long : (v : View) (place : ℕ) (hand : List (Option PayOrder)) (a : Answer) (hand' : List (Option PayOrder)) (w : View) → DrawsInHand v place hand a hand' w → length hand' ≤ length hand + 1
draws_long v place hand a hand' w (r, is, left, m) = let most = drawn_long r hand in let same = ap length left in omega arith

-- a call that leaves every order where it was
pub stays : {c : Call} {a : Answer} {v w : View} {hand others : Orders} → ((shape : Shape) (market : Market) (row : List Meaning) (serial : ℕ) → Next shape market row serial (slots_of others) c a (slots_of hand) v (slots_of hand) w) → Stepped c a v hand others w hand others
stays next = record { next = next; others_stay = refl; long = omega arith; room = refl }

-- the first calls of a list are performed, and one more is made
pub one_more : (shape : Shape) (market : Market) (row : List Meaning) (serial : ℕ) (others₁ others : List (Option PayOrder)) (calls : List Call) (n : ℕ) (c : Call) (a : Answer) (answers answers' : List Answer) (hand hand' : List (Option PayOrder)) (v w : View) → n < length calls → c ≡ get_or calls n c → others₁ ≡ others → Next shape market row serial others₁ c a hand v hand' w → answers' ≡ answers ++ a ∷ [] → Performed shape market row serial others (take n calls) answers hand v → Performed shape market row serial others (take (n + 1) calls) answers' hand' w
one_more shape market row serial others₁ others calls n c a answers answers' hand hand' v w h is same next more y =
    let t : take (n + 1) calls ≡ take n calls ++ c ∷ [] = take_more calls n c h ∙ ap (λ x. take n calls ++ x ∷ []) (sym is) in
    subst (λ cs. Performed shape market row serial others cs answers' hand' w) (sym t)
    (subst (λ xs. Performed shape market row serial others (take n calls ++ c ∷ []) xs hand' w) (sym more)
    (subst (λ o. Next shape market row serial o c a hand v hand' w) same next (take n calls) answers y))

-- the whole list is performed, over the market and the bank that were given
pub all_taken : (shape : Shape) (market market' : Market) (row row' : List Meaning) (serial : ℕ) (others : List (Option PayOrder)) (answers : List Answer) (calls : List Call) (n : ℕ) (hand : List (Option PayOrder)) (v : View) → market ≡ market' → row ≡ row' → length calls ≤ n → Performed shape market row serial others (take n calls) answers hand v → Performed shape market' row' serial others calls answers hand v
all_taken shape market market' row row' serial others answers calls n hand v market_is row_is h y =
    subst (λ m. Performed shape m row' serial others calls answers hand v) market_is
    (subst (λ r. Performed shape market r serial others calls answers hand v) row_is
    (subst (λ cs. Performed shape market row serial others cs answers hand v) (take_all n calls h) y))

-- orders of other houses stay so
pub still_foreign : (shape : Shape) (market : Market) (row : List Meaning) (serial : ℕ) (others slots : List (Option PayOrder)) (cs : List Call) (answers : List Answer) (hand : List (Option PayOrder)) (v : View) → Performed shape market row serial others cs answers hand v → slots ≡ others → Foreign serial others → Foreign (till_of v).serial slots
still_foreign shape market row serial others slots cs answers hand v y same f =
    ap (any_bears (till_of v).serial) same ∙ ap (λ s. any_bears s others) (held_after shape market row serial y.run).serial_is ∙ f

-- the orders in hand are the house's own, and all that it has money on orders for
bear_so : (serial : ℕ) (os : List PayOrder) → Bear serial os → all_bear serial os ≡ true
bear_so serial [] b = refl
bear_so serial (o ∷ os) b = and_from _ _ (eq-eqb o.serial serial b.0) (bear_so serial os b.1)

pub all_own : (shape : Shape) (market : Market) (row : List Meaning) (serial : ℕ) (others : List (Option PayOrder)) (cs : List Call) (answers : List Answer) (hand : List (Option PayOrder)) (v : View) → Performed shape market row serial others cs answers hand v → (all_bear (till_of v).serial (in_slots hand) ≡ true) × ((p : ℕ) → 1 ≤ p → ordered_at (till_of v) p ≡ in_hand p (in_slots hand))
all_own shape market row serial others cs answers hand v y =
    let h = held_after shape market row serial y.run in
    (ap (λ s. all_bear s (in_slots hand)) h.serial_is ∙ bear_so serial (in_slots hand) h.bear, h.on)
