-- The orders that a performed list drew are counted as they are numbered in hand.
use Rattle.std.proofs.Common.{◌≡◌, ℕ, ◌+◌, ◌-◌, ◌<◌, ◌≤◌, leb, List, [], ◌∷◌, ◌++◌, length, get_or, Some, None, Ok, Err, Option, Result, sym, refl, ap, ◌∙◌, arith, length-append}
use Rattle.std.proofs.lemmas.Bool.{cond-true, le-leb}
use Rattle.std.proofs.Math.Seq.{get_or-append_seam}
use Rattle.metering.specs.declared.reading.Reading.{Reading}
use Rattle.agreements.specs.Meaning.{Meaning}
use Rattle.methodology.specs.Meaning.{Meaning as Market}
use Rattle.methodology.specs.declared.shape.Shape.{Shape}
use Rattle.accounts.specs.declared.sheet.Sheet.{Sheet}
use Rattle.orders.specs.declared.order.PayOrder.{PayOrder}
use Rattle.orders.specs.declared.order.Paid.{Paid as Payment}
use Rattle.orders.specs.declared.order.Returned.{Returned}
use Rattle.ledger.specs.declared.refusal.Refusal.{Refusal}
use Rattle.ledger.specs.Views.{View}
use Rattle.ledger.specs.Runs.{Event, meter, close, draw, release, hold}
use Rattle.history.specs.declared.call.Call.{Call}
use Rattle.history.specs.declared.call.Call.TheVariants.{Year, Tariff, Meter, Deliver, Close, Draw, Present}
use Rattle.history.specs.declared.call.Named.{Named}
use Rattle.history.specs.declared.call.Named.TheVariants.{Drawn as DrawnHere, Other}
use Rattle.history.specs.declared.spending.Spending.TheVariants.{Release, Hold}
use Rattle.history.specs.declared.answer.Answer.{Answer}
use Rattle.history.specs.declared.answer.Answer.TheVariants.{Accepted, Metered, Closed, Drawn, Paid, Refused, Returned as CameBack, Absent}
use Rattle.history.specs.Slots.{slot}
use Rattle.history.specs.Histories.{told, answer_to, named, hand_drawn, hand_spent, Makes, History, begun, made, lacking}
use Rattle.history.proofs.Slots.{numbered, without_long}
use Rattle.printout.specs.Counting.{last_number, orders_after}
use Rattle.printout.specs.Numbering.{orders_over, NumberedAsNamed}

-- how many orders an answer tells to be drawn
abbrev drawn_by : Answer → ℕ
drawn_by Accepted = 0
drawn_by (Metered dues) = 0
drawn_by (Closed sheet) = 0
drawn_by (Drawn place cents) = 1
drawn_by (Paid place cents) = 0
drawn_by (Refused why) = 0
drawn_by CameBack = 0
drawn_by Absent = 0

one_at_most : (a : Answer) → drawn_by a ≤ 1
one_at_most Accepted = omega arith
one_at_most (Metered dues) = omega arith
one_at_most (Closed sheet) = omega arith
one_at_most (Drawn place cents) = omega arith
one_at_most (Paid place cents) = omega arith
one_at_most (Refused why) = omega arith
one_at_most CameBack = omega arith
one_at_most Absent = omega arith

counted : (n : ℕ) (a : Answer) → n < last_number → orders_after n a ≡ n + drawn_by a
counted n Accepted h = omega arith
counted n (Metered dues) h = omega arith
counted n (Closed sheet) h = omega arith
counted n (Drawn place cents) h = omega arith
counted n (Paid place cents) h = omega arith
counted n (Refused why) h = omega arith
counted n CameBack h = omega arith
counted n Absent h = omega arith

one_more : (n : ℕ) (answers : List Answer) (a : Answer) → orders_over n (answers ++ a ∷ []) ≡ orders_after (orders_over n answers) a
one_more n [] a = refl
one_more n (x ∷ answers) a = one_more (orders_after n x) answers a

-- the answer to a call tells how many numbers in hand there are more
module _ (row : List Meaning) (es : List Event) (hand : List (Option PayOrder)) where
  abbrev Grows : Event → List (Option PayOrder) → Type 0
  Grows e hand' = length hand' ≡ length hand + drawn_by (answer_to row es e)

  grows_so : (e e₀ : Event) (hand' hand₀ : List (Option PayOrder)) → e ≡ e₀ → hand' ≡ hand₀ → Grows e₀ hand₀ → Grows e hand'
  grows_so e e₀ hand' hand₀ is left g = ap length left ∙ g ∙ ap (λ x. length hand + drawn_by (answer_to row es x)) (sym is)

  told_none : (r : Result (Unit {0}) Refusal) → drawn_by (told r) ≡ 0
  told_none (Ok u) = refl
  told_none (Err why) = refl

  metered_none : (given : Reading) (r : Result ℕ Refusal) → Grows (meter given r) hand
  metered_none given (Ok u) = omega arith
  metered_none given (Err why) = omega arith

  closed_none : (readings deliveries : ℕ) (s s' : Sheet) (r : Result (Unit {0}) Refusal) → Grows (close readings deliveries s r s') hand
  closed_none readings deliveries s s' (Ok u) = omega arith
  closed_none readings deliveries s s' (Err why) = omega arith

  drawn_one : (place : ℕ) (r : Result PayOrder Refusal) → Grows (draw place r) (hand_drawn r hand)
  drawn_one place (Ok o) = length-append hand (Some o ∷ [])
  drawn_one place (Err why) = omega arith

  spent_none : {X : Type 0} (others : List (Option PayOrder)) (o : PayOrder) (r : Result X Returned) (which : Named) → named hand others which ≡ Some o → length (hand_spent r which hand) ≡ length hand
  spent_none others o (Ok u) (DrawnHere number) there = without_long hand number (numbered hand number o there).0
  spent_none others o (Ok u) (Other number) there = refl
  spent_none others o (Err back) which there = refl

  released_none : (o : PayOrder) (r : Result Payment Returned) → drawn_by (answer_to row es (release o r)) ≡ 0
  released_none o (Ok paid) = refl
  released_none o (Err back) = refl

  held_none : (o : PayOrder) (r : Result (Unit {0}) Returned) → drawn_by (answer_to row es (hold o r)) ≡ 0
  held_none o (Ok u) = refl
  held_none o (Err back) = refl

  grown : (c : Call) (others hand' : List (Option PayOrder)) (e : Event) → Makes c hand others e hand' → Grows e hand'
  grown (Year given) others hand' e (r, is, left) = grows_so e _ hand' _ is left (let none = told_none r in omega arith)
  grown (Tariff given) others hand' e (r, is, left) = grows_so e _ hand' _ is left (let none = told_none r in omega arith)
  grown (Meter given) others hand' e (r, is, left) = grows_so e _ hand' _ is left (metered_none given r)
  grown (Deliver given) others hand' e (r, is, left) = grows_so e _ hand' _ is left (let none = told_none r in omega arith)
  grown (Close stated) others hand' e (r, s, s', is, left) = grows_so e _ hand' _ is left (closed_none stated.readings stated.deliveries s s' r)
  grown (Draw place) others hand' e (r, is, left) = grows_so e _ hand' _ is left (drawn_one place r)
  grown (Present Release which) others hand' e (o, r, there, is, left) =
      grows_so e _ hand' _ is left (let long = spent_none others o r which there in let none = released_none o r in omega arith)
  grown (Present Hold which) others hand' e (o, r, there, is, left) =
      grows_so e _ hand' _ is left (let long = spent_none others o r which there in let none = held_none o r in omega arith)

module _ (shape : Shape) (market : Market) (row : List Meaning) (serial : ℕ) (others : List (Option PayOrder)) where
  fewer : {cs : List Call} {answers : List Answer} {es : List Event} {hand : List (Option PayOrder)} {v : View} → History shape market row serial others cs answers es hand v → length hand ≤ length answers
  fewer (begun run) = omega arith
  fewer (made {answers = answers} {es = es} {hand = hand} {hand' = hand'} c {e = e} h m run) =
      let before = fewer h in
      let long = length-append answers (answer_to row es e ∷ []) in
      let more = grown row es hand c others hand' e m in
      let most = one_at_most (answer_to row es e) in
      omega arith
  fewer (lacking {answers = answers} c h lacks) =
      let before = fewer h in
      let long = length-append answers (Absent ∷ []) in
      omega arith

  in_hand : {cs : List Call} {answers : List Answer} {es : List Event} {hand : List (Option PayOrder)} {v : View} → History shape market row serial others cs answers es hand v → length answers ≤ last_number → orders_over 0 answers ≡ length hand
  in_hand (begun run) few = refl
  in_hand (made {answers = answers} {es = es} {hand = hand} {hand' = hand'} c {e = e} h m run) few =
      let a = answer_to row es e in
      let long = length-append answers (a ∷ []) in
      let before = in_hand h (omega arith) in
      let fit = fewer h in
      one_more 0 answers a ∙ ap (λ n. orders_after n a) before ∙ counted (length hand) a (omega arith) ∙ sym (grown row es hand c others hand' e m)
  in_hand (lacking {answers = answers} c h lacks) few =
      let long = length-append answers (Absent ∷ []) in
      one_more 0 answers Absent ∙ in_hand h (omega arith)

at_the_end : (hand : List (Option PayOrder)) (o : PayOrder) (n : ℕ) → n ≡ length hand + 1 → slot (hand ++ Some o ∷ []) n ≡ Some o
at_the_end hand o n is =
    let last : n - 1 ≡ length hand = omega arith in
    cond-true (leb 1 n) _ _ (le-leb 1 n (omega arith))
    ∙ ap (λ i. get_or (hand ++ Some o ∷ []) i None) last
    ∙ get_or-append_seam hand (Some o) [] None

pub numbered_as_named : NumberedAsNamed
numbered_as_named shape market row serial others cs answers hand v y few o =
    let told = Drawn o.place o.cents in
    let fit = fewer shape market row serial others y.history in
    let same = in_hand shape market row serial others y.history (omega arith) in
    at_the_end hand o _ (ap (λ n. orders_after n told) same ∙ counted (length hand) told (omega arith))
