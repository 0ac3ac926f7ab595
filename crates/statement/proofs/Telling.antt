-- The sums over the answers are what the law speaks of.
use Rattle.std.proofs.Common.{◌≡◌, ℕ, zero, suc, ◌+◌, ◌-◌, ◌<◌, ◌≤◌, Bool, true, false, cond, eqb, List, [], ◌∷◌, ◌++◌, length, get_or, set, pos, ◌+ℤ◌, Some, None, Ok, Err, Option, Result, sym, refl, ap, ◌∙◌, subst, append-nil, length-append, length-set, arith, ⊎_elim}
use Rattle.std.proofs.lemmas.Int.{ints}
use Rattle.std.proofs.lemmas.Bool.{le-leb, eq-eqb, eqb-true, ne_eqb, cases_eq}
use Rattle.std.proofs.lemmas.List.{get_or-set_same, get_or-set_other, get_or-replicate}
use Rattle.arith.specs.Months.{share as month-share}
use Rattle.metering.specs.declared.reading.Reading.{Reading}
use Rattle.agreements.specs.Meaning.{Meaning}
use Rattle.methodology.specs.Meaning.{Meaning as Market}
use Rattle.methodology.specs.declared.shape.Shape.{Shape}
use Rattle.banks.specs.Rows.{at_place}
use Rattle.accounts.specs.declared.sheet.Sheet.{Sheet}
use Rattle.accounts.specs.Sums.{sum_to}
use Rattle.accounts.proofs.Sums.{sum_same}
use Rattle.tariffs.specs.declared.row.Row.{Row}
use Rattle.settlement.specs.Law.{bills_on}
use Rattle.orders.specs.declared.order.PayOrder.{PayOrder}
use Rattle.orders.specs.declared.order.Paid.{Paid}
use Rattle.orders.specs.declared.order.Returned.{Returned}
use Rattle.metering.specs.Limits.{place_limit}
use Rattle.ledger.specs.declared.refusal.Refusal.{Refusal}
use Rattle.ledger.specs.Views.{View}
use Rattle.ledger.specs.Terms.{given_at}
use Rattle.ledger.specs.Runs.{Event, year, tariff, meter, deliver, close, draw, release, hold, Run}
use Rattle.ledger.specs.Runs as runs
use Rattle.ledger.specs.Accepted.{some_or, year_of, reading_of, sheet_of, payment_of, accepted_at, due_after, open_dues, closed_dues, yearly, allowed, billed, margins, cents_at, paid_at}
use Rattle.ledger.proofs.Terms.{given_at_more}
use Rattle.history.specs.declared.call.Call.{Call}
use Rattle.history.specs.declared.call.Call.TheVariants.{Year, Tariff, Meter, Deliver, Close, Draw, Present}
use Rattle.history.specs.declared.spending.Spending.TheVariants.{Release, Hold}
use Rattle.history.specs.declared.answer.Answer.{Answer}
use Rattle.history.specs.declared.answer.Answer.TheVariants.{Absent}
use Rattle.history.specs.Slots.{in_slots}
use Rattle.history.specs.Histories.{answer_to, Makes, History, begun, made, lacking}
use Rattle.statement.specs.declared.tally.PlaceTally.{PlaceTally}
use Rattle.statement.specs.declared.tally.Tally.{Tally}
use Rattle.statement.specs.Tallies.{nothing, no_tally, place_at, plus, more_at, with_year, with_dues, with_sheet, with_payment, taken, tallied}
use Rattle.statement.proofs.Tallying.{tallied_more}

-- the sums are those of the events
pub record Tallied (revenues : ℕ) (row : List Meaning) (es : List Event) (t : Tally) : Type 0 where
  pub bills : t.bills ≡ billed es
  pub margins : t.margins ≡ margins es
  pub unsettled : t.unsettled ≡ open_dues row es
  pub dues : t.dues ≡ closed_dues row es
  pub shares : t.shares ≡ allowed revenues es
  pub yearly : (j : ℕ) → j < 3 → get_or t.yearly j 0 ≡ yearly es j
  pub long : length t.places ≡ place_limit
  pub given : (p : ℕ) → 1 ≤ p → p ≤ place_limit → (place_at t (p - 1)).given ≡ given_at (at_place row p) (accepted_at p es)
  pub released : (p : ℕ) → 1 ≤ p → p ≤ place_limit → (place_at t (p - 1)).released ≡ paid_at p es

-- more at a place, and nothing more elsewhere
more_long : (xs : List PlaceTally) (place n m : ℕ) → length (more_at xs place n m) ≡ length xs
more_long xs place n m = grind (arith, length-set {A = PlaceTally})

more_here : (xs : List PlaceTally) (p n m : ℕ) → length xs ≡ place_limit → 1 ≤ p → p ≤ place_limit → get_or (more_at xs p n m) (p - 1) no_tally ≡ plus (get_or xs (p - 1) no_tally) n m
more_here xs p n m long low high =
    simp (le-leb 1 p low, le-leb p place_limit high) (get_or-set_same xs (p - 1) (plus (get_or xs (p - 1) no_tally) n m) no_tally (omega arith))

at_cond : (b : Bool) (xs ys : List PlaceTally) (j : ℕ) → get_or xs j no_tally ≡ get_or ys j no_tally → get_or (cond b xs ys) j no_tally ≡ get_or ys j no_tally
at_cond true xs ys j h = h
at_cond false xs ys j h = refl

more_there : (xs : List PlaceTally) (place p n m : ℕ) → 1 ≤ p → (place ≡ p → ⊥) → get_or (more_at xs place n m) (p - 1) no_tally ≡ get_or xs (p - 1) no_tally
more_there xs zero p n m low other = refl
more_there xs (suc q) p n m low other =
    let more = plus (get_or xs (suc q - 1) no_tally) n m in
    at_cond _ (set xs (suc q - 1) more) xs (p - 1) (get_or-set_other xs (suc q - 1) (p - 1) more no_tally (λ e. other (omega arith)))

-- a place's sum of which each addition brings so much
sum_more : (f : PlaceTally → ℕ) (k : ℕ) (xs : List PlaceTally) (place p n m : ℕ) → ((x : PlaceTally) → f (plus x n m) ≡ f x + k) → length xs ≡ place_limit → 1 ≤ p → p ≤ place_limit → f (get_or (more_at xs place n m) (p - 1) no_tally) ≡ f (get_or xs (p - 1) no_tally) + cond (eqb place p) k 0
sum_more f k xs place p n m brings long low high =
    ⊎_elim
    (λ e.
    let here = ap f (ap (λ q. get_or (more_at xs q n m) (p - 1) no_tally) e ∙ more_here xs p n m long low high) ∙ brings (get_or xs (p - 1) no_tally) in
    let counted : cond (eqb place p) k 0 ≡ k = ap (λ b. cond b k 0) (eq-eqb place p e) in
    omega arith)
    (λ other.
    let there = ap f (more_there xs place p n m low other) in
    let counted : cond (eqb place p) k 0 ≡ 0 = ap (λ b. cond b k 0) (ne_eqb place p other) in
    omega arith)
    (cases_eq place p)

nothing_more : (n : ℕ) (b : Bool) → n + cond b 0 0 ≡ n
nothing_more n true = omega arith
nothing_more n false = omega arith

three : (f : List ℕ) (j : ℕ) → j < 3 → get_or (get_or f 0 0 ∷ get_or f 1 0 ∷ get_or f 2 0 ∷ []) j 0 ≡ get_or f j 0
three f zero h = refl
three f (suc zero) h = refl
three f (suc (suc zero)) h = refl
three f (suc (suc (suc j))) h = absurd (omega arith)

module _ (revenues : ℕ) (few : revenues ≤ 3) (row : List Meaning) where
  no_reading : (e : Event) (es : List Event) (p : ℕ) → reading_of e ≡ None → given_at (at_place row p) (accepted_at p (e ∷ es)) ≡ given_at (at_place row p) (accepted_at p es)
  no_reading e es p none = ap (given_at (at_place row p)) (ap (λ o. accepted_at p es ++ some_or o [] (λ r. cond (eqb r.number p) (r ∷ []) [])) none ∙ append-nil (accepted_at p es))

  no_payment : (e : Event) (es : List Event) (p : ℕ) → payment_of e ≡ None → paid_at p (e ∷ es) ≡ paid_at p es
  no_payment e es p none = let r = ap (λ o. paid_at p es + some_or o 0 (cents_at p)) none in omega arith

  no_year : (e : Event) (es : List Event) (j : ℕ) → year_of e ≡ None → yearly (e ∷ es) j ≡ yearly es j
  no_year e es j none = ap (λ o. some_or o (yearly es j) (λ given. get_or given.figures j 0)) none

  -- an event that closes no month
  unclosed : (e : Event) {es : List Event} {t : Tally} (t' : Tally) → sheet_of e ≡ None → Tallied revenues row es t → t'.bills ≡ t.bills → t'.margins ≡ t.margins → t'.dues ≡ t.dues → t'.shares ≡ t.shares → t'.unsettled ≡ t.unsettled + some_or (reading_of e) 0 (due_after row es) → ((j : ℕ) → j < 3 → get_or t'.yearly j 0 ≡ yearly (e ∷ es) j) → length t'.places ≡ length t.places → ((p : ℕ) → 1 ≤ p → p ≤ place_limit → (place_at t' (p - 1)).given ≡ given_at (at_place row p) (accepted_at p (e ∷ es))) → ((p : ℕ) → 1 ≤ p → p ≤ place_limit → (place_at t' (p - 1)).released ≡ paid_at p (e ∷ es)) → Tallied revenues row (e ∷ es) t'
  unclosed e {es} {t} t' sheet i bills margin dues shares unsettled years long terms payments =
      record {
        bills = let b = ap (λ o. billed es + some_or o 0 bills_on) sheet in omega (arith, i.bills);
        margins = let m = ap (λ o. margins es +ℤ some_or o (pos 0) (λ s. s.margin)) sheet in let was = i.margins in omega (arith, ints);
        unsettled =
            let s = ap (λ o. some_or o (open_dues row es + some_or (reading_of e) 0 (due_after row es)) (λ s. 0)) sheet in
            omega (arith, i.unsettled);
        dues = let d = ap (λ o. closed_dues row es + some_or o 0 (λ s. open_dues row es)) sheet in omega (arith, i.dues);
        shares = let s = ap (λ o. allowed revenues es + some_or o 0 (λ s. sum_to (λ j. month-share (yearly es j) s.month) revenues)) sheet in omega (arith, i.shares);
        yearly = years;
        long = long ∙ i.long;
        given = terms;
        released = payments;
      }

  -- an event that brings nothing
  quiet : (e : Event) {es : List Event} {t : Tally} → sheet_of e ≡ None → reading_of e ≡ None → year_of e ≡ None → payment_of e ≡ None → Tallied revenues row es t → Tallied revenues row (e ∷ es) t
  quiet e {es} {t} sheet reading unfiled payment i =
      unclosed e {es = es} {t = t} t sheet i refl refl refl refl
      (let r = ap (λ o. t.unsettled + some_or o 0 (due_after row es)) reading in omega arith)
      (λ j h. i.yearly j h ∙ sym (no_year e es j unfiled))
      refl
      (λ p low high. i.given p low high ∙ sym (no_reading e es p reading))
      (λ p low high. i.released p low high ∙ sym (no_payment e es p payment))

  year_told : (given : Row) (u : Unit {0}) {es : List Event} {t : Tally} → Tallied revenues row es t → Tallied revenues row (year given (Ok u) ∷ es) (with_year given t)
  year_told given u {es} {t} i =
      let e = year given (Ok u) in
      unclosed e {es = es} {t = t} (with_year given t) refl i refl refl refl refl (omega arith) (three given.figures) refl
      (λ p low high. i.given p low high ∙ sym (no_reading e es p refl))
      (λ p low high. i.released p low high ∙ sym (no_payment e es p refl))

  meter_told : (r : Reading) (u : ℕ) {es : List Event} {t : Tally} → Tallied revenues row es t → Tallied revenues row (meter r (Ok u) ∷ es) (with_dues r.number (due_after row es r) t)
  meter_told r u {es} {t} i =
      let e = meter r (Ok u) in
      let n = due_after row es r in
      unclosed e {es = es} {t = t} (with_dues r.number n t) refl i refl refl refl refl refl (λ j h. i.yearly j h ∙ sym (no_year e es j refl)) (more_long t.places r.number n 0) given
      (λ p low high. sum_more (λ x. x.released) 0 t.places r.number p n 0 (λ x. refl) i.long low high ∙ nothing_more _ (eqb r.number p) ∙ i.released p low high ∙ sym (no_payment e es p refl))
    where
      due : ℕ
      due = due_after row es r

      counted : (p : ℕ) (b : Bool) → eqb r.number p ≡ b → given_at (at_place row p) (accepted_at p es) + cond b due 0 ≡ given_at (at_place row p) (accepted_at p es ++ cond b (r ∷ []) [])
      counted p true is = subst (λ q. given_at (at_place row q) (accepted_at q es) + due ≡ given_at (at_place row q) (accepted_at q es ++ r ∷ [])) (eqb-true r.number p is) (sym (given_at_more (at_place row r.number) (accepted_at r.number es) r))
      counted p false is = omega arith ∙ ap (given_at (at_place row p)) (sym (append-nil (accepted_at p es)))

      given : (p : ℕ) → 1 ≤ p → p ≤ place_limit → (place_at (with_dues r.number due t) (p - 1)).given ≡ given_at (at_place row p) (accepted_at p (meter r (Ok u) ∷ es))
      given p low high =
          sum_more (λ x. x.given) due t.places r.number p due 0 (λ x. refl) i.long low high ∙ ap (λ x. x + cond (eqb r.number p) due 0) (i.given p low high) ∙ counted p (eqb r.number p) refl

  close_told : (readings deliveries : ℕ) (s s' : Sheet) (u : Unit {0}) {es : List Event} {t : Tally} → Tallied revenues row es t → Tallied revenues row (close readings deliveries s (Ok u) s' ∷ es) (with_sheet revenues s' t)
  close_told readings deliveries s s' u {es} {t} i =
      let e = close readings deliveries s (Ok u) s' in
      record {
        bills = ap (λ n. n + bills_on s') i.bills;
        margins = ap (λ z. z +ℤ s'.margin) i.margins;
        unsettled = refl;
        dues = omega (arith, i.dues, i.unsettled);
        shares =
            let same = sum_same (λ j. month-share (get_or t.yearly j 0) s'.month) (λ j. month-share (yearly es j) s'.month) revenues (λ j h. ap (λ y. month-share y s'.month) (i.yearly j (omega arith))) in
            omega (arith, i.shares);
        yearly = i.yearly;
        long = i.long;
        given = λ p low high. i.given p low high ∙ sym (no_reading e es p refl);
        released = λ p low high. i.released p low high ∙ sym (no_payment e es p refl);
      }

  release_told : (o : PayOrder) (paid : Paid) {es : List Event} {t : Tally} → paid ≡ record { place = o.place; cents = o.cents } → Tallied revenues row es t → Tallied revenues row (release o (Ok paid) ∷ es) (with_payment paid.place paid.cents t)
  release_told o paid {es} {t} same i =
      let e = release o (Ok paid) in
      unclosed e {es = es} {t = t} (with_payment paid.place paid.cents t) refl i refl refl refl refl (omega arith) (λ j h. i.yearly j h ∙ sym (no_year e es j refl)) (more_long t.places paid.place 0 paid.cents)
      (λ p low high. sum_more (λ x. x.given) 0 t.places paid.place p 0 paid.cents (λ x. refl) i.long low high ∙ nothing_more _ (eqb paid.place p) ∙ i.given p low high ∙ sym (no_reading e es p refl))
      (λ p low high.
      sum_more (λ x. x.released) paid.cents t.places paid.place p 0 paid.cents (λ x. refl) i.long low high ∙ ap (λ n. n + cond (eqb paid.place p) paid.cents 0) (i.released p low high)
      ∙ ap (λ (x : Paid). paid_at p es + cond (eqb x.place p) x.cents 0) same)

  module _ (shape : Shape) (market : Market) (serial : ℕ) (others : List (Option PayOrder)) where
    -- one call more, with its answer
    told : (c : Call) (e : Event) (hand hand' : List (Option PayOrder)) {es : List Event} {w : View} {t : Tally} → Makes c hand others e hand' → Run shape market row serial (e ∷ es) (in_slots hand') w → Tallied revenues row es t → Tallied revenues row (e ∷ es) (taken revenues c (answer_to row es e) t)
    told (Year given) e hand hand' {es} {t = t} (r, same, rest) run i = subst (λ e. Tallied revenues row (e ∷ es) (taken revenues (Year given) (answer_to row es e) t)) (sym same) (by r)
      where
        by : (r : Result (Unit {0}) Refusal) → Tallied revenues row (year given r ∷ es) (taken revenues (Year given) (answer_to row es (year given r)) t)
        by (Ok u) = year_told given u i
        by (Err why) = quiet (year given (Err why)) refl refl refl refl i
    told (Tariff given) e hand hand' {es} {t = t} (r, same, rest) run i = subst (λ e. Tallied revenues row (e ∷ es) (taken revenues (Tariff given) (answer_to row es e) t)) (sym same) (by r)
      where
        by : (r : Result (Unit {0}) Refusal) → Tallied revenues row (tariff given r ∷ es) (taken revenues (Tariff given) (answer_to row es (tariff given r)) t)
        by (Ok u) = quiet (tariff given (Ok u)) refl refl refl refl i
        by (Err why) = quiet (tariff given (Err why)) refl refl refl refl i
    told (Meter given) e hand hand' {es} {t = t} (r, same, rest) run i = subst (λ e. Tallied revenues row (e ∷ es) (taken revenues (Meter given) (answer_to row es e) t)) (sym same) (by r)
      where
        by : (r : Result ℕ Refusal) → Tallied revenues row (meter given r ∷ es) (taken revenues (Meter given) (answer_to row es (meter given r)) t)
        by (Ok u) = meter_told given u i
        by (Err why) = quiet (meter given (Err why)) refl refl refl refl i
    told (Deliver given) e hand hand' {es} {t = t} (r, same, rest) run i = subst (λ e. Tallied revenues row (e ∷ es) (taken revenues (Deliver given) (answer_to row es e) t)) (sym same) (by r)
      where
        by : (r : Result (Unit {0}) Refusal) → Tallied revenues row (deliver given r ∷ es) (taken revenues (Deliver given) (answer_to row es (deliver given r)) t)
        by (Ok u) = quiet (deliver given (Ok u)) refl refl refl refl i
        by (Err why) = quiet (deliver given (Err why)) refl refl refl refl i
    told (Close stated) e hand hand' {es} {t = t} (r, s, s', same, rest) run i = subst (λ e. Tallied revenues row (e ∷ es) (taken revenues (Close stated) (answer_to row es e) t)) (sym same) (by r)
      where
        by : (r : Result (Unit {0}) Refusal) → Tallied revenues row (close stated.readings stated.deliveries s r s' ∷ es) (taken revenues (Close stated) (answer_to row es (close stated.readings stated.deliveries s r s')) t)
        by (Ok u) = close_told stated.readings stated.deliveries s s' u i
        by (Err why) = quiet (close stated.readings stated.deliveries s (Err why) s') refl refl refl refl i
    told (Draw place) e hand hand' {es} {t = t} (r, same, rest) run i = subst (λ e. Tallied revenues row (e ∷ es) (taken revenues (Draw place) (answer_to row es e) t)) (sym same) (by r)
      where
        by : (r : Result PayOrder Refusal) → Tallied revenues row (draw place r ∷ es) (taken revenues (Draw place) (answer_to row es (draw place r)) t)
        by (Ok o) = quiet (draw place (Ok o)) refl refl refl refl i
        by (Err why) = quiet (draw place (Err why)) refl refl refl refl i
    told (Present Release which) e hand hand' {es} {w = w} {t = t} (o, r, there, same, rest) run i = subst (λ e. Run shape market row serial (e ∷ es) (in_slots hand') w → Tallied revenues row (e ∷ es) (taken revenues (Present Release which) (answer_to row es e) t)) (sym same) (by r) run
      where
        by : (r : Result Paid Returned) → Run shape market row serial (release o r ∷ es) (in_slots hand') w → Tallied revenues row (release o r ∷ es) (taken revenues (Present Release which) (answer_to row es (release o r)) t)
        by (Ok paid) run = release_told o paid (payment run) i
          where
            payment : {hs : List PayOrder} → Run shape market row serial (release o (Ok paid) ∷ es) hs w → paid ≡ record { place = o.place; cents = o.cents }
            payment (runs.step _ rest before m presents) = m.released.1
        by (Err back) run = quiet (release o (Err back)) refl refl refl refl i
    told (Present Hold which) e hand hand' {es} {t = t} (o, r, there, same, rest) run i = subst (λ e. Tallied revenues row (e ∷ es) (taken revenues (Present Hold which) (answer_to row es e) t)) (sym same) (by r)
      where
        by : (r : Result (Unit {0}) Returned) → Tallied revenues row (hold o r ∷ es) (taken revenues (Present Hold which) (answer_to row es (hold o r)) t)
        by (Ok u) = quiet (hold o (Ok u)) refl refl refl refl i
        by (Err back) = quiet (hold o (Err back)) refl refl refl refl i

    -- each call has one answer
    pub as_many : {cs : List Call} {answers : List Answer} {es : List Event} {hand : List (Option PayOrder)} {v : View} → History shape market row serial others cs answers es hand v → length cs ≡ length answers
    as_many (begun run) = refl
    as_many (made {cs = cs} {answers = answers} c h m run) = omega (arith, as_many h, length-append {A = Call}, length-append {A = Answer})
    as_many (lacking {cs = cs} {answers = answers} c h l) = omega (arith, as_many h, length-append {A = Call}, length-append {A = Answer})

    none_told : Tallied revenues row [] nothing
    none_told =
        record {
          bills = refl;
          margins = refl;
          unsettled = refl;
          dues = refl;
          shares = refl;
          yearly = λ j h. get_or-replicate {A = ℕ} 3 j 0 0 h;
          long = refl;
          given = λ p low high. ap (λ (x : PlaceTally). x.given) (nothing_at p low high) ∙ sym (none_given (at_place row p));
          released = λ p low high. ap (λ (x : PlaceTally). x.released) (nothing_at p low high);
        }
      where
        nothing_at : (p : ℕ) → 1 ≤ p → p ≤ place_limit → place_at nothing (p - 1) ≡ no_tally
        nothing_at p low high = get_or-replicate {A = PlaceTally} place_limit (p - 1) no_tally no_tally (omega arith)

        none_given : (place : Option Meaning) → given_at place [] ≡ 0
        none_given None = refl
        none_given (Some m) = refl

    -- so the sums over a list that was performed are those of its events
    pub all_told : {cs : List Call} {answers : List Answer} {es : List Event} {hand : List (Option PayOrder)} {v : View} → History shape market row serial others cs answers es hand v → Tallied revenues row es (tallied revenues cs answers nothing)
    unfolding tallied
    all_told (begun run) = none_told
    all_told (made {cs = cs} {answers = answers} {es = es} {hand = hand} {hand' = hand'} c {e} h m run) =
        subst (Tallied revenues row (e ∷ es)) (sym (tallied_more revenues cs answers c (answer_to row es e) nothing (as_many h))) (told c e hand hand' m run (all_told h))
    all_told (lacking {cs = cs} {answers = answers} {es = es} c h l) =
        subst (Tallied revenues row es) (sym (tallied_more revenues cs answers c Absent nothing (as_many h))) (all_told h)
