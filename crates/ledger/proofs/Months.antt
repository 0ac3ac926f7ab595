-- The account over the closed months adds up after every list of calls.
use Rattle.std.proofs.Common.{◌≡◌, ℕ, zero, suc, ◌+◌, ◌-◌, ◌<◌, ◌≤◌, Bool, true, false, not, List, ◌∷◌, get_or, pos, ◌+ℤ◌, is_some, Some, None, Ok, Err, Option, Result, sym, refl, ap, ◌∙◌, subst, ⊎_elim, arith}
use Rattle.std.proofs.lemmas.Int.{ints}
use Rattle.std.proofs.lemmas.Bool.{cases_eq, false≢true}
use Rattle.metering.specs.declared.kind.Kind.{Kind}
use Rattle.metering.specs.declared.kind.Kind.TheVariants.{Generator, Licensee}
use Rattle.metering.specs.declared.reading.Reading.{Reading}
use Rattle.metering.specs.Limits.{licensee_limit, number_limit}
use Rattle.agreements.specs.Meaning.{Meaning}
use Rattle.arith.specs.Months.{share as month-share}
use Rattle.banks.specs.Rows.{at_place}
use Rattle.methodology.specs.Limits.{head_limit}
use Rattle.methodology.specs.Meaning.{Meaning as Market}
use Rattle.methodology.specs.declared.shape.Shape.{Shape}
use Rattle.accounts.specs.declared.books.Books.{Books}
use Rattle.accounts.specs.declared.delivery.Delivery.{Delivery}
use Rattle.accounts.specs.declared.sheet.HeadLine.{HeadLine}
use Rattle.accounts.specs.declared.month.Month.{Month}
use Rattle.accounts.specs.declared.sheet.Sheet.{Sheet}
use Rattle.accounts.specs.Sums.{sum_to, sum_toℤ}
use Rattle.accounts.specs.Rules.{Rules, rules_of, head_count}
use Rattle.accounts.specs.Books.{account_at, fraction_at}
use Rattle.accounts.specs.Months.{licensee_at, taken, Took, delivered_at, income_of, Opened}
use Rattle.accounts.proofs.Sums.{sum_same, sumℤ_same, sum_zero}
use Rattle.tariffs.specs.declared.row.Row.{Row}
use Rattle.tariffs.specs.declared.filing.Filing.{Filing}
use Rattle.settlement.specs.Closing.{Case, quantity, quantity_in}
use Rattle.accounts.specs.Sheets.{line_at, billed_at}
use Rattle.settlement.specs.Closed.{billed_of, fraction_of}
use Rattle.settlement.specs.Law.{bills_on, EveryClosing, Lawful}
use Rattle.orders.specs.declared.order.PayOrder.{PayOrder}
use Rattle.orders.specs.declared.order.Paid.{Paid}
use Rattle.orders.specs.declared.order.Returned.{Returned}
use Rattle.ledger.specs.declared.refusal.Refusal.{Refusal}
use Rattle.ledger.specs.declared.refusal.Refusal.TheVariants.{WrongKind, NoMonth, Again}
use Rattle.ledger.specs.Stages.{in_month}
use Rattle.ledger.specs.Views.{View, rules, month_of, books_of}
use Rattle.ledger.specs.Verdicts.{Verdict, accepted, refused, must, ◌and_then◌}
use Rattle.ledger.specs.Terms.{worth, dues_at, place_after}
use Rattle.ledger.specs.Calls.{Year, YearFiled, Tariff, TariffPublished, Meter, Metered, Deliver, DeliveryTaken, deliver_verdict, of_generator, Close, MonthClosed, case_at, Draw, Release, Hold}
use Rattle.ledger.specs.Runs.{Event, year, tariff, meter, deliver, close, draw, release, hold, Run, new, step}
use Rattle.ledger.specs.Accepted.{some_or, year_of, reading_of, delivery_of, sheet_of, accepted_at, due_after, open_dues, closed_dues, taken_under, open_quantity, last_quantity, yearly, allowed, billed, margins, last_balance, last_carry, last_fraction, last_sheet}
use Rattle.ledger.specs.Law.{Carried, Balanced, Keeps, head_number, EveryRun}
use Rattle.ledger.proofs.Places.{Held, held_after}

-- what the accepted calls brought is what the house has counted
pub record Counted (shape : Shape) (market : Market) (row : List Meaning) (es : List Event) (v : View) : Type 0 where
  pub years : (j : ℕ) → j < shape.revenues → get_or v.ledger.revenues.yearly j 0 ≡ yearly es j
  pub dues : income_of (rules_of shape market) (month_of v) ≡ open_dues row es
  pub quantities : (k : ℕ) → k < head_number shape market row → quantity_in (month_of v) k ≡ open_quantity (rules_of shape market) es k
  pub keeps : Keeps shape market row es v
  pub balanced : Balanced shape market row es
  pub carries : (k : ℕ) → k < head_number shape market row → Carried (last_sheet es) (last_quantity (rules_of shape market) es k) (last_carry es k)

-- what an event without an accepted closing leaves of the account
module _ (shape : Shape) (market : Market) (row : List Meaning) (e : Event) (es : List Event) (none : sheet_of e ≡ None) where
  same_balance : (k : ℕ) → last_balance (e ∷ es) k ≡ last_balance es k
  same_balance k = ap (λ o. some_or o (last_balance es k) (λ s. (line_at s k).balance)) none

  same_carry : (k : ℕ) → last_carry (e ∷ es) k ≡ last_carry es k
  same_carry k = ap (λ o. some_or o (last_carry es k) (λ s. (line_at s k).carry)) none

  same_fraction : (l : ℕ) → last_fraction (e ∷ es) l ≡ last_fraction es l
  same_fraction l = ap (λ o. some_or o (last_fraction es l) (λ s. some_or (billed_at s l) (last_fraction es l) (λ b. b.fraction))) none

  same_balanced : Balanced shape market row es → Balanced shape market row (e ∷ es)
  same_balanced before =
      let n = head_number shape market row in
      let fractions = sum_same (last_fraction (e ∷ es)) (last_fraction es) licensee_limit (λ l h. same_fraction l) in
      let balances = sumℤ_same (last_balance (e ∷ es)) (last_balance es) n (λ k h. same_balance k) in
      let carries = sum_same (last_carry (e ∷ es)) (last_carry es) n (λ k h. same_carry k) in
      let bills = ap (λ o. billed es + some_or o 0 bills_on) none in
      let margin = ap (λ o. margins es +ℤ some_or o (pos 0) (λ s. s.margin)) none in
      let dues = ap (λ o. closed_dues row es + some_or o 0 (λ s. open_dues row es)) none in
      let shares = ap (λ o. allowed shape.revenues es + some_or o 0 (λ s. sum_to (λ j. month-share (yearly es j) s.month) shape.revenues)) none in
      omega (arith, ints)

  same_carried : ((k : ℕ) → k < head_number shape market row → Carried (last_sheet es) (last_quantity (rules_of shape market) es k) (last_carry es k)) → (k : ℕ) → k < head_number shape market row → Carried (last_sheet (e ∷ es)) (last_quantity (rules_of shape market) (e ∷ es) k) (last_carry (e ∷ es) k)
  same_carried before k h =
      let P : Option Sheet → Type 0 = λ o. Carried (some_or o (last_sheet es) Some) (some_or o (last_quantity (rules_of shape market) es k) (λ s. open_quantity (rules_of shape market) es k)) (some_or o (last_carry es k) (λ s. (line_at s k).carry)) in
      subst P (sym none) (before k h)

  -- what a house has of the year and of the open month after the event
  abbrev Yearly : View → Type 0
  Yearly w = (j : ℕ) → j < shape.revenues → get_or w.ledger.revenues.yearly j 0 ≡ yearly (e ∷ es) j

  abbrev Income : View → Type 0
  Income w = income_of (rules_of shape market) (month_of w) ≡ open_dues row (e ∷ es)

  abbrev Quantities : View → Type 0
  Quantities w = (k : ℕ) → k < head_number shape market row → quantity_in (month_of w) k ≡ open_quantity (rules_of shape market) (e ∷ es) k

  -- books with the same money
  counted_on : {v w : View} → Counted shape market row es v → Yearly w → Income w → Quantities w → ((k : ℕ) → k < head_number shape market row → (account_at (books_of w) k).balance ≡ (account_at (books_of v) k).balance) → ((k : ℕ) → k < head_number shape market row → (account_at (books_of w) k).carry ≡ (account_at (books_of v) k).carry) → (books_of w).fractions ≡ (books_of v).fractions → Counted shape market row (e ∷ es) w
  counted_on i years dues quantities balances carries fractions =
      record {
        years = years;
        dues = dues;
        quantities = quantities;
        keeps =
            record {
              balances = λ k h. balances k h ∙ i.keeps.balances k h ∙ sym (same_balance k);
              carries = λ k h. carries k h ∙ i.keeps.carries k h ∙ sym (same_carry k);
              fractions = λ l h. ap (λ fs. get_or fs l 0) fractions ∙ i.keeps.fractions l h ∙ sym (same_fraction l);
            };
        balanced = same_balanced i.balanced;
        carries = same_carried i.carries;
      }

  -- the same books
  counted_by : {v w : View} → Counted shape market row es v → Yearly w → Income w → Quantities w → books_of w ≡ books_of v → Counted shape market row (e ∷ es) w
  counted_by i years dues quantities books =
      counted_on i years dues quantities
      (λ k h. ap (λ b. (account_at b k).balance) books) (λ k h. ap (λ b. (account_at b k).carry) books) (ap (λ (b : Books). b.fractions) books)

  no_reading : reading_of e ≡ None → open_dues row (e ∷ es) ≡ open_dues row es
  no_reading unread =
      let sheet = ap (λ o. some_or o (open_dues row es + some_or (reading_of e) 0 (due_after row es)) (λ s. 0)) none in
      let reading = ap (λ o. open_dues row es + some_or o 0 (due_after row es)) unread in
      omega arith

  no_delivery : delivery_of e ≡ None → (k : ℕ) → open_quantity (rules_of shape market) (e ∷ es) k ≡ open_quantity (rules_of shape market) es k
  no_delivery untaken k =
      let r = rules_of shape market in
      let sheet = ap (λ o. some_or o (open_quantity r es k + some_or (delivery_of e) 0 (λ d. taken_under r d k)) (λ s. 0)) none in
      let delivery = ap (λ o. open_quantity r es k + some_or o 0 (λ d. taken_under r d k)) untaken in
      omega arith

  no_year : year_of e ≡ None → (j : ℕ) → yearly (e ∷ es) j ≡ yearly es j
  no_year unfiled j = ap (λ o. some_or o (yearly es j) (λ given. get_or given.figures j 0)) unfiled

-- a call that leaves the year, the month and the books alone
quiet : (shape : Shape) (market : Market) (row : List Meaning) (e : Event) (es : List Event) {v w : View} → sheet_of e ≡ None → reading_of e ≡ None → delivery_of e ≡ None → year_of e ≡ None → w.ledger.revenues ≡ v.ledger.revenues → month_of w ≡ month_of v → books_of w ≡ books_of v → Counted shape market row es v → Counted shape market row (e ∷ es) w
quiet shape market row e es none unread untaken unfiled revenues-same month-same books-same i =
    counted_by shape market row e es none i
    (λ j h. ap (λ (x : _). get_or x.yearly j 0) revenues-same ∙ i.years j h ∙ sym (no_year shape market row e es none unfiled j))
    (ap (income_of (rules_of shape market)) month-same ∙ i.dues ∙ sym (no_reading shape market row e es none unread))
    (λ k h. ap (λ m. quantity_in m k) month-same ∙ i.quantities k h ∙ sym (no_delivery shape market row e es none untaken k))
    books-same

-- a call that leaves all alone
unmoved : (shape : Shape) (market : Market) (row : List Meaning) (e : Event) (es : List Event) {v w : View} → sheet_of e ≡ None → reading_of e ≡ None → delivery_of e ≡ None → year_of e ≡ None → w ≡ v → Counted shape market row es v → Counted shape market row (e ∷ es) w
unmoved shape market row e es none unread untaken unfiled same i =
    quiet shape market row e es none unread untaken unfiled (ap (λ (u : View). u.ledger.revenues) same) (ap month_of same) (ap books_of same) i

-- what a step proves of a house's own market holds of the market that it was made for
at_own : (shape : Shape) (market : Market) (row : List Meaning) {es es' : List Event} {v w : View} → v.shape ≡ shape → v.market ≡ market → (Counted v.shape v.market row es v → Counted v.shape v.market row es' w) → Counted shape market row es v → Counted shape market row es' w
at_own shape market row {es} {es'} {v} {w} shape_is market_is one i =
    subst (λ s. Counted s market row es' w) shape_is
    (subst (λ m. Counted v.shape m row es' w) market_is
    (one (subst (λ m. Counted v.shape m row es v) (sym market_is) (subst (λ s. Counted s market row es v) (sym shape_is) i))))

year_step : (row : List Meaning) (es : List Event) {v w : View} (given : Row) (u : Unit {0}) → YearFiled v given w → Counted v.shape v.market row es v → Counted v.shape v.market row (year given (Ok u) ∷ es) w
year_step row es {v} {w} given u m i =
    counted_by v.shape v.market row e es refl i
    (λ j h. m.allowed.as_filed j h)
    (ap (income_of (rules v)) (ap month_of m.left) ∙ i.dues ∙ sym (no_reading v.shape v.market row e es refl refl))
    (λ k h. ap (λ x. quantity_in x k) (ap month_of m.left) ∙ i.quantities k h ∙ sym (no_delivery v.shape v.market row e es refl refl k))
    (ap books_of m.left)
  where
    e : Event
    e = year given (Ok u)

-- the market's heads all have a place
few : (shape : Shape) (market : Market) (row : List Meaning) → head_number shape market row ≤ head_limit
few shape market row = shape.few

tariff_step : (row : List Meaning) (es : List Event) {v w : View} (given : Filing) (u : Unit {0}) → ((half : _) × TariffPublished v given half w) → Counted v.shape v.market row es v → Counted v.shape v.market row (tariff given (Ok u) ∷ es) w
tariff_step row es {v} {w} given u (half, m) i =
    counted_on v.shape v.market row e es refl i
    (λ j h. ap (λ (x : View). get_or x.ledger.revenues.yearly j 0) m.left ∙ i.years j h)
    (ap (income_of (rules v)) (ap month_of m.left) ∙ i.dues ∙ sym (no_reading v.shape v.market row e es refl refl))
    (λ k h. ap (λ x. quantity_in x k) (ap month_of m.left) ∙ i.quantities k h ∙ sym (no_delivery v.shape v.market row e es refl refl k))
    (λ k h. (m.begun.accounts k (let most = few v.shape v.market row in omega arith)).balance)
    (λ k h. (m.begun.accounts k (let most = few v.shape v.market row in omega arith)).carry)
    m.begun.fractions
  where
    e : Event
    e = tariff given (Ok u)

-- the licensees' part of a month
taken_from : List (Option Delivery) → ℕ → ℕ
taken_from ls k = sum_to (λ l. taken (get_or ls l None) k) licensee_limit

meter_step : (row : List Meaning) (es : List Event) {v w : View} (r : Reading) (dues : ℕ) → at_place v.row r.number ≡ place_after (at_place row r.number) (accepted_at r.number es) → Metered v r dues w → Counted v.shape v.market row es v → Counted v.shape v.market row (meter r (Ok dues) ∷ es) w
meter_step row es {v} {w} r dues stood m i =
    counted_by v.shape v.market row e es refl i
    (λ j h. ap (λ (x : View). get_or x.ledger.revenues.yearly j 0) m.left ∙ i.years j h)
    (let whole = m.added.whole in let before = i.dues in let due = ap (λ place. worth (dues_at place r)) stood in omega arith)
    (λ k h. ap (λ (ls : List (Option Delivery)). sum_to (λ l. taken (get_or ls l None) k) licensee_limit) m.added.licensees ∙ i.quantities k h ∙ sym (no_delivery v.shape v.market row e es refl refl k))
    (ap books_of m.left)
  where
    e : Event
    e = meter r (Ok dues)

-- a sum of which one term comes new
sum_grown : (f g : ℕ → ℕ) (i x n : ℕ) → i < n → f i ≡ 0 → g i ≡ x → ((l : ℕ) → (l ≡ i → ⊥) → g l ≡ f l) → sum_to g n ≡ sum_to f n + x
unfolding sum_to
sum_grown f g i x zero h none some others = absurd (omega arith)
sum_grown f g i x (suc n) h none some others =
    ⊎_elim
    (λ (same : n ≡ i).
    let below : sum_to g n ≡ sum_to f n = sum_same g f n (λ l p. others l (λ e. absurd (omega (arith, e)))) in
    let here : g n ≡ x = ap g same ∙ some in
    let there : f n ≡ 0 = ap f same ∙ none in
    omega arith)
    (λ (ne : n ≡ i → ⊥). let below = sum_grown f g i x n (omega arith) none some others in let top = others n ne in omega arith)
    (cases_eq n i)

accepts : Verdict → Bool
accepts accepted = true
accepts (refused why) = false

pub refused_not : (why : Refusal) → refused why ≡ accepted → ⊥
unfolding accepts
refused_not why e = false≢true (ap accepts e)

-- a test that a verdict needed
pub passed : (test : Bool) (why : Refusal) (rest : Verdict) → (must test why and_then rest) ≡ accepted → (test ≡ true) × (rest ≡ accepted)
passed true why rest ok = (refl, ok)
passed false why rest ok = absurd (refused_not why ok)

not_there : (o : Option Delivery) → not (is_some o) ≡ true → o ≡ None
not_there None h = refl
not_there (Some d) h = absurd (false≢true h)

took : (o : Option Delivery) (f : ℕ → ℕ) → Took o f → (k : ℕ) → k < head_limit → taken o k ≡ f k
took None f t k h = absurd t
took (Some d) f t k h = t k h

licensee_within : (r : Reading) → not (of_generator r.kind) ≡ true → r.number - 1 < licensee_limit
licensee_within r h = within r.kind h r.number r.numbered.0 r.numbered.1
  where
    within : (k : Kind) → not (of_generator k) ≡ true → (n : ℕ) → 1 ≤ n → n ≤ number_limit k → n - 1 < licensee_limit
    within Generator h n low high = absurd (false≢true h)
    within Licensee h n low high = omega arith

pub must_accept : (test : Bool) (why : Refusal) → must test why ≡ accepted → test ≡ true
must_accept true why ok = refl
must_accept false why ok = absurd (refused_not why ok)

deliver_passed : (v : View) (r : Reading) → deliver_verdict v r ≡ accepted → (not (of_generator r.kind) ≡ true) × (not (is_some (licensee_at (month_of v) (r.number - 1))) ≡ true)
deliver_passed v r ok =
    let kind = passed (not (of_generator r.kind)) WrongKind _ ok in
    let month = passed (in_month v.ledger.stage) NoMonth _ kind.1 in
    (kind.0, must_accept (not (delivered_at (month_of v) r.number)) Again month.1)

deliver_step : (row : List Meaning) (es : List Event) {v w : View} (r : Reading) (u : Unit {0}) → deliver_verdict v r ≡ accepted → DeliveryTaken v r w → Counted v.shape v.market row es v → Counted v.shape v.market row (deliver r (Ok u) ∷ es) w
deliver_step row es {v} {w} r u ok m i =
    counted_by v.shape v.market row e es refl i
    (λ j h. ap (λ (x : View). get_or x.ledger.revenues.yearly j 0) m.left ∙ i.years j h)
    (ap (λ (xs : List ℕ). sum_to (λ k. get_or xs k 0) (head_count (rules v))) m.added.income ∙ i.dues ∙ sym (no_reading v.shape v.market row e es refl refl))
    (λ k h.
    let before = i.quantities k h in
    let grown = sum_grown (λ l. taken (licensee_at (month_of v) l) k) (λ l. taken (licensee_at (month_of w) l) k) (r.number - 1) (taken_under (rules v) r k) licensee_limit
    (licensee_within r tests.0) (ap (λ o. taken o k) (not_there (licensee_at (month_of v) (r.number - 1)) tests.1))
    (took (licensee_at (month_of w) (r.number - 1)) (taken_under (rules v) r) m.added.here k (let most = few v.shape v.market row in omega arith))
    (λ l ne. ap (λ o. taken o k) (m.added.others l ne)) in
    omega arith)
    (ap books_of m.left)
  where
    e : Event
    e = deliver r (Ok u)

    tests : (not (of_generator r.kind) ≡ true) × (not (is_some (licensee_at (month_of v) (r.number - 1))) ≡ true)
    tests = deliver_passed v r ok

sumℤ_zero : (n : ℕ) → sum_toℤ (λ k. pos 0) n ≡ pos 0
unfolding sum_toℤ
sumℤ_zero zero = refl
sumℤ_zero (suc n) = let below = sumℤ_zero n in omega (arith, ints)

-- a month without readings has no quantity and no income
nothing_taken : (m : Month) → Opened m → (k : ℕ) → quantity_in m k ≡ 0
nothing_taken m o k = sum_same (λ l. taken (licensee_at m l) k) (λ l. 0) licensee_limit (λ l h. ap (λ o. taken o k) (o.licensees l)) ∙ sum_zero licensee_limit

no_income : (r : Rules) (m : Month) → Opened m → income_of r m ≡ 0
no_income r m o = sum_same (λ k. get_or m.income k 0) (λ k. 0) (head_count r) (λ k h. o.income k) ∙ sum_zero (head_count r)

-- a licensee's fraction after a closing is the last that a sheet shows
fraction_shown : (c : Case) (l : ℕ) (o : Option Delivery) (before : ℕ) → fraction_at c.books l ≡ before → fraction_of c l o ≡ some_or (billed_of c l o) before (λ b. b.fraction)
fraction_shown c l None before kept = kept
fraction_shown c l (Some d) before kept = refl

module _ (every : EveryClosing) where
  close_step : (row : List Meaning) (es : List Event) {v w : View} (readings deliveries : ℕ) (s s' : Sheet) (u : Unit {0}) (n : ℕ) → MonthClosed v readings deliveries n s' w → Counted v.shape v.market row es v → Counted v.shape v.market row (close readings deliveries s (Ok u) s' ∷ es) w
  unfolding quantity
  close_step row es {v} {w} readings deliveries s s' u n m i =
      record {
        years = λ j h. ap (λ (x : View). get_or x.ledger.revenues.yearly j 0) m.left ∙ i.years j h;
        dues = no_income (rules v) (month_of w) m.opened;
        quantities = λ k h. nothing_taken (month_of w) m.opened k;
        keeps =
            record {
              balances = λ k h. (m.closed.account k h).balance_is ∙ sym (ap (λ (x : HeadLine). x.balance) (m.closed.line k h));
              carries = λ k h. (m.closed.account k h).carry_is ∙ sym (ap (λ (x : HeadLine). x.carry) (m.closed.line k h));
              fractions = fraction_kept;
            };
        balanced =
            let conserved = lawful.conserved in
            let before = i.balanced in
            let fractions-were = sum_same (fraction_at (books_of v)) (last_fraction es) licensee_limit (λ l h. i.keeps.fractions l h) in
            let balances-were = sumℤ_same (λ k. (account_at (books_of v) k).balance) (last_balance es) count (λ k h. i.keeps.balances k h) in
            let carries-were = sum_same (λ k. (account_at (books_of v) k).carry) (last_carry es) count (λ k h. i.keeps.carries k h) in
            let fractions-are = sum_same (fraction_at (books_of w)) (last_fraction es') licensee_limit fraction_kept in
            let balances-are = sumℤ_same (λ k. (account_at (books_of w) k).balance) (λ k. (line_at s' k).balance) count (λ k h. (m.closed.account k h).balance_is ∙ sym (ap (λ (x : HeadLine). x.balance) (m.closed.line k h))) in
            let carries-are = sum_same (λ k. (account_at (books_of w) k).carry) (λ k. (line_at s' k).carry) count (λ k h. (m.closed.account k h).carry_is ∙ sym (ap (λ (x : HeadLine). x.carry) (m.closed.line k h))) in
            let dues = i.dues in
            let shares = sum_same (λ j. month-share (get_or v.ledger.revenues.yearly j 0) n) (λ j. month-share (yearly es j) s'.month) v.shape.revenues same_share in
            omega (arith, ints);
        carries =
            λ k h.
            let small = lawful.small.carries k h in
            let carried = (m.closed.account k h).carry_is ∙ sym (ap (λ (x : HeadLine). x.carry) (m.closed.line k h)) in
            let taken = i.quantities k h in
            omega arith;
      }
    where
      count : ℕ
      count = head_number v.shape v.market row

      es' : List Event
      es' = close readings deliveries s (Ok u) s' ∷ es

      lawful : Lawful (case_at v n) s' (books_of w)
      lawful = every (case_at v n) s' (books_of w) m.passed.filled m.closed

      fraction_kept : (l : ℕ) → l < licensee_limit → fraction_at (books_of w) l ≡ last_fraction es' l
      fraction_kept l h =
          m.closed.fractions l h
          ∙ fraction_shown (case_at v n) l (licensee_at (month_of v) l) (last_fraction es l) (i.keeps.fractions l h)
          ∙ sym (ap (λ b. some_or b (last_fraction es l) (λ x. x.fraction)) (m.closed.billing l h))

      same_share : (j : ℕ) → j < v.shape.revenues → month-share (get_or v.ledger.revenues.yearly j 0) n ≡ month-share (yearly es j) s'.month
      same_share j h = ap (λ y. month-share y n) (i.years j h) ∙ ap (month-share (yearly es j)) (sym m.closed.month_is)

  module _ (shape : Shape) (market : Market) (row : List Meaning) (serial : ℕ) where
    abbrev After : List Event → View → Type 0
    After es v = Counted shape market row es v

    years : {es : List Event} {v w : View} (given : Row) (r : Result (Unit {0}) Refusal) → v.shape ≡ shape → v.market ≡ market → After es v → Year v given r w → After (year given r ∷ es) w
    years {es} given (Ok u) a b i m = at_own shape market row a b (year_step row es given u m.1) i
    years {es} given (Err why) a b i m = unmoved shape market row (year given (Err why)) es refl refl refl refl m.1 i

    tariffs : {es : List Event} {v w : View} (given : Filing) (r : Result (Unit {0}) Refusal) → v.shape ≡ shape → v.market ≡ market → After es v → Tariff v given r w → After (tariff given r ∷ es) w
    tariffs {es} given (Ok u) a b i m = at_own shape market row a b (tariff_step row es given u m) i
    tariffs {es} given (Err why) a b i m = unmoved shape market row (tariff given (Err why)) es refl refl refl refl m.1 i

    meters : {es : List Event} {hand : List PayOrder} {v w : View} (given : Reading) (r : Result ℕ Refusal) → Held shape market row serial es hand v → After es v → Meter v given r w → After (meter given r ∷ es) w
    meters {es} given (Ok dues) h i m = at_own shape market row h.shape_is h.market_is (meter_step row es given dues (h.standing given.number) m.1) i
    meters {es} given (Err why) h i m = unmoved shape market row (meter given (Err why)) es refl refl refl refl m.1 i

    delivers : {es : List Event} {v w : View} (given : Reading) (r : Result (Unit {0}) Refusal) → v.shape ≡ shape → v.market ≡ market → After es v → Deliver v given r w → After (deliver given r ∷ es) w
    delivers {es} given (Ok u) a b i m = at_own shape market row a b (deliver_step row es given u m.0 m.1) i
    delivers {es} given (Err why) a b i m = unmoved shape market row (deliver given (Err why)) es refl refl refl refl m.1 i

    closes : {es : List Event} {v w : View} (readings deliveries : ℕ) (s s' : Sheet) (r : Result (Unit {0}) Refusal) → v.shape ≡ shape → v.market ≡ market → After es v → Close v readings deliveries s r w s' → After (close readings deliveries s r s' ∷ es) w
    closes {es} readings deliveries s s' (Ok u) a b i m = at_own shape market row a b (close_step row es readings deliveries s s' u m.0 m.1) i
    closes {es} readings deliveries s s' (Err why) a b i m = unmoved shape market row (close readings deliveries s (Err why) s') es refl refl refl refl m.1 i

    draws : {es : List Event} {v w : View} (p : ℕ) (r : Result PayOrder Refusal) → After es v → Draw v p r w → After (draw p r ∷ es) w
    draws {es} p (Ok o) i m = quiet shape market row (draw p (Ok o)) es refl refl refl refl (ap (λ (u : View). u.ledger.revenues) m.1.left) (ap month_of m.1.left) (ap books_of m.1.left) i
    draws {es} p (Err why) i m = unmoved shape market row (draw p (Err why)) es refl refl refl refl m.1 i

    releases : {es : List Event} {v w : View} (o : PayOrder) (r : Result Paid Returned) → After es v → Release v o r w → After (release o r ∷ es) w
    releases {es} o r i m = quiet shape market row (release o r) es refl refl refl refl (ap (λ (u : View). u.ledger.revenues) m.left) (ap month_of m.left) (ap books_of m.left) i

    holds : {es : List Event} {v w : View} (o : PayOrder) (r : Result (Unit {0}) Returned) → After es v → Hold v o r w → After (hold o r ∷ es) w
    holds {es} o r i m = quiet shape market row (hold o r) es refl refl refl refl (ap (λ (u : View). u.ledger.revenues) m.left) (ap month_of m.left) (ap books_of m.left) i

    counted_after : {es : List Event} {hand : List PayOrder} {v : View} → Run shape market row serial es hand v → After es v
    counted_after (new {v} shape_is market_is row_is n) =
        record {
          years = λ j h. n.no_year j;
          dues = no_income (rules_of shape market) (month_of v) n.opened;
          quantities = λ k h. nothing_taken (month_of v) n.opened k;
          keeps =
              record {
                balances = λ k h. n.unused.balances k (let most = few shape market row in omega arith);
                carries = λ k h. n.unused.carries k (let most = few shape market row in omega arith);
                fractions = λ l h. n.unused.fractions l h;
              };
          balanced =
              let count = head_number shape market row in
              let fractions = sum_zero licensee_limit in
              let balances = sumℤ_zero count in
              let carries = sum_zero count in
              omega (arith, ints);
          carries = λ k h. refl;
        }
    counted_after (step (year given r) rest run m h) = let k = held_after shape market row serial run in years given r k.shape_is k.market_is (counted_after run) m
    counted_after (step (tariff given r) rest run m h) = let k = held_after shape market row serial run in tariffs given r k.shape_is k.market_is (counted_after run) m
    counted_after (step (meter given r) rest run m h) = meters given r (held_after shape market row serial run) (counted_after run) m
    counted_after (step (deliver given r) rest run m h) = let k = held_after shape market row serial run in delivers given r k.shape_is k.market_is (counted_after run) m
    counted_after (step (close readings deliveries s r s') rest run m h) = let k = held_after shape market row serial run in closes readings deliveries s s' r k.shape_is k.market_is (counted_after run) m
    counted_after (step (draw p r) rest run m h) = draws p r (counted_after run) m
    counted_after (step (release o r) rest run m h) = releases o r (counted_after run) m
    counted_after (step (hold o r) rest run m h) = holds o r (counted_after run) m

    pub every_run : EveryRun shape market row serial
    every_run es hand v run =
        let c = counted_after run in
        let h = held_after shape market row serial run in
        record {
          balanced = c.balanced;
          places = h.money;
          fractions = λ l k. rw (sym (c.keeps.fractions l k)) ((books_of v).cents l k);
          carries = c.carries;
          keeps = c.keeps;
        }
