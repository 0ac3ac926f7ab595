-- The first month's calls, one after another: each is accepted, and what the house then shows.
use Rattle.std.proofs.Common.{◌≡◌, ℕ, ◌-◌, ◌<◌, get_or, None, Ok, Err, Result, sym, refl, ap, ◌∙◌, subst, lit<, arith, ⊎_elim}
use Rattle.std.proofs.lemmas.Bool.{true≢false}
use Rattle.std.proofs.lemmas.Int.{ints}
use Rattle.metering.specs.declared.reading.Reading.{Reading}
use Rattle.methodology.specs.Markets.{three_shape, three_meaning}
use Rattle.banks.specs.Rows.{at_place}
use Rattle.rates.specs.Heads.{rates_at}
use Rattle.accounts.specs.declared.books.Books.{Books}
use Rattle.accounts.specs.declared.month.Month.{Month}
use Rattle.accounts.specs.declared.sheet.Sheet.{Sheet}
use Rattle.accounts.specs.Rules.{rules_of}
use Rattle.accounts.specs.Books.{earlier, Unused, PeriodBegun}
use Rattle.accounts.specs.Months.{licensee_at, Opened, Generated, Delivered}
use Rattle.tariffs.specs.declared.row.Row.{Row}
use Rattle.tariffs.specs.declared.filing.Filing.{Filing}
use Rattle.tariffs.specs.Rows.{row_fits, each_between}
use Rattle.tariffs.specs.Publishing.{Publishes}
use Rattle.settlement.specs.Closing.{case_of}
use Rattle.settlement.specs.Closed.{Closed, Refused}
use Rattle.orders.specs.Tills.{stands, ordered_at}
use Rattle.ledger.specs.declared.stage.Half.{Half}
use Rattle.ledger.specs.declared.stage.Half.TheVariants.{First}
use Rattle.ledger.specs.declared.stage.Stage.TheVariants.{BeforeYear, BeforeTariff, InMonth}
use Rattle.ledger.specs.declared.refusal.Refusal.{Refusal}
use Rattle.ledger.specs.Views.{View, rules, till_of, month_of, books_of, with_tariff}
use Rattle.ledger.specs.Stages.{first_month, before_tariff, in_month}
use Rattle.ledger.specs.Terms.{worth, dues_at}
use Rattle.ledger.specs.Calls.{Year, Tariff, Meter, Deliver, Close, case_at}
use Rattle.ledger.proofs.Months.{refused_not}
use Rattle.worked_figures.specs.FirstCalls.{first_row, FirstYear, FirstTariff, FirstSent, FirstTaken}
use Rattle.worked_cases.proofs.Figures.{rate_at, first_dues, Standing, not_refused, Shown, shown}
use Rattle.worked_cases.proofs.Rates.{no_differences, not_faulty, rates_are}

-- a house over the first month's market and agreement, whose accounts and money nothing has moved
pub record Fresh (v : View) : Type 0 where
  pub shape_is : v.shape ≡ three_shape
  pub market_is : v.market ≡ three_meaning
  pub row_is : v.row ≡ first_row
  pub unused : Unused (books_of v)
  pub none_stands : stands (till_of v) 1 ≡ 0
  pub none_on_orders : ordered_at (till_of v) 1 ≡ 0

-- the revenues are filed
pub record Filed (v : View) : Type 0 where
  pub year_1 : get_or v.ledger.revenues.yearly 0 0 ≡ 1000
  pub year_2 : get_or v.ledger.revenues.yearly 1 0 ≡ 100

pub record AfterYear (v : View) : Type 0 where
  pub fresh : Fresh v
  pub filed : Filed v
  pub opened : Opened (month_of v)
  pub stage_is : v.ledger.stage ≡ BeforeTariff First

pub year_accepted : {v w : View} {year : Row} → Fresh v → Opened (month_of v) → v.ledger.stage ≡ BeforeYear → FirstYear year → (r : Result (Unit {0}) Refusal) → Year v year r w → (r ≡ Ok tt) × AfterYear w
unfolding row_fits each_between
year_accepted {v} {w} {year} f o stage t (Ok u) y = (
  refl,
  record {
    fresh = subst Fresh (sym y.1.left) (record { shape_is = f.shape_is; market_is = f.market_is; row_is = f.row_is; unused = f.unused; none_stands = f.none_stands; none_on_orders = f.none_on_orders });
    filed =
        record {
          year_1 = y.1.allowed.as_filed 0 (rw f.shape_is (lit< tt)) ∙ t.figure_is 0 (lit< tt);
          year_2 = y.1.allowed.as_filed 1 (rw f.shape_is (lit< tt)) ∙ t.figure_is 1 (lit< tt);
        };
    opened = subst (λ (u : View). Opened (month_of u)) (sym y.1.left) o;
    stage_is = ap (λ (u : View). u.ledger.stage) y.1.left;
  },
)
year_accepted {v} {w} {year} f o stage t (Err why) y =
    absurd (refused_not why (sym y.0 ∙ (simp (stage, f.shape_is, t.count_is, t.figure_is 0 (lit< tt), t.figure_is 1 (lit< tt)))))

-- the first month is open, at these rates
pub record Open (v : View) : Type 0 where
  pub shape_is : v.shape ≡ three_shape
  pub market_is : v.market ≡ three_meaning
  pub unused : Unused (books_of v)
  pub filed : Filed v
  pub stage_is : v.ledger.stage ≡ InMonth 1
  pub rated : (k : ℕ) → k < 6 → (rates_at v.ledger.rates k).published ≡ rate_at k

pub record AfterTariff (v : View) : Type 0 where
  pub fresh : Fresh v
  pub month_open : Open v
  pub opened : Opened (month_of v)

-- where nothing was in the books, nothing is when a period begins
begun : {b b' : Books} → Unused b → PeriodBegun b b' → Unused b'
begun {b} {b'} u p =
    record {
      balances = λ k h. (p.accounts k h).balance ∙ u.balances k h;
      openings = λ k h. (p.accounts k h).opening ∙ u.balances k h;
      befores = λ k h. let a = u.balances k h in let o = u.openings k h in let e = (p.accounts k h).before in omega (arith, ints);
      carries = λ k h. (p.accounts k h).carry ∙ u.carries k h;
      fractions = λ l h. ap (λ fs. get_or fs l 0) p.fractions ∙ u.fractions l h;
    }

same_half : {h : Half} → BeforeTariff h ≡ BeforeTariff First → h ≡ First
same_half e = cc

pub tariff_accepted : {v w : View} {tariff : Filing} → AfterYear v → FirstTariff tariff → (r : Result (Unit {0}) Refusal) → Tariff v tariff r w → (r ≡ Ok tt) × AfterTariff w
tariff_accepted {v} {w} {tariff} a t (Ok u) (half, p) =
    let first = same_half (sym p.stage_is ∙ a.stage_is) in
    let none = no_differences (books_of v) a.fresh.unused in
    let published = subst (λ s. Publishes s tariff (earlier (books_of v)) (Ok w.ledger.rates)) a.fresh.shape_is p.published in
    let left : w ≡ with_tariff v (InMonth 1) w.ledger.rates (books_of w) = p.left ∙ ap (λ h. with_tariff v (first_month h) w.ledger.rates (books_of w)) first in
    let shape = ap (λ (u : View). u.shape) left ∙ a.fresh.shape_is in
    let market = ap (λ (u : View). u.market) left ∙ a.fresh.market_is in
    let unused = begun a.fresh.unused p.begun in (
      refl,
      record {
        fresh =
            record {
              shape_is = shape;
              market_is = market;
              row_is = ap (λ (u : View). u.row) left ∙ a.fresh.row_is;
              unused = unused;
              none_stands = ap (λ u. stands (till_of u) 1) left ∙ a.fresh.none_stands;
              none_on_orders = ap (λ u. ordered_at (till_of u) 1) left ∙ a.fresh.none_on_orders;
            };
        month_open =
            record {
              shape_is = shape;
              market_is = market;
              unused = unused;
              filed = subst Filed (sym left) (record { year_1 = a.filed.year_1; year_2 = a.filed.year_2 });
              stage_is = ap (λ (u : View). u.ledger.stage) left;
              rated = rates_are tariff t (earlier (books_of v)) none w.ledger.rates published;
            };
        opened = subst (λ (u : View). Opened (month_of u)) (sym left) a.opened;
      },
    )
tariff_accepted {v} {w} {tariff} a t (Err why) p =
    absurd
    (⊎_elim
    (λ late. true≢false (sym (ap before_tariff a.stage_is) ∙ late.0))
    (λ (fault, f). not_faulty tariff t (earlier (books_of v)) (no_differences (books_of v) a.fresh.unused) fault (subst (λ s. Publishes s tariff (earlier (books_of v)) (Err fault)) a.fresh.shape_is f.faulty))
    p.0)

-- the generator's dues
dues_are : (r : Reading) → FirstSent r → dues_at (at_place first_row r.number) r ≡ first_dues
dues_are r t = simp (t.number_is, t.demand_is, t.energies_are)

rules_are : {v : View} → Open v → rules v ≡ rules_of three_shape three_meaning
rules_are {v} o = ap (λ s. rules_of s v.market) o.shape_is ∙ ap (rules_of three_shape) o.market_is

pub record AfterMeter (sent : Reading) (v : View) : Type 0 where
  pub month_open : Open v
  pub before : Month
  pub opened : Opened before
  pub generated : Generated (rules_of three_shape three_meaning) before sent first_dues (month_of v)
  pub unread : (l : ℕ) → licensee_at (month_of v) l ≡ None

pub meter_accepted : {v w : View} {sent : Reading} → AfterTariff v → FirstSent sent → (r : Result ℕ Refusal) → Meter v sent r w → (r ≡ Ok 5500000) × AfterMeter sent w
meter_accepted {v} {w} {sent} a t (Ok n) m =
    let place = ap (λ row. at_place row sent.number) a.fresh.row_is in
    let dues = ap (λ p. dues_at p sent) place ∙ dues_are sent t in
    let generated =
    subst (λ d. Generated (rules_of three_shape three_meaning) (month_of v) sent d (month_of w)) dues
    (subst (λ r. Generated r (month_of v) sent (dues_at (at_place v.row sent.number) sent) (month_of w)) (rules_are a.month_open) m.1.added) in (
      ap Ok (m.1.due ∙ ap worth dues),
      record {
        month_open = subst Open (sym m.1.left) (record { shape_is = a.month_open.shape_is; market_is = a.month_open.market_is; unused = a.month_open.unused; filed = record { year_1 = a.month_open.filed.year_1; year_2 = a.month_open.filed.year_2 }; stage_is = a.month_open.stage_is; rated = a.month_open.rated });
        before = month_of v;
        opened = a.opened;
        generated = generated;
        unread = λ l. ap (λ ls. get_or ls l None) generated.licensees ∙ a.opened.licensees l;
      },
    )
meter_accepted {v} {w} {sent} a t (Err why) m =
    absurd (refused_not why (sym m.0 ∙ (simp (t.kind_is, a.month_open.stage_is, a.fresh.row_is, t.number_is, a.opened.read 1, t.demand_is, t.energies_are, a.fresh.none_stands, a.fresh.none_on_orders))))

pub record AfterDelivery (sent taken : Reading) (v : View) : Type 0 where
  pub month_open : Open v
  pub first : Month
  pub second : Month
  pub opened : Opened first
  pub generated : Generated (rules_of three_shape three_meaning) first sent first_dues second
  pub delivered : Delivered (rules_of three_shape three_meaning) second taken (month_of v)

pub deliver_accepted : {v w : View} {sent taken : Reading} → AfterMeter sent v → FirstTaken taken → (r : Result (Unit {0}) Refusal) → Deliver v taken r w → (r ≡ Ok tt) × AfterDelivery sent taken w
deliver_accepted {v} {w} {sent} {taken} a t (Ok u) d = (
  refl,
  record {
    month_open = subst Open (sym d.1.left) (record { shape_is = a.month_open.shape_is; market_is = a.month_open.market_is; unused = a.month_open.unused; filed = record { year_1 = a.month_open.filed.year_1; year_2 = a.month_open.filed.year_2 }; stage_is = a.month_open.stage_is; rated = a.month_open.rated });
    first = a.before;
    second = month_of v;
    opened = a.opened;
    generated = a.generated;
    delivered = subst (λ r. Delivered r (month_of v) taken (month_of w)) (rules_are a.month_open) d.1.added;
  },
)
deliver_accepted {v} {w} {sent} {taken} a t (Err why) d =
    absurd (refused_not why (sym d.0 ∙ (simp (t.kind_is, a.month_open.stage_is, a.unread (taken.number - 1)))))

-- what the closing then looks at
standing : {v : View} {sent taken : Reading} (a : AfterDelivery sent taken v) → FirstSent sent → FirstTaken taken → Standing (books_of v) v.ledger.rates v.ledger.revenues.yearly a.first a.second (month_of v) sent taken
standing a sent taken =
    record { unused = a.month_open.unused; rated = a.month_open.rated; year_1 = a.month_open.filed.year_1; year_2 = a.month_open.filed.year_2; opened = a.opened; generated = a.generated; delivered = a.delivered; sending = sent; taking = taken }

first_case : {v : View} {n : ℕ} → Open v → v.ledger.stage ≡ InMonth n → case_at v n ≡ case_of (rules_of three_shape three_meaning) (books_of v) v.ledger.rates v.ledger.revenues.yearly 1 (month_of v)
first_case {v} {n} o stage =
    let one : n ≡ 1 = (let e : InMonth n ≡ InMonth 1 = sym stage ∙ o.stage_is in cc) in
    ap (case_at v) one ∙ ap (λ r. case_of r (books_of v) v.ledger.rates v.ledger.revenues.yearly 1 (month_of v)) (rules_are o)

pub close_accepted : {v : View} {sent taken : Reading} (w : View) (before after : Sheet) (a : AfterDelivery sent taken v) (s : FirstSent sent) (t : FirstTaken taken) (r : Result (Unit {0}) Refusal) → Close v 1 1 before r w after → (r ≡ Ok tt) × Shown after
close_accepted {v} {sent} {taken} w before after a s t (Ok u) (n, m) =
    (refl, shown (books_of v) v.ledger.rates v.ledger.revenues.yearly a.first a.second (month_of v) sent taken (standing a s t) after (books_of w) (subst (λ c. Closed c after (books_of w)) (first_case a.month_open m.stage_is) m.closed))
close_accepted {v} {sent} {taken} w before after a s t (Err why) m =
    absurd
    (⊎_elim
    (λ none. true≢false (sym (ap in_month a.month_open.stage_is) ∙ none.0))
    (λ (n, fault, f). not_refused (books_of v) v.ledger.rates v.ledger.revenues.yearly a.first a.second (month_of v) sent taken (standing a s t) fault (subst (λ c. Refused c 1 1 fault) (first_case a.month_open f.stage_is) f.faulty))
    m.0)
