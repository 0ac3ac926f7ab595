-- What each call of a house answers and leaves: a relation between what the house shows before and after.
use Rattle.std.specs.Prelude.{◌≡◌, ℕ, ◌+◌, Bool, true, false, not, ◌⊎◌, is_some, Ok, Err, Result, nat_le, slice_index}
use Rattle.arith.specs.Money.{cent}
use Rattle.metering.specs.declared.kind.Kind.{Kind}
use Rattle.metering.specs.declared.kind.Kind.TheVariants.{Generator, Licensee}
use Rattle.metering.specs.declared.reading.Reading.{Reading}
use Rattle.agreements.specs.declared.dues.Dues.{Dues}
use Rattle.banks.specs.Rows.{at_place, outcome_at, Booked}
use Rattle.rates.specs.Heads.{unset, rates_at}
use Rattle.accounts.specs.declared.sheet.Sheet.{Sheet}
use Rattle.accounts.specs.Books.{Unused, PeriodBegun, earlier}
use Rattle.accounts.specs.Months.{read_at, delivered_at, Opened, Generated, Delivered}
use Rattle.tariffs.specs.declared.row.Row.{Row}
use Rattle.tariffs.specs.declared.filing.Filing.{Filing}
use Rattle.tariffs.specs.declared.refusal.TariffFault.{TariffFault}
use Rattle.tariffs.specs.Years.{year_fits, Allows}
use Rattle.tariffs.specs.Publishing.{Publishes}
use Rattle.settlement.specs.declared.fault.CloseFault.{CloseFault}
use Rattle.settlement.specs.Closing.{Case, case_of}
use Rattle.settlement.specs.Closed.{Closed, Passed, Refused}
use Rattle.orders.specs.declared.order.PayOrder.{PayOrder}
use Rattle.orders.specs.declared.order.Paid.{Paid}
use Rattle.orders.specs.declared.order.Returned.{Returned}
use Rattle.orders.specs.Tills.{stands, ordered_at, room, New, Puts, Drawn, Releases, Holds}
use Rattle.ledger.specs.declared.stage.Half.{Half}
use Rattle.ledger.specs.declared.stage.Stage.TheVariants.{BeforeYear, BeforeTariff, InMonth}
use Rattle.ledger.specs.declared.refusal.Refusal.{Refusal}
use Rattle.ledger.specs.declared.refusal.Refusal.TheVariants.{WrongKind, NoMonth, NoPlace, Again, TooMuch, NotNow, Misallowed, UnderACent}
use Rattle.ledger.specs.Refusals.{of_tariff, of_close}
use Rattle.ledger.specs.Stages.{first_month, after_month, before_year, before_tariff, in_month}
use Rattle.ledger.specs.Views.{View, rules, till_of, month_of, books_of, with_year, with_tariff, with_month, with_closed, with_till, with_reading}
use Rattle.ledger.specs.Verdicts.{Verdict, accepted, refused, must, bank_says, ◌and_then◌}
use Rattle.ledger.specs.Terms.{worth, dues_at}

-- a house newly made: before a year, with amounts 0, no reading and no order
pub record NewHouse (serial : ℕ) (v : View) : Type 0 where
  pub stage_is : v.ledger.stage ≡ BeforeYear
  pub no_year : (j : ℕ) → slice_index v.ledger.revenues.yearly j ≡ 0
  pub no_tariff : (k : ℕ) → (rates_at v.ledger.rates k).published ≡ 0
  pub unused : Unused (books_of v)
  pub opened : Opened (month_of v)
  pub money : New serial (till_of v)

-- and no base rate or loss factor either
abbrev pub Unrated : View → Type 0
Unrated v = (k : ℕ) → rates_at v.ledger.rates k ≡ unset

-- Year

abbrev pub year_verdict : View → Row → Verdict
year_verdict v filed =
    must (before_year v.ledger.stage) NotNow
    and_then must (year_fits v.shape filed) Misallowed

pub record YearFiled (v : View) (filed : Row) (w : View) : Type 0 where
  pub allowed : Allows v.shape filed w.ledger.revenues
  pub left : w ≡ with_year v w.ledger.revenues

abbrev pub Year : View → Row → Result (Unit {0}) Refusal → View → Type 0
Year v filed (Ok _) w = (year_verdict v filed ≡ accepted) × YearFiled v filed w
Year v filed (Err why) w = (year_verdict v filed ≡ refused why) × (w ≡ v)

-- Tariff: D, by which rates are adjusted, is each head's sum of differences in the period before the one that now ends

pub record TariffPublished (v : View) (filing : Filing) (half : Half) (w : View) : Type 0 where
  pub stage_is : v.ledger.stage ≡ BeforeTariff half
  pub published : Publishes v.shape filing (earlier (books_of v)) (Ok w.ledger.rates)
  pub begun : PeriodBegun (books_of v) (books_of w)
  pub left : w ≡ with_tariff v (first_month half) w.ledger.rates (books_of w)

pub record TariffFaulty (v : View) (filing : Filing) (fault : TariffFault) (why : Refusal) : Type 0 where
  pub timely : before_tariff v.ledger.stage ≡ true
  pub told : why ≡ of_tariff fault
  pub faulty : Publishes v.shape filing (earlier (books_of v)) (Err fault)

abbrev pub TariffRefused : View → Filing → Refusal → Type 0
TariffRefused v filing why =
    ((before_tariff v.ledger.stage ≡ false) × (why ≡ NotNow)) ⊎ ((fault : TariffFault) × TariffFaulty v filing fault why)

abbrev pub Tariff : View → Filing → Result (Unit {0}) Refusal → View → Type 0
Tariff v filing (Ok _) w = (half : Half) × TariffPublished v filing half w
Tariff v filing (Err why) w = TariffRefused v filing why × (w ≡ v)

-- Meter: the answer is what the reading's station is due, in grains

-- what the agreement at the reading's place gives for it, at that place's standing
abbrev pub dues_for : View → Reading → Dues
dues_for v r = dues_at (at_place v.row r.number) r

abbrev pub of_generator : Kind → Bool
of_generator Generator = true
of_generator Licensee = false

abbrev pub meter_verdict : View → Reading → Verdict
meter_verdict v r =
    must (of_generator r.kind) WrongKind
    and_then must (in_month v.ledger.stage) NoMonth
    and_then must (is_some (at_place v.row r.number)) NoPlace
    and_then must (not (read_at (month_of v) r.number)) Again
    and_then bank_says (outcome_at (at_place v.row r.number) r)
    and_then must (room (till_of v) r.number (worth (dues_for v r))) TooMuch

pub record Metered (v : View) (r : Reading) (dues : ℕ) (w : View) : Type 0 where
  pub due : dues ≡ worth (dues_for v r)
  pub booked : Booked v.row r.number r w.row
  pub added : Generated (rules v) (month_of v) r (dues_for v r) (month_of w)
  pub credited : Puts (till_of v) r.number (stands (till_of v) r.number + dues) (ordered_at (till_of v) r.number) (till_of w)
  pub left : w ≡ with_reading v w.row (month_of w) (till_of w)

abbrev pub Meter : View → Reading → Result ℕ Refusal → View → Type 0
Meter v r (Ok dues) w = (meter_verdict v r ≡ accepted) × Metered v r dues w
Meter v r (Err why) w = (meter_verdict v r ≡ refused why) × (w ≡ v)

-- Deliver

abbrev pub deliver_verdict : View → Reading → Verdict
deliver_verdict v r =
    must (not (of_generator r.kind)) WrongKind
    and_then must (in_month v.ledger.stage) NoMonth
    and_then must (not (delivered_at (month_of v) r.number)) Again

pub record DeliveryTaken (v : View) (r : Reading) (w : View) : Type 0 where
  pub added : Delivered (rules v) (month_of v) r (month_of w)
  pub left : w ≡ with_month v (month_of w)

abbrev pub Deliver : View → Reading → Result (Unit {0}) Refusal → View → Type 0
Deliver v r (Ok _) w = (deliver_verdict v r ≡ accepted) × DeliveryTaken v r w
Deliver v r (Err why) w = (deliver_verdict v r ≡ refused why) × (w ≡ v)

-- Close

-- all that closing month n looks at
abbrev pub case_at : View → ℕ → Case
case_at v n = case_of (rules v) (books_of v) v.ledger.rates v.ledger.revenues.yearly n (month_of v)

pub record MonthClosed (v : View) (readings deliveries n : ℕ) (sheet : Sheet) (w : View) : Type 0 where
  pub stage_is : v.ledger.stage ≡ InMonth n
  pub passed : Passed (case_at v n) readings deliveries
  pub closed : Closed (case_at v n) sheet (books_of w)
  pub opened : Opened (month_of w)
  pub left : w ≡ with_closed v (after_month n) (books_of w) (month_of w)

pub record CloseFaulty (v : View) (readings deliveries n : ℕ) (fault : CloseFault) (why : Refusal) : Type 0 where
  pub stage_is : v.ledger.stage ≡ InMonth n
  pub told : why ≡ of_close fault
  pub faulty : Refused (case_at v n) readings deliveries fault

abbrev pub CloseRefused : View → ℕ → ℕ → Refusal → Type 0
CloseRefused v readings deliveries why =
    ((in_month v.ledger.stage ≡ false) × (why ≡ NoMonth)) ⊎ ((n : ℕ) × (fault : CloseFault) × CloseFaulty v readings deliveries n fault why)

abbrev pub Close : View → ℕ → ℕ → Sheet → Result (Unit {0}) Refusal → View → Sheet → Type 0
Close v readings deliveries sheet (Ok _) w sheet' = (n : ℕ) × MonthClosed v readings deliveries n sheet' w
Close v readings deliveries sheet (Err why) w sheet' = CloseRefused v readings deliveries why × (w ≡ v) × (sheet' ≡ sheet)

-- Draw, release and hold

abbrev pub draw_verdict : View → ℕ → Verdict
draw_verdict v p =
    must (is_some (at_place v.row p)) NoPlace
    and_then must (nat_le cent (stands (till_of v) p)) UnderACent

pub record OrderDrawn (v : View) (p : ℕ) (o : PayOrder) (w : View) : Type 0 where
  pub drawn : Drawn (till_of v) p o (till_of w)
  pub left : w ≡ with_till v (till_of w)

abbrev pub Draw : View → ℕ → Result PayOrder Refusal → View → Type 0
Draw v p (Ok o) w = (draw_verdict v p ≡ accepted) × OrderDrawn v p o w
Draw v p (Err why) w = (draw_verdict v p ≡ refused why) × (w ≡ v)

-- an order that is not the house's own comes back, and then the till is as it was
pub record Release (v : View) (o : PayOrder) (answer : Result Paid Returned) (w : View) : Type 0 where
  pub released : Releases (till_of v) o answer (till_of w)
  pub left : w ≡ with_till v (till_of w)

pub record Hold (v : View) (o : PayOrder) (answer : Result (Unit {0}) Returned) (w : View) : Type 0 where
  pub held : Holds (till_of v) o answer (till_of w)
  pub left : w ≡ with_till v (till_of w)
