-- The worked cases together.
use Rattle.std.proofs.Common.{◌≡◌, ℕ, List, [], ◌∷◌, Ok, Result}
use Rattle.metering.specs.declared.reading.Reading.{Reading}
use Rattle.methodology.specs.Markets.{three_shape, three_meaning}
use Rattle.accounts.specs.declared.sheet.Sheet.{Sheet}
use Rattle.tariffs.specs.declared.row.Row.{Row}
use Rattle.tariffs.specs.declared.filing.Filing.{Filing}
use Rattle.orders.specs.declared.order.PayOrder.{PayOrder}
use Rattle.ledger.specs.declared.refusal.Refusal.{Refusal}
use Rattle.ledger.specs.Views.{View}
use Rattle.ledger.specs.Calls.{NewHouse}
use Rattle.ledger.specs.Runs.{Event, Run, new, step, year, tariff, meter, deliver, close}
use Rattle.worked_cases.proofs.QuotaDues.{worked}
use Rattle.worked_figures.specs.FirstCalls.{first_row, FirstYear, FirstTariff, FirstSent, FirstTaken}
use Rattle.worked_cases.specs.FirstMonth.{calls, accepted_calls, WorkedMonth}
use Rattle.worked_cases.specs.Cases.{WorkedCases}
use Rattle.worked_cases.proofs.Small.{adjustment, closing}
use Rattle.worked_cases.proofs.Steps.{Fresh, AfterYear, AfterTariff, AfterMeter, AfterDelivery, year_accepted, tariff_accepted, meter_accepted, deliver_accepted, close_accepted}
use Rattle.worked_cases.proofs.Figures.{Shown}
use Rattle.worked_cases.proofs.Sheet.{printed}

pub fresh : {serial : ℕ} {v : View} → v.shape ≡ three_shape → v.market ≡ three_meaning → v.row ≡ first_row → NewHouse serial v → Fresh v
fresh shape market row n = record { shape_is = shape; market_is = market; row_is = row; unused = n.unused; none_stands = n.money.none_stands 1; none_on_orders = n.money.none_on_orders 1 }

module _ (serial : ℕ) where
  -- the calls so far
  abbrev Calls : List Event → List PayOrder → View → Type 0
  Calls = Run three_shape three_meaning first_row serial

  module _ (given : Row) (g : FirstYear given) (a : Result (Unit {0}) Refusal) where
    pub year_ok : {hand : List PayOrder} {v : View} → Calls (year given a ∷ []) hand v → (a ≡ Ok tt) × AfterYear v
    year_ok (step _ rest (new shape market row n) y h) = year_accepted (fresh shape market row n) n.opened n.stage_is g a y

    module _ (filing : Filing) (f : FirstTariff filing) (b : Result (Unit {0}) Refusal) where
      pub tariff_ok : {hand : List PayOrder} {v : View} → Calls (tariff filing b ∷ year given a ∷ []) hand v → (b ≡ Ok tt) × AfterTariff v
      tariff_ok (step _ rest run t h) = tariff_accepted (year_ok run).1 f b t

      module _ (sent : Reading) (s : FirstSent sent) (c : Result ℕ Refusal) where
        pub meter_ok : {hand : List PayOrder} {v : View} → Calls (meter sent c ∷ tariff filing b ∷ year given a ∷ []) hand v → (c ≡ Ok 5500000) × AfterMeter sent v
        meter_ok (step _ rest run m h) = meter_accepted (tariff_ok run).1 s c m

        module _ (taken : Reading) (l : FirstTaken taken) (d : Result (Unit {0}) Refusal) where
          pub deliver_ok : {hand : List PayOrder} {v : View} → Calls (deliver taken d ∷ meter sent c ∷ tariff filing b ∷ year given a ∷ []) hand v → (d ≡ Ok tt) × AfterDelivery sent taken v
          deliver_ok (step _ rest run x h) = deliver_accepted (meter_ok run).1 l d x

          module _ (before after : Sheet) (e : Result (Unit {0}) Refusal) where
            pub close_ok : {hand : List PayOrder} {v : View} → Calls (calls given filing sent taken a b c d before e after) hand v → (e ≡ Ok tt) × Shown after
            close_ok {hand} {v} (step _ rest run z h) = close_accepted v before after (deliver_ok run).1 s l e z

            -- all of them are accepted
            pub all_ok : {hand : List PayOrder} {v : View} → Calls (calls given filing sent taken a b c d before e after) hand v → calls given filing sent taken a b c d before e after ≡ accepted_calls given filing sent taken before after
            all_ok (step _ r5 (step _ r4 (step _ r3 (step _ r2 (step _ r1 run y h1) t h2) m h3) x h4) z h5) =
                let first = step (year given a) r1 run y h1 in
                let filed = (year_ok first).0 in
                let second = step (tariff filing b) r2 first t h2 in
                let priced = (tariff_ok second).0 in
                let third = step (meter sent c) r3 second m h3 in
                let metered = (meter_ok third).0 in
                let fourth = step (deliver taken d) r4 third x h4 in
                let delivered = (deliver_ok fourth).0 in
                let closed = (close_ok (step (close 1 1 before e after) r5 fourth z h5)).0 in
                cc

month : WorkedMonth
month given filing sent taken f a b d e c before after serial hand v run = (
  all_ok serial given f.revenues a filing f.filing b sent f.station c taken f.licensee d before after e run,
  printed after (close_ok serial given f.revenues a filing f.filing b sent f.station c taken f.licensee d before after e run).1 given filing sent taken before f,
)

pub worked_cases : WorkedCases
worked_cases = record { quota = worked; adjustment = adjustment; closing = closing; month = month }
