use Rattle.std.proofs.Common.{◌≡◌, ℕ, List, [], ◌∷◌, Ok, Result, refl, ap, ◌∙◌, subst}
use Rattle.std.specs.Result.{IsOk, is_ok}
use Rattle.agreements.specs.declared.two_part.TwoPart.{TwoPart}
use Rattle.agreements.specs.TwoParts.{two_part, meaning_of_two_part}
use Rattle.banks.specs.declared.one.One.{One}
use Rattle.methodology.specs.Markets.{three_shape, three_meaning}
use Rattle.ledger.specs.Views.{View}
use Rattle.ledger.specs.Calls.{NewHouse}
use Rattle.ledger.specs.Runs.{Event, Run, new, step, year, tariff, meter, deliver, close}
use Rattle.house.specs.Shown.{Over}
use Rattle.worked_figures.specs.FirstCalls.{first_row}
use Rattle.ledger.specs.declared.refusal.Refusal.{Refusal}
use Rattle.worked_cases.proofs.Joint.{worked_cases, year_ok, tariff_ok, meter_ok, close_ok, all_ok}
use Rattle.worked_cases.proofs.Sheet.{text_is}
use Rattle.worked_cases.proofs.month.first_month.Goals as goal

-- a house newly made over a bank of the month's agreement
begin : {serial : ℕ} {v : View} {b : One TwoPart} (a : TwoPart) → meaning_of_two_part a ≡ two_part 100 20000 50000 → b.agreement ≡ a → Over three_shape three_meaning (meaning_of_two_part b.agreement ∷ []) v → NewHouse serial v → Run three_shape three_meaning first_row serial [] [] v
begin a meant one over n = new over.shape_is over.market_is (over.row_is ∙ ap (λ x. x ∷ []) (ap meaning_of_two_part one ∙ meant)) n

is_ok_of : {A : Type 0} {x : A} {r : Result A Refusal} → r ≡ Ok x → IsOk r
is_ok_of e = ap is_ok e

by_other_names : {serial : ℕ} {v : View} {es es' : List Event} → es ≡ es' → Run three_shape three_meaning first_row serial es [] v → Run three_shape three_meaning first_row serial es' [] v
by_other_names {serial} {v} e run = subst (λ es. Run three_shape three_meaning first_row serial es [] v) e run

pub unwrap-requires : goal.unwrap-requires
unwrap-requires c =
    let house = begin c.agreement.result c.agreement.ensures c.new.ensures c.new-house.ensures.over c.new-house.ensures.made in
    let filed = step (year c.year.result c.year-2.result) [] house c.year-2.ensures refl in
    is_ok_of (year_ok c.args.serial c.year.result c.year.ensures c.year-2.result filed).0

pub unwrap-requires-2 : goal.unwrap-requires-2
unwrap-requires-2 c =
    let house = begin c.agreement.result c.agreement.ensures c.new.ensures c.new-house.ensures.over c.new-house.ensures.made in
    let filed = step (year c.year.result c.year-2.result) [] house c.year-2.ensures refl in
    let priced = step (tariff c.tariff.result c.tariff-2.result) [] filed c.tariff-2.ensures refl in
    is_ok_of (tariff_ok c.args.serial c.year.result c.year.ensures c.year-2.result c.tariff.result c.tariff.ensures c.tariff-2.result priced).0

pub unwrap-requires-3 : goal.unwrap-requires-3
unwrap-requires-3 c =
    let house = begin c.agreement.result c.agreement.ensures c.new.ensures c.new-house.ensures.over c.new-house.ensures.made in
    let filed = step (year c.year.result c.year-2.result) [] house c.year-2.ensures refl in
    let priced = step (tariff c.tariff.result c.tariff-2.result) [] filed c.tariff-2.ensures refl in
    let metered = step (meter c.sent.result c.meter.result) [] priced c.meter.ensures refl in
    is_ok_of (meter_ok c.args.serial c.year.result c.year.ensures c.year-2.result c.tariff.result c.tariff.ensures c.tariff-2.result c.sent.result c.sent.ensures c.meter.result metered).0

pub unwrap-requires-5 : goal.unwrap-requires-5
unwrap-requires-5 c =
    let house = begin c.agreement.result c.agreement.ensures c.new.ensures c.new-house.ensures.over c.new-house.ensures.made in
    let filed = step (year c.year.result c.year-2.result) [] house c.year-2.ensures refl in
    let priced = step (tariff c.tariff.result c.tariff-2.result) [] filed c.tariff-2.ensures refl in
    let metered = step (meter c.sent.result c.meter.result) [] priced c.meter.ensures refl in
    let delivered = step (deliver c.taken.result c.deliver.result) [] metered c.deliver.ensures refl in
    let run = step (close 1 1 c.empty-sheet.result c.close.result c.close.new.sheet) [] delivered c.close.ensures refl in
    is_ok_of (close_ok c.args.serial c.year.result c.year.ensures c.year-2.result c.tariff.result c.tariff.ensures c.tariff-2.result c.sent.result c.sent.ensures c.meter.result c.taken.result c.taken.ensures c.deliver.result c.empty-sheet.result c.close.new.sheet c.close.result run).0

pub returns : goal.returns
returns c =
    let house = begin c.agreement.result c.agreement.ensures c.new.ensures c.new-house.ensures.over c.new-house.ensures.made in
    let filed = step (year c.year.result c.year-2.result) [] house c.year-2.ensures refl in
    let priced = step (tariff c.tariff.result c.tariff-2.result) [] filed c.tariff-2.ensures refl in
    let metered = step (meter c.sent.result c.meter.result) [] priced c.meter.ensures refl in
    let delivered = step (deliver c.taken.result c.deliver.result) [] metered c.deliver.ensures refl in
    let run = step (close 1 1 c.empty-sheet.result c.close.result c.close.new.sheet) [] delivered c.close.ensures refl in
    record {
      text = text_is c.close.new.sheet (close_ok c.args.serial c.year.result c.year.ensures c.year-2.result c.tariff.result c.tariff.ensures c.tariff-2.result c.sent.result c.sent.ensures c.meter.result c.taken.result c.taken.ensures c.deliver.result c.empty-sheet.result c.close.new.sheet c.close.result run).1;
      run =
          record {
            year = c.year.result;
            tariff = c.tariff.result;
            sent = c.sent.result;
            taken = c.taken.result;
            before = c.empty-sheet.result;
            figures = record { revenues = c.year.ensures; filing = c.tariff.ensures; station = c.sent.ensures; licensee = c.taken.ensures };
            run = by_other_names (all_ok c.args.serial c.year.result c.year.ensures c.year-2.result c.tariff.result c.tariff.ensures c.tariff-2.result c.sent.result c.sent.ensures c.meter.result c.taken.result c.taken.ensures c.deliver.result c.empty-sheet.result c.close.new.sheet c.close.result run) run;
          };
      cases = worked_cases;
    }
