-- The first month: whoever makes its calls has them accepted, and closes it on the printed sheet.
use Rattle.std.specs.Prelude.{◌≡◌, ℕ, List, [], ◌∷◌, pos, Ok, Result, codes}
use Rattle.metering.specs.declared.reading.Reading.{Reading}
use Rattle.methodology.specs.Markets.{three_shape, three_meaning}
use Rattle.accounts.specs.declared.sheet.Sheet.{Sheet}
use Rattle.tariffs.specs.declared.row.Row.{Row}
use Rattle.tariffs.specs.declared.filing.Filing.{Filing}
use Rattle.orders.specs.declared.order.PayOrder.{PayOrder}
use Rattle.ledger.specs.declared.refusal.Refusal.{Refusal}
use Rattle.ledger.specs.Views.{View}
use Rattle.ledger.specs.Runs.{Event, Run}
use Rattle.ledger.specs.Runs as runs
use Rattle.ledger.specs.Law.{covered, costs}
use Rattle.sheet.specs.Text.{sheet_text}
use Rattle.worked_figures.specs.FirstCalls.{first_row, FirstFigures}

abbrev pub first_text : List ℕ
first_text =
    codes
    "month 1\nG 22222 20000 199980 20\nT 9222 9000 19980 20\nB 888 907 -1710 80\nE1 53571 52000 43988 12\nE2 52631 60000 -140011 11\nE3 55555 50000 99990 10\nlicensee 1 618 7630\nmargin 0\n"

-- the five calls with any answers, the last first; the sheet before the closing and after it
abbrev pub calls : Row → Filing → Reading → Reading → Result (Unit {0}) Refusal → Result (Unit {0}) Refusal → Result ℕ Refusal → Result (Unit {0}) Refusal → Sheet → Result (Unit {0}) Refusal → Sheet → List Event
calls year tariff sent taken a b c d before e after =
    runs.close 1 1 before e after ∷ runs.deliver taken d ∷ runs.meter sent c ∷ runs.tariff tariff b ∷ runs.year year a ∷ []

-- the calls, all accepted; the station is due 5,500,000 grains
abbrev pub accepted_calls : Row → Filing → Reading → Reading → Sheet → Sheet → List Event
accepted_calls year tariff sent taken before after =
    calls year tariff sent taken (Ok tt) (Ok tt) (Ok 5500000) (Ok tt) before (Ok tt) after

-- the printed sheet, and both sides of the account
pub record Printed (es : List Event) (sheet : Sheet) : Type 0 where
  pub text : sheet_text sheet ≡ first_text
  pub covered : covered three_shape three_meaning first_row es ≡ pos 6410000
  pub costs : costs three_shape three_meaning first_row es ≡ pos 6410000

-- of every house over this market and this agreement, whoever makes the calls
abbrev pub WorkedMonth : Type 0
WorkedMonth =
    (year : Row) (tariff : Filing) (sent taken : Reading) → FirstFigures year tariff sent taken →
    (a b d e : Result (Unit {0}) Refusal) (c : Result ℕ Refusal) (before after : Sheet) (serial : ℕ) (hand : List PayOrder) (v : View) →
    Run three_shape three_meaning first_row serial (calls year tariff sent taken a b c d before e after) hand v →
    (calls year tariff sent taken a b c d before e after ≡ accepted_calls year tariff sent taken before after) × Printed (accepted_calls year tariff sent taken before after) after

-- the calls were made, all accepted, and left this sheet and this house
pub record FirstRun (serial : ℕ) (sheet : Sheet) (v : View) : Type 0 where
  pub year : Row
  pub tariff : Filing
  pub sent : Reading
  pub taken : Reading
  pub before : Sheet
  pub figures : FirstFigures year tariff sent taken
  pub run : Run three_shape three_meaning first_row serial (accepted_calls year tariff sent taken before sheet) [] v
