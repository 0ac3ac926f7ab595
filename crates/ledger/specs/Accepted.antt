-- What the accepted calls of a list brought, the last call first.
use Rattle.std.specs.Prelude.{ℕ, ◌+◌, cond, List, [], ◌∷◌, ◌++◌, ℤ, pos, ◌+ℤ◌, Some, None, Ok, Err, Option, Result, ◌==◌, slice_index}
use Rattle.metering.specs.declared.reading.Reading.{Reading}
use Rattle.agreements.specs.Meaning.{Meaning}
use Rattle.banks.specs.Rows.{at_place}
use Rattle.arith.specs.Months.{share as month-share}
use Rattle.accounts.specs.declared.sheet.Sheet.{Sheet}
use Rattle.accounts.specs.Sums.{sum_to}
use Rattle.accounts.specs.Rules.{Rules}
use Rattle.accounts.specs.Tables.{under}
use Rattle.tariffs.specs.declared.row.Row.{Row}
use Rattle.accounts.specs.Sheets.{line_at, billed_at}
use Rattle.settlement.specs.Law.{bills_on}
use Rattle.orders.specs.declared.order.PayOrder.{PayOrder}
use Rattle.ledger.specs.Terms.{worth, dues_at, place_after}
use Rattle.ledger.specs.Runs.{Event, year, meter, deliver, close, release}

-- something where there is one, and else the first
abbrev pub some_or : {A B : Type 0} → Option A → B → (A → B) → B
some_or None none some = none
some_or (Some x) none some = some x

abbrev if_accepted : {A B E : Type 0} → Result A E → B → Option B
if_accepted (Ok _) x = Some x
if_accepted (Err _) x = None

-- the revenues of an accepted year
abbrev pub year_of : Event → Option Row
year_of (year filed answer) = if_accepted answer filed
year_of _ = None

-- a reading that meter accepted
abbrev pub reading_of : Event → Option Reading
reading_of (meter r answer) = if_accepted answer r
reading_of _ = None

-- a reading that deliver accepted
abbrev pub delivery_of : Event → Option Reading
delivery_of (deliver r answer) = if_accepted answer r
delivery_of _ = None

-- the sheet of an accepted closing
abbrev pub sheet_of : Event → Option Sheet
sheet_of (close readings deliveries s answer s') = if_accepted answer s'
sheet_of _ = None

-- an order that was released
abbrev pub payment_of : Event → Option PayOrder
payment_of (release o answer) = if_accepted answer o
payment_of _ = None

-- the readings that meter accepted at a place, the oldest first
abbrev pub accepted_at : ℕ → List Event → List Reading
accepted_at p [] = []
accepted_at p (e ∷ es) = accepted_at p es ++ some_or (reading_of e) [] (λ r. cond (r.number == p) (r ∷ []) [])

-- what the terms give for a reading after the accepted calls es, from the standing that the bank came with
abbrev pub due_after : List Meaning → List Event → Reading → ℕ
due_after row es r = worth (dues_at (place_after (at_place row r.number) (accepted_at r.number es)) r)

-- the dues of the readings accepted since the last closing, and of all months closed so far
abbrev pub open_dues : List Meaning → List Event → ℕ
open_dues row [] = 0
open_dues row (e ∷ es) =
    some_or (sheet_of e) (open_dues row es + some_or (reading_of e) 0 (due_after row es)) (λ s. 0)

abbrev pub closed_dues : List Meaning → List Event → ℕ
closed_dues row [] = 0
closed_dues row (e ∷ es) = closed_dues row es + some_or (sheet_of e) 0 (λ s. open_dues row es)

-- what a licensee's reading is under the head at place k: its demand at the demand heads, its energy at the intervals
abbrev pub taken_under : Rules → Reading → ℕ → ℕ
taken_under rules r k = under rules.revenues rules.interval r.demand r.demand r.blocks k

-- a head's quantity in the month so far, and in the last month that was closed
abbrev pub open_quantity : Rules → List Event → ℕ → ℕ
open_quantity rules [] k = 0
open_quantity rules (e ∷ es) k =
    some_or (sheet_of e) (open_quantity rules es k + some_or (delivery_of e) 0 (λ r. taken_under rules r k)) (λ s. 0)

abbrev pub last_quantity : Rules → List Event → ℕ → ℕ
last_quantity rules [] k = 0
last_quantity rules (e ∷ es) k = some_or (sheet_of e) (last_quantity rules es k) (λ s. open_quantity rules es k)

-- the yearly revenues in force, by their place
abbrev pub yearly : List Event → ℕ → ℕ
yearly [] j = 0
yearly (e ∷ es) j = some_or (year_of e) (yearly es j) (λ given. slice_index given.figures j)

-- the cents that the closed months' shares allow: each month by the year in force and the sheet's month
abbrev pub allowed : ℕ → List Event → ℕ
allowed revenues [] = 0
allowed revenues (e ∷ es) =
    allowed revenues es + some_or (sheet_of e) 0 (λ s. sum_to (λ j. month-share (yearly es j) s.month) revenues)

-- the cents billed, and the loss margins, over the sheets
abbrev pub billed : List Event → ℕ
billed [] = 0
billed (e ∷ es) = billed es + some_or (sheet_of e) 0 bills_on

abbrev pub margins : List Event → ℤ
margins [] = pos 0
margins (e ∷ es) = margins es +ℤ some_or (sheet_of e) (pos 0) (λ s. s.margin)

-- the last balance and the last carry that the sheets show of a head, and the last fraction of a licensee; 0 before
abbrev pub last_balance : List Event → ℕ → ℤ
last_balance [] k = pos 0
last_balance (e ∷ es) k = some_or (sheet_of e) (last_balance es k) (λ s. (line_at s k).balance)

abbrev pub last_carry : List Event → ℕ → ℕ
last_carry [] k = 0
last_carry (e ∷ es) k = some_or (sheet_of e) (last_carry es k) (λ s. (line_at s k).carry)

abbrev pub last_fraction : List Event → ℕ → ℕ
last_fraction [] l = 0
last_fraction (e ∷ es) l =
    some_or (sheet_of e) (last_fraction es l) (λ s. some_or (billed_at s l) (last_fraction es l) (λ b. b.fraction))

-- the sheet of the last accepted closing
abbrev pub last_sheet : List Event → Option Sheet
last_sheet [] = None
last_sheet (e ∷ es) = some_or (sheet_of e) (last_sheet es) Some

-- an order's cents, if it is for the place
abbrev pub cents_at : ℕ → PayOrder → ℕ
cents_at p o = cond (o.place == p) o.cents 0

-- the cents released at a place, and those on a list of orders
abbrev pub paid_at : ℕ → List Event → ℕ
paid_at p [] = 0
paid_at p (e ∷ es) = paid_at p es + some_or (payment_of e) 0 (cents_at p)

abbrev pub in_hand : ℕ → List PayOrder → ℕ
in_hand p [] = 0
in_hand p (o ∷ os) = cents_at p o + in_hand p os
