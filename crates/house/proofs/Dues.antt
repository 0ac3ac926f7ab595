-- What a bank gives for a reading: it keeps the ceiling at every place, and a month takes it in.
use Rattle.std.proofs.Common.{◌≡◌, ◌≤◌, Bool, true, false, ◌&&◌, leb, is_ok, Some, None, Ok, Option, refl, ap, ◌∙◌, arith}
use Rattle.std.proofs.lemmas.Bool.{le-leb, and_from, cond-true, cond-false, false≢true}
use Rattle.metering.specs.declared.reading.Reading.{Reading}
use Rattle.agreements.specs.declared.dues.Dues.{Dues}
use Rattle.agreements.specs.Dues.{capacity_due, block_sum, no_dues}
use Rattle.agreements.specs.Limits.{due_limit}
use Rattle.agreements.specs.Meaning.{Meaning, Answer, admitted, refused, answer, written, Within}
use Rattle.banks.specs.Rows.{outcome_at, written_at, told, LawfulAt}
use Rattle.accounts.specs.declared.month.Month.{Month}
use Rattle.accounts.specs.Months.{read_at, reading_answer}
use Rattle.ledger.specs.Terms.{dues_at}

answer_within : (a : Answer) → Within a → (capacity_due (written a no_dues) ≤ due_limit) × (block_sum (written a no_dues) ≤ due_limit)
answer_within (admitted d s) w = (w.capacity, w.blocks)
answer_within (refused f) w = (omega arith, omega arith)

pub dues_within : (place : Option Meaning) (r : Reading) → LawfulAt place r → (capacity_due (dues_at place r) ≤ due_limit) × (block_sum (dues_at place r) ≤ due_limit)
dues_within None r l = (omega arith, omega arith)
dues_within (Some m) r l = answer_within (answer m r) l.within

-- an answer that takes a reading writes its dues over whatever the table held
answer_over : (a : Answer) (before : Dues) → is_ok (told a) ≡ true → written a before ≡ written a no_dues
answer_over (admitted d s) before ok = refl
answer_over (refused f) before ok = absurd (false≢true ok)

pub written_over : (place : Option Meaning) (r : Reading) (before : Dues) → is_ok (outcome_at place r) ≡ true → written_at place r before ≡ dues_at place r
written_over None r before ok = absurd (false≢true ok)
written_over (Some m) r before ok = answer_over (answer m r) before ok

-- such a reading is added to the month
pub adds : (m : Month) (place : Option Meaning) (r : Reading) (d : Dues) → read_at m r.number ≡ false → LawfulAt place r → d ≡ dues_at place r → reading_answer m r d ≡ Ok tt
adds m place r d unread lawful is =
    let within = dues_within place r lawful in
    let capacity : capacity_due d ≤ due_limit = let e = ap capacity_due is in omega (arith, e, within.0) in
    let blocks : block_sum d ≤ due_limit = let e = ap block_sum is in omega (arith, e, within.1) in
    cond-false (read_at m r.number) _ _ unread ∙ cond-true (leb (capacity_due d) due_limit && leb (block_sum d) due_limit) _ _ (and_from _ _ (le-leb _ _ capacity) (le-leb _ _ blocks))

pub second_fails : (a b : Bool) → a ≡ true → (a && b) ≡ false → b ≡ false
second_fails true b holds none = none
second_fails false b holds none = absurd (false≢true holds)
