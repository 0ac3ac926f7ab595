-- What a bank means: a row with the meaning of the agreement at each place, place 1 first.
use Rattle.std.specs.Prelude.{◌≡◌, ℕ, ◌-◌, cond, ◌&&◌, List, [], ◌++◌, length, take, Some, None, Ok, Err, Option, Result, ◌≢◌, nat_le, slice_index_or, slice_set}
use Rattle.metering.specs.declared.reading.Reading.{Reading}
use Rattle.agreements.specs.declared.dues.Dues.{Dues}
use Rattle.agreements.specs.declared.fault.Cause.TheVariants.{Contract}
use Rattle.agreements.specs.Meaning.{Meaning, Answer, admitted, refused, answer, written, moved, Lawful}
use Rattle.banks.specs.declared.refusal.BankRefusal.{BankRefusal}
use Rattle.banks.specs.declared.refusal.BankRefusal.TheVariants.{NoPlace, Fault}
use Rattle.metering.specs.Limits.{place_limit}

-- what a list has past its end; never looked at
abbrev pub nowhere : Meaning
nowhere =
    record { layer = 0; standing = []; terms = λ s r. refused (record { cause = Contract; layer = 0 }) }

-- the meaning at place k, which counts from 1
abbrev pub at_place : List Meaning → ℕ → Option Meaning
at_place row k =
    cond (nat_le 1 k && nat_le k (length row)) (Some (slice_index_or row (k - 1) nowhere)) None

-- an agreement's answer as a bank tells it, with the very fault
abbrev pub told : Answer → Result (Unit {0}) BankRefusal
told (admitted d s) = Ok tt
told (refused f) = Err (Fault f)

abbrev pub outcome_at : Option Meaning → Reading → Result (Unit {0}) BankRefusal
outcome_at None r = Err NoPlace
outcome_at (Some m) r = told (answer m r)

-- what the caller's table then holds
abbrev pub written_at : Option Meaning → Reading → Dues → Dues
written_at None r before = before
written_at (Some m) r before = written (answer m r) before

abbrev pub put_at : List Meaning → ℕ → Reading → Option Meaning → List Meaning
put_at row k r None = row
put_at row k r (Some m) = slice_set row (k - 1) (moved m r)

-- the row once a reading is booked at place k
abbrev pub moved_at : List Meaning → ℕ → Reading → List Meaning
moved_at row k r = put_at row k r (at_place row k)

-- booking at place k: the standing there moves, and every other is as it was
pub record Booked (before : List Meaning) (k : ℕ) (r : Reading) (after : List Meaning) : Type 0 where
  pub there : after ≡ moved_at before k r
  pub elsewhere : (j : ℕ) → (j ≢ k) → at_place after j ≡ at_place before j

-- two banks as one: the right one's places are counted on from the left one's, and what passes the limit is lost
abbrev pub side_by_side : List Meaning → List Meaning → List Meaning
side_by_side left right = take place_limit (left ++ right)

abbrev pub LawfulAt : Option Meaning → Reading → Type 0
LawfulAt None r = Unit {0}
LawfulAt (Some m) r = Lawful m r
