-- How a month grows, reading by reading.
use Rattle.std.specs.Prelude.{◌≡◌, ℕ, ◌+◌, ◌-◌, ◌<◌, Bool, true, false, cond, ◌&&◌, List, is_some, Some, None, Ok, Err, Option, Result, MatchResult, ◌≢◌, nat_le, nat_lt, slice_index, slice_index_or, slice_set}
use Rattle.metering.specs.declared.reading.Reading.{Reading}
use Rattle.metering.specs.Limits.{licensee_limit}
use Rattle.methodology.specs.Limits.{head_limit}
use Rattle.agreements.specs.Limits.{due_limit}
use Rattle.agreements.specs.Dues.{capacity_due, block_sum}
use Rattle.agreements.specs.declared.dues.Dues.{Dues}
use Rattle.accounts.specs.declared.delivery.Delivery.{Delivery}
use Rattle.accounts.specs.declared.month.Month.{Month}
use Rattle.accounts.specs.declared.month.Unadded.{Unadded}
use Rattle.accounts.specs.declared.month.Unadded.TheVariants.{Again, Ceiling}
use Rattle.accounts.specs.declared.month.Undelivered.{Undelivered}
use Rattle.accounts.specs.declared.month.Undelivered.TheVariants as delivery
use Rattle.accounts.specs.Sums.{sum_to}
use Rattle.accounts.specs.Counts.{count_true, count_some}
use Rattle.accounts.specs.Rules.{Rules, head_count}
use Rattle.accounts.specs.Tables.{ByHead, under_by}

-- the licensee at index l of the list, which counts from 0
abbrev pub licensee_at : Month → ℕ → Option Delivery
licensee_at m l = slice_index_or m.licensees l None

-- what a licensee took under the head at index k; nothing where it did not deliver
abbrev pub taken : Option Delivery → ℕ → ℕ
taken None k = 0
taken (Some d) k = slice_index d.taken k

-- the licensee delivered, and took f k under the head at index k
abbrev pub Took : Option Delivery → (ℕ → ℕ) → Type 0
Took None f = ⊥
Took (Some d) f = (k : ℕ) → k < head_limit → slice_index d.taken k ≡ f k

-- whether a place of the bank was read; places and licensees count from 1
abbrev pub read_at : Month → ℕ → Bool
read_at m place = slice_index_or m.read (place - 1) false

-- whether a licensee delivered
abbrev pub delivered_at : Month → ℕ → Bool
delivered_at m licensee = is_some (licensee_at m (licensee - 1))

-- how many readings there are of generators, and of licensees
abbrev pub readings_in : Month → ℕ
readings_in m = count_true m.read

abbrev pub deliveries_in : Month → ℕ
deliveries_in m = count_some m.licensees

-- what the month has taken in
abbrev pub income_of : Rules → Month → ℕ
income_of r m = sum_to (λ k. slice_index m.income k) (head_count r)

-- a month without readings
pub record Opened (m : Month) : Type 0 where
  pub income : (k : ℕ) → slice_index m.income k ≡ 0
  pub sent : (k : ℕ) → slice_index m.sent k ≡ 0
  pub read : (place : ℕ) → read_at m place ≡ false
  pub licensees : (l : ℕ) → licensee_at m l ≡ None
  pub readings : readings_in m ≡ 0
  pub deliveries : deliveries_in m ≡ 0

-- the income by head with a reading's dues, and the energy sent in by head with the reading's
abbrev pub IncomeWith : Rules → Month → Dues → List ℕ → Type 0
IncomeWith r m dues income = ByHead income (λ k. slice_index m.income k + under_by r (capacity_due dues) 0 dues.blocks k)

abbrev pub SentWith : Rules → Month → Reading → List ℕ → Type 0
SentWith r m reading sent = ByHead sent (λ k. slice_index m.sent k + under_by r 0 0 reading.blocks k)

-- a generator's month more; every grain comes in, its capacity due and all of its blocks
pub record Generated (r : Rules) (before : Month) (reading : Reading) (dues : Dues) (after : Month) : Type 0 where
  pub income : IncomeWith r before dues after.income
  pub sent : SentWith r before reading after.sent
  pub read : after.read ≡ slice_set before.read (reading.number - 1) true
  pub licensees : after.licensees ≡ before.licensees
  pub whole : income_of r after ≡ income_of r before + capacity_due dues + block_sum dues
  pub readings : readings_in after ≡ readings_in before + 1

-- a licensee's month more: its demand at every demand head, its energy at the intervals
pub record Delivered (r : Rules) (before : Month) (reading : Reading) (after : Month) : Type 0 where
  pub income : after.income ≡ before.income
  pub sent : after.sent ≡ before.sent
  pub read : after.read ≡ before.read
  pub here : Took (licensee_at after (reading.number - 1)) (under_by r reading.demand reading.demand reading.blocks)
  pub others : (l : ℕ) → (l ≢ reading.number - 1) → licensee_at after l ≡ licensee_at before l
  pub deliveries : deliveries_in after ≡ deliveries_in before + 1

-- what adding a generator's reading answers
abbrev pub reading_answer : Month → Reading → Dues → Result (Unit {0}) Unadded
reading_answer m reading dues =
    cond (read_at m reading.number) (Err Again)
    (cond (nat_le (capacity_due dues) due_limit && nat_le (block_sum dues) due_limit) (Ok tt) (Err Ceiling))

-- what adding a licensee's reading answers
abbrev pub delivery_answer : Month → Reading → Result (Unit {0}) Undelivered
delivery_answer m reading =
    cond (nat_lt licensee_limit reading.number) (Err delivery.NoLicensee) (cond (delivered_at m reading.number) (Err delivery.Again) (Ok tt))

-- adding a reading: what is answered, and the month after it, which a refusal leaves as it was
pub record Add (r : Rules) (m : Month) (reading : Reading) (dues : Dues) (answer : Result (Unit {0}) Unadded) (m' : Month) : Type 0 where
  pub answered : answer ≡ reading_answer m reading dues
  pub after : MatchResult answer (λ _. Generated r m reading dues m') (λ _. m' ≡ m)

pub record AddDelivery (r : Rules) (m : Month) (reading : Reading) (answer : Result (Unit {0}) Undelivered) (m' : Month) : Type 0 where
  pub answered : answer ≡ delivery_answer m reading
  pub after : MatchResult answer (λ _. Delivered r m reading m') (λ _. m' ≡ m)
