-- What a closing answers, and what it leaves in books and sheet.
use Rattle.std.specs.Prelude.{◌≡◌, ℕ, ◌<◌, ◌≤◌, Some, None, Ok, Err, Option, Result}
use Rattle.metering.specs.Limits.{licensee_limit}
use Rattle.methodology.specs.Limits.{head_limit}
use Rattle.accounts.specs.declared.account.Account.{Account}
use Rattle.accounts.specs.declared.books.Books.{Books}
use Rattle.accounts.specs.declared.delivery.Delivery.{Delivery}
use Rattle.accounts.specs.declared.sheet.HeadLine.{HeadLine}
use Rattle.accounts.specs.declared.sheet.Billed.{Billed}
use Rattle.accounts.specs.declared.sheet.Sheet.{Sheet}
use Rattle.accounts.specs.Sums.{sum_toℤ, First, Never}
use Rattle.accounts.specs.Months.{licensee_at, readings_in, deliveries_in}
use Rattle.accounts.specs.Books.{account_at, fraction_at}
use Rattle.accounts.specs.Sheets.{no_line, line_at, billed_at}
use Rattle.settlement.specs.declared.fault.CloseFault.{CloseFault}
use Rattle.settlement.specs.declared.fault.CloseFault.TheVariants.{Counts, NoQuantity, Supply, RateOverLimit, BalancePast}
use Rattle.settlement.specs.Closing.{Case, heads, old, published, margin, actual, carry, balance, bill, fraction, Empty, Unsupplied, Over, Past}

-- a head's line
abbrev pub line_of : Case → ℕ → HeadLine
line_of c k = record { actual = actual c k; published = published c k; balance = balance c k; carry = carry c k }

-- a licensee's line, and its fraction afterwards; one that did not deliver has no line, and keeps its fraction
abbrev pub billed_of : Case → ℕ → Option Delivery → Option Billed
billed_of c l None = None
billed_of c l (Some d) = Some (record { bill = bill c l; fraction = fraction c l })

abbrev pub fraction_of : Case → ℕ → Option Delivery → ℕ
fraction_of c l None = fraction_at c.books l
fraction_of c l (Some d) = fraction c l

-- a head's account after the closing; what the period began with stays
pub record AccountClosed (c : Case) (k : ℕ) (a : Account) : Type 0 where
  pub balance_is : a.balance ≡ balance c k
  pub carry_is : a.carry ≡ carry c k
  pub opening_is : a.opening ≡ (old c k).opening
  pub before_is : a.before ≡ (old c k).before

-- the sheet and the books of an accepted closing
pub record Closed (c : Case) (s : Sheet) (b : Books) : Type 0 where
  pub month_is : s.month ≡ c.number
  pub revenues_are : s.shape.revenues ≡ c.rules.revenues
  pub intervals_are : s.shape.intervals ≡ c.rules.intervals
  pub line : (k : ℕ) → k < heads c → line_at s k ≡ line_of c k
  pub blank : (k : ℕ) → heads c ≤ k → k < head_limit → line_at s k ≡ no_line
  pub billing : (l : ℕ) → l < licensee_limit → billed_at s l ≡ billed_of c l (licensee_at c.month l)
  pub margin_is : s.margin ≡ sum_toℤ (margin c) (heads c)
  pub account : (k : ℕ) → k < heads c → AccountClosed c k (account_at b k)
  pub others : (k : ℕ) → heads c ≤ k → k < head_limit → account_at b k ≡ old c k
  pub fractions : (l : ℕ) → l < licensee_limit → fraction_at b l ≡ fraction_of c l (licensee_at c.month l)

-- the stated counts are the month's own
abbrev pub Counted : Case → ℕ → ℕ → Type 0
Counted c readings deliveries = (readings ≡ readings_in c.month) × (deliveries ≡ deliveries_in c.month)

-- why a closing is refused: the tests before this one find nothing, and this one finds the head first
abbrev pub Refused : Case → ℕ → ℕ → CloseFault → Type 0
Refused c readings deliveries Counts = (Counted c readings deliveries → ⊥)
Refused c readings deliveries (NoQuantity h) = Counted c readings deliveries × First (Empty c) (heads c) h
Refused c readings deliveries (Supply h) = Counted c readings deliveries × Never (Empty c) (heads c) × First (Unsupplied c) (heads c) h
Refused c readings deliveries (RateOverLimit h) = Counted c readings deliveries × Never (Empty c) (heads c) × Never (Unsupplied c) (heads c) × First (Over c) (heads c) h
Refused c readings deliveries (BalancePast h) = Counted c readings deliveries × Never (Empty c) (heads c) × Never (Unsupplied c) (heads c) × Never (Over c) (heads c) × First (Past c) (heads c) h

-- no test finds anything
pub record Passed (c : Case) (readings deliveries : ℕ) : Type 0 where
  pub counted : Counted c readings deliveries
  pub filled : Never (Empty c) (heads c)
  pub supplied : Never (Unsupplied c) (heads c)
  pub within : Never (Over c) (heads c)
  pub held : Never (Past c) (heads c)

-- the answer, the books after the closing among it, by the sheet before and after; where it refuses the sheet is as it was
abbrev pub Answer : Case → ℕ → ℕ → Sheet → Result Books CloseFault → Sheet → Type 0
Answer c readings deliveries s (Ok b) s' = Passed c readings deliveries × Closed c s' b
Answer c readings deliveries s (Err f) s' = Refused c readings deliveries f × (s' ≡ s)
