-- What is found for a head and for all, and what is made of it.
use Rattle.std.specs.Prelude.{◌≡◌, ℕ, ◌+◌, ◌<◌, ◌≤◌, List, ℤ, pos, slice_index, slice_index_or, unsigned_abs}
use Rattle.methodology.specs.Limits.{head_limit}
use Rattle.accounts.specs.declared.account.Account.{Account}
use Rattle.accounts.specs.declared.sheet.HeadLine.{HeadLine}
use Rattle.accounts.specs.Books.{no_account}
use Rattle.accounts.specs.Limits.{carry_limit}
use Rattle.accounts.specs.Sheets.{no_line}
use Rattle.settlement.specs.Closing.{Case, heads, old, actual, carry, margin, difference}
use Rattle.settlement.specs.Closed.{AccountClosed, line_of}
use Rattle.closing.specs.declared.findings.Finding.{Finding}
use Rattle.closing.specs.Limits.{difference_limit}

abbrev pub no_finding : Finding
no_finding = record { actual = 0; carry = 0; margin = pos 0; difference = pos 0 }

abbrev pub finding_at : List Finding → ℕ → Finding
finding_at fs k = slice_index_or fs k no_finding

-- a margin is no larger than what the interval hands on, which has no share in it
abbrev pub Modest : Case → ℕ → ℤ → Type 0
Modest c k margin = unsigned_abs margin ≤ slice_index c.month.income k + carry_limit

-- what is found for head k, and how large it can be
pub record Found (c : Case) (k : ℕ) (f : Finding) : Type 0 where
  pub actual_is : f.actual ≡ actual c k
  pub carry_is : f.carry ≡ carry c k
  pub margin_is : f.margin ≡ margin c k
  pub difference_is : f.difference ≡ difference c k
  pub carried : f.carry ≤ carry_limit
  pub sized : unsigned_abs f.difference ≤ difference_limit
  pub modest : Modest c k f.margin

-- what is found for each head
abbrev pub AllFound : Case → List Finding → Type 0
AllFound c fs = (k : ℕ) → k < heads c → Found c k (finding_at fs k)

-- the accounts of the heads after the closing, and past the heads as they were
abbrev pub AccountsClosed : Case → List Account → Type 0
AccountsClosed c accounts = (k : ℕ) → k < heads c → AccountClosed c k (slice_index_or accounts k no_account)

abbrev pub AccountsKept : Case → List Account → Type 0
AccountsKept c accounts = (k : ℕ) → heads c ≤ k → k < head_limit → slice_index_or accounts k no_account ≡ old c k

-- the lines of the heads, and past the heads none
abbrev pub LinesFilled : Case → List HeadLine → Type 0
LinesFilled c lines = (k : ℕ) → k < heads c → slice_index_or lines k no_line ≡ line_of c k

abbrev pub LinesBlank : Case → List HeadLine → Type 0
LinesBlank c lines = (k : ℕ) → heads c ≤ k → k < head_limit → slice_index_or lines k no_line ≡ no_line
