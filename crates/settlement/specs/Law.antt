-- The account of one month: no grain is made or lost, fractions stay under a cent and carries under their heads' quantities.
use Rattle.std.specs.Prelude.{◌≡◌, ℕ, ◌*◌, ◌<◌, ℤ, pos, ◌+ℤ◌, Some, None, Ok, Err, Option, Result, slice_index, ⊤}
use Rattle.arith.specs.Money.{cent}
use Rattle.arith.specs.Months.{share as month-share}
use Rattle.metering.specs.Limits.{licensee_limit}
use Rattle.accounts.specs.declared.books.Books.{Books}
use Rattle.accounts.specs.declared.sheet.Billed.{Billed}
use Rattle.accounts.specs.declared.sheet.Sheet.{Sheet}
use Rattle.accounts.specs.Sums.{sum_to, sum_toℤ, Never}
use Rattle.accounts.specs.Months.{income_of}
use Rattle.accounts.specs.Books.{account_at, fraction_at}
use Rattle.settlement.specs.declared.fault.CloseFault.{CloseFault}
use Rattle.settlement.specs.Closing.{Case, heads, quantity, Empty}
use Rattle.accounts.specs.Sheets.{billed_at}
use Rattle.settlement.specs.Closed.{Closed}

-- what books hold in all: the licensees' fractions, the balances and the carries of the first n heads
abbrev pub fractions_in : Books → ℕ
fractions_in b = sum_to (fraction_at b) licensee_limit

abbrev pub balances_in : ℕ → Books → ℤ
balances_in n b = sum_toℤ (λ k. (account_at b k).balance) n

abbrev pub carries_in : ℕ → Books → ℕ
carries_in n b = sum_to (λ k. (account_at b k).carry) n

-- the cents that a sheet bills
abbrev pub bill_of : Option Billed → ℕ
bill_of None = 0
bill_of (Some x) = x.bill

abbrev pub bills_on : Sheet → ℕ
bills_on s = sum_to (λ l. bill_of (billed_at s l)) licensee_limit

-- the cents that the month's shares allow
abbrev pub shares_in : Case → ℕ
shares_in c = sum_to (λ j. month-share (slice_index c.yearly j) c.number) c.rules.revenues

-- what is billed, held and kept as margin is what was held, the month's dues and its allowed revenues
abbrev pub Conserved : Case → Sheet → Books → Type 0
Conserved c s b =
    pos (cent * bills_on s) +ℤ pos (fractions_in b) +ℤ balances_in (heads c) b +ℤ pos (carries_in (heads c) b) +ℤ s.margin ≡ pos (fractions_in c.books) +ℤ balances_in (heads c) c.books +ℤ pos (carries_in (heads c) c.books) +ℤ pos (income_of c.rules c.month) +ℤ pos (cent * shares_in c)

-- every fraction is under a cent, every carry under the head's quantity
pub record Small (c : Case) (b : Books) : Type 0 where
  pub fractions : (l : ℕ) → l < licensee_limit → fraction_at b l < cent
  pub carries : (k : ℕ) → k < heads c → (account_at b k).carry < quantity c k

pub record Lawful (c : Case) (s : Sheet) (b : Books) : Type 0 where
  pub conserved : Conserved c s b
  pub small : Small c b

-- an accepted closing keeps the law
abbrev pub LawfulIfAccepted : Case → Result Books CloseFault → Sheet → Type 0
LawfulIfAccepted c (Ok b) s = Lawful c s b
LawfulIfAccepted c (Err _) s = ⊤

-- whatever is closed by the rules, with a quantity under each head, keeps the law
abbrev pub EveryClosing : Type 0
EveryClosing = (c : Case) (s : Sheet) (b : Books) → Never (Empty c) (heads c) → Closed c s b → Lawful c s b
