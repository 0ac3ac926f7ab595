-- What lasts from month to month.
use Rattle.std.specs.Prelude.{◌≡◌, ℕ, ◌<◌, List, map, ℤ, pos, ◌-ℤ◌, slice_index, slice_index_or}
use Rattle.std.proofs.Common.{lit≤}
use Rattle.metering.specs.Limits.{licensee_limit}
use Rattle.methodology.specs.Limits.{head_limit}
use Rattle.accounts.specs.declared.account.Account.{Account}
use Rattle.accounts.specs.declared.books.Books.{Books}

abbrev pub no_account : Account
no_account =
    record { balance = pos 0; opening = pos 0; before = pos 0; carry = 0; held = lit≤ tt; opened = lit≤ tt; recalled = lit≤ tt; carried = lit≤ tt }

-- the account of the head at index k, and the fraction of the licensee at index l; both count from 0
abbrev pub account_at : Books → ℕ → Account
account_at b k = slice_index_or b.accounts k no_account

abbrev pub fraction_at : Books → ℕ → ℕ
fraction_at b l = slice_index b.fractions l

-- the differences of this tariff period: every one goes to the balance, so they add up to what it gained
abbrev pub period_sum : Account → ℤ
period_sum a = a.balance -ℤ a.opening

-- by head, what a tariff that is filed now adjusts for: the sum of the period before the one that is ending
abbrev pub earlier : Books → List ℤ
earlier b = map (λ (a : Account). a.before) b.accounts

-- books without money
pub record Unused (b : Books) : Type 0 where
  pub balances : (k : ℕ) → k < head_limit → (account_at b k).balance ≡ pos 0
  pub openings : (k : ℕ) → k < head_limit → (account_at b k).opening ≡ pos 0
  pub befores : (k : ℕ) → k < head_limit → (account_at b k).before ≡ pos 0
  pub carries : (k : ℕ) → k < head_limit → (account_at b k).carry ≡ 0
  pub fractions : (l : ℕ) → l < licensee_limit → fraction_at b l ≡ 0

-- what a tariff does to an account: a period ends and another begins
pub record AccountBegun (a a' : Account) : Type 0 where
  pub balance : a'.balance ≡ a.balance
  pub opening : a'.opening ≡ a.balance
  pub before : a'.before ≡ period_sum a
  pub carry : a'.carry ≡ a.carry

-- and to the books: no money moves
pub record PeriodBegun (b b' : Books) : Type 0 where
  pub accounts : (k : ℕ) → k < head_limit → AccountBegun (account_at b k) (account_at b' k)
  pub fractions : b'.fractions ≡ b.fractions
