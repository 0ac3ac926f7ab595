-- Sums: both of an account, and one over a few of anything.
use Rattle.std.specs.Prelude.{◌≡◌, ℕ, ◌+◌, List, ℤ, pos, ◌+ℤ◌}
use Rattle.std.specs.Borrow.{Bor}
use Rattle.std.specs.List.{sum_by}
use Rattle.statement.specs.declared.account.AccountTotals.{AccountTotals}

abbrev pub covered_by : AccountTotals → ℤ
covered_by a = pos (a.bills + a.fractions + a.carries) +ℤ a.balances +ℤ a.margins

abbrev pub costs_by : AccountTotals → ℕ
costs_by a = a.dues + a.revenues

-- the sum of the items' amounts, by any definition of an item's amount with which the answers agree
abbrev pub SumsBy : {T : Type 0} → (Bor T → ℕ → Type 0) → List T → ℕ → Type 0
SumsBy {T} answers items sum =
    (amount : T → ℕ) → ((item : Bor T) (n : ℕ) → answers item n → n ≡ amount item.now) → sum ≡ sum_by amount items
