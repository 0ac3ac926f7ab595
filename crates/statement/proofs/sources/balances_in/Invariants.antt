use Rattle.std.proofs.Common.{◌≡◌, ◌*◌, ◌^◌, ◌≤◌, nat_abs}
use Rattle.accounts.specs.Books.{account_at}
use Rattle.accounts.specs.Sums.{sum_toℤ}
use Rattle.statement.proofs.sources.balances_in.Given as goal

abbrev pub invariant-loop-account : goal.invariant-loop-account
invariant-loop-account l =
    (l.sum ≡ sum_toℤ (λ k. (account_at l.fn.books k).balance) l.account-index) × (nat_abs l.sum ≤ 2 ^ 64 * l.account-index)
