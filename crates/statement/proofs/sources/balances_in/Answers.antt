use Rattle.std.proofs.Common.{◌≡◌, ◌<◌, sym, ap, ◌∙◌, arith, length-take}
use Rattle.std.proofs.lemmas.List.{get_or_read, get_or-take}
use Rattle.std.proofs.lemmas.Int.{ints}
use Rattle.accounts.specs.declared.account.Account.{Account}
use Rattle.accounts.specs.Books.{no_account, account_at}
use Rattle.accounts.proofs.Sums.{sumℤ_none, sumℤ_next}
use Rattle.statement.proofs.sources.balances_in.Goals as goal

pub loop-account-init : goal.loop-account-init
loop-account-init c = (sym (sumℤ_none (λ k. (account_at c.args.books.now k).balance)), omega arith)

pub loop-account-preserved : goal.loop-account-preserved
loop-account-preserved c =
    let xs = c.args.books.now.accounts in
    let k = c.loop-account.account-index in
    let inside : k < c.args.heads = omega (arith, c.loop-account-test.true, length-take c.args.heads xs) in
    let there = c.account-item.is ∙ get_or-take c.args.heads xs k c.account-item.result inside in
    let here : c.account-item.result.balance ≡ (account_at c.args.books.now k).balance
    = ap (λ (a : Account). a.balance) (get_or_read xs k c.account-item.result (omega (arith, c.requires, c.args.books.now.headed)) there no_account) in
    let next = sumℤ_next (λ k. (account_at c.args.books.now k).balance) k in
    let from = c.from-sum.ensures in
    let small = (account_at c.args.books.now k).held in
    let was = c.loop-account.invariant.0 in
    let size = c.loop-account.invariant.1 in
    (omega (arith, ints), omega (arith, ints))
