use Rattle.std.proofs.Common.{◌∙◌, rules, arith}
use Rattle.accounts.specs.declared.account.Account.{Account}
use Rattle.accounts.specs.Books.{no_account}
use Rattle.statement.proofs.Summing.{sum_by_first}
use Rattle.statement.proofs.sources.carries_in.Goals as goal

pub returns : goal.returns
returns c =
    let b = c.args.books.now in
    c.of.ensures (λ (a : Account). a.carry) (λ x n called. search rules)
    ∙ sum_by_first (λ (a : Account). a.carry) no_account b.accounts c.args.heads (omega (arith, b.headed, c.requires))
