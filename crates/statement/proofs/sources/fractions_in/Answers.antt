use Rattle.std.proofs.Common.{◌∙◌, rules}
use Rattle.statement.proofs.Summing.{sum_by_all}
use Rattle.statement.proofs.sources.fractions_in.Goals as goal

pub returns : goal.returns
returns c =
    c.of.ensures (λ n. n) (λ x n called. search rules) ∙ sum_by_all (λ n. n) 0 c.args.books.now.fractions 8 c.args.books.now.full
