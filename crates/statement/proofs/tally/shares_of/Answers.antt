use Rattle.std.proofs.Common.{◌∙◌, rules, arith}
use Rattle.arith.specs.Months.{share}
use Rattle.statement.proofs.Summing.{sum_by_first}
use Rattle.statement.proofs.tally.shares_of.Goals as goal

pub returns : goal.returns
returns c =
    c.of.ensures (λ y. share y c.args.month) (λ x n called. search rules)
    ∙ sum_by_first (λ y. share y c.args.month) 0 c.args.yearly.now c.args.shape.revenues (omega (arith, c.args.shape.most, c.told-yearly))
