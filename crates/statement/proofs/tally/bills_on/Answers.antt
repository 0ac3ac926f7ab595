use Rattle.std.proofs.Common.{◌∙◌, None, rules}
use Rattle.settlement.specs.Law.{bill_of}
use Rattle.statement.proofs.Summing.{sum_by_all}
use Rattle.statement.proofs.tally.bills_on.Goals as goal

pub returns : goal.returns
returns c =
    c.of.ensures bill_of (λ x n called. search rules) ∙ sum_by_all bill_of None c.args.sheet.now.licensees 8 (search rules)
