use Rattle.std.proofs.Common.{Ok, ap, ◌∙◌}
use Rattle.arith.proofs.division.split.Goals as goal

pub returns-clause-only : goal.returns-clause-only
returns-clause-only g c = λ rate carry s. ap Ok (c.div_rem.ensures ∙ g.met.A.Amount.only c.args.amount rate c.args.quantity carry s)
