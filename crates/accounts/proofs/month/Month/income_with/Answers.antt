use Rattle.std.proofs.Common.{◌+◌, get_or, ap, ◌∙◌, arith}
use Rattle.accounts.proofs.Growing.{total_sum, due_within, income_low}
use Rattle.accounts.proofs.month.Month.income_with.Goals as goal

pub by_head-requires : goal.by_head-requires
by_head-requires g c = omega (arith, total_sum c.args.dues.now.blocks (omega arith), c.requires)

pub added-requires : goal.added-requires
added-requires g c =
    let within = due_within g.M.Methodology.shape.revenues (g.M.Methodology.meaning c.args.m.now).interval c.args.dues.now (omega arith) c.requires.0 c.requires.1 in
    (income_low c.args.self.now, λ k h. omega (arith, c.by_head.ensures k h, within k))

pub returns : goal.returns
returns g c =
    record {
      value =
          λ k h. c.added.ensures k h ∙ ap (λ x. get_or c.args.self.now.income k 0 + x) (c.by_head.ensures k h);
      full = omega arith;
    }
