use Rattle.std.proofs.Common.{◌+◌, get_or, ap, ◌∙◌, arith}
use Rattle.accounts.proofs.Growing.{energy_within, taken_within, sent_low}
use Rattle.accounts.proofs.month.Month.sent_with.Goals as goal

pub by_head-requires : goal.by_head-requires
by_head-requires g c = rw c.widened.ensures (omega (arith, energy_within c.args.reading.now))

pub added-requires : goal.added-requires
added-requires g c =
    let within = taken_within g.M.Methodology.shape.revenues (g.M.Methodology.meaning c.args.m.now).interval c.args.reading.now 0 (omega arith) in
    (sent_low c.args.self.now, λ k h. omega (arith, rw c.widened.ensures at (c.by_head.ensures k h), within k))

pub returns : goal.returns
returns g c =
    λ k h. c.added.ensures k h ∙ ap (λ x. get_or c.args.self.now.sent k 0 + x) (rw c.widened.ensures at (c.by_head.ensures k h))
