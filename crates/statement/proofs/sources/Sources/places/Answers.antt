use Rattle.std.proofs.Common.{◌+◌, arith, rules}
use Rattle.settlement.proofs.Made.{each_made}
use Rattle.statement.specs.Sums.{Holds}
use Rattle.statement.specs.Sums.{no_money}
use Rattle.statement.proofs.sources.Sources.places.Goals as goal

pub returns : goal.returns
returns c k h =
    each_made _ (λ i m. Holds c.args.self.now.tally.now c.args.self.now.ledger.now.till (i + 1) m) _ (λ i y q call. search rules) c.from_fn.result 0 32 c.from_fn.ensures.items.each k no_money (omega arith) (omega (arith, h))
