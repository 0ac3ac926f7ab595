use Rattle.std.proofs.Common.{arith}
use Rattle.std.proofs.lemmas.Grind.{common_steps}
use Rattle.orders.proofs.Places.{beyond}
use Rattle.orders.proofs.till.Till.money.Goals as goal

pub returns-clause-counted : goal.returns-clause-counted
returns-clause-counted c some = grind (arith, common_steps, beyond c.args.self.now c.args.place some, c.numbered.ensures, c.map_or.ensures)
