use Rattle.std.proofs.Common.{arith}
use Rattle.banks.specs.lemmas.Sides.{length_sides}
use Rattle.banks.proofs.beside.BesideBank.places.Goals as goal

pub returns : goal.returns
returns g c = omega (arith, length_sides (g.L.Bank.row c.args.self.now.left) (g.R.Bank.row c.args.self.now.right))
