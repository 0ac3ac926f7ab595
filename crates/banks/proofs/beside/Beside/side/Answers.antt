use Rattle.std.proofs.Common.{refl, arith}
use Rattle.banks.specs.lemmas.Sides.{on_left, on_right, on_neither}
use Rattle.banks.proofs.beside.Beside.side.Goals as goal

pub returns-then-place-left : goal.returns-then-place-left
returns-then-place-left g c = on_left _ _ c.args.place (g.met.L.Bank.few c.args.self.now.left) (omega arith)

pub returns-then-place-le-PLACES : goal.returns-then-place-le-PLACES
returns-then-place-le-PLACES g c = on_right _ _ c.args.place c.places-left.result c.places-left.ensures (omega arith) (omega arith)

pub returns-else-place-le-PLACES : goal.returns-else-place-le-PLACES
returns-else-place-le-PLACES g c = (refl, on_neither _ _ c.args.place (omega arith))
