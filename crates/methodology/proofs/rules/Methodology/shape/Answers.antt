use Rattle.std.proofs.Common.{rules}
use Rattle.methodology.proofs.Shapes.{same_shape}
use Rattle.methodology.proofs.rules.Methodology.shape.Goals as goal

pub returns-clause-whole : goal.returns-clause-whole
returns-clause-whole g c = same_shape _ _ (search rules) (search rules)
