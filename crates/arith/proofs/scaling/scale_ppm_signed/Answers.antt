use Rattle.std.proofs.Common.{◌≡◌, ◌+◌, pos, ◌*ℤ◌, arith, lit<, to_z, of_z}
use mir.Syntax.{w128}
use Rattle.std.proofs.lemmas.Grind.{common_steps}
use Rattle.arith.specs.Scaling.{whole_ppm, more_by_signed}
use Rattle.arith.proofs.Floors.{floor_holds}
use Rattle.arith.specs.lemmas.Growth.{no_less_signed, at_most_double_signed}
use Rattle.arith.proofs.scaling.scale_ppm_signed.Goals as goal
use Rattle.arith.proofs.scaling.scale_ppm_signed.Goals.{After-div_euclid}

is : (c : goal.After-div_euclid) → to_z w128 (of_z w128 c.div_euclid.result) ≡ more_by_signed c.args.ppm c.args.x
is c = grind (arith, common_steps)

pub returns-clause-floored : goal.returns-clause-floored
returns-clause-floored c =
    rw (is (goal.at.returns-clause-floored c).After-div_euclid) (floor_holds (c.args.x *ℤ pos (whole_ppm + c.args.ppm)) whole_ppm (lit< tt))

pub returns-clause-no_less : goal.returns-clause-no_less
returns-clause-no_less c =
    rw (is (goal.at.returns-clause-no_less c).After-div_euclid) (no_less_signed c.args.x c.args.ppm)

pub returns-clause-at_most_double : goal.returns-clause-at_most_double
returns-clause-at_most_double c =
    rw (is (goal.at.returns-clause-at_most_double c).After-div_euclid) (at_most_double_signed c.args.x c.args.ppm)
