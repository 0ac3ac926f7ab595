use Rattle.std.proofs.Common.{◌≡◌, Ok, sym, ◌∙◌, arith, w64, to_z, of_z}
use mir.Syntax.{w128}
use Rattle.std.proofs.lemmas.Grind.{common_steps}
use Rattle.arith.specs.Division.{floor_of}
use Rattle.arith.proofs.Floors.{answer_only}
use Rattle.arith.proofs.division.floor_div.Goals as goal

pub returns-clause-only : goal.returns-clause-only
returns-clause-only c =
    let value : floor_of c.args.n c.args.d ≡ Ok (to_z w64 (of_z w64 (to_z w128 (of_z w128 c.div_euclid.result)))) = grind (arith, common_steps) in
    λ q f. sym value ∙ answer_only c.args.n q c.args.d f
