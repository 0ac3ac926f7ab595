use Rattle.std.proofs.Common.{◌≡◌, take, vec_items}
use Rattle.agreements.specs.Meaning.{answer, admitted, standing_after}
use Rattle.stations.specs.Layers.{base_meaning, layered}
use Rattle.stations.proofs.station.StationAgreement.ask.Given as goal

abbrev pub invariant-loop-factor : goal.invariant-loop-factor
invariant-loop-factor l =
    (answer (layered (take l.factor-index (vec_items l.self.factors)) (base_meaning l.self.base)) l.reading
    ≡ admitted l.dues (standing_after (answer (base_meaning l.self.base) l.reading) (base_meaning l.self.base).standing))
    × (l.layer ≡ (layered (take l.factor-index (vec_items l.self.factors)) (base_meaning l.self.base)).layer)
