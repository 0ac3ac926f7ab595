use Rattle.std.proofs.Common.{vec_items, rules, arith}
use Rattle.stations.specs.Layers.{base_meaning}
use Rattle.stations.specs.lemmas.Layering.{base_layer, layer_layered}
use Rattle.stations.proofs.station.StationAgreement.layer.Goals as goal

pub returns : goal.returns
returns c =
    let s = c.args.self.now in
    let bottom = base_layer s.base in
    let is = layer_layered (vec_items s.factors) (base_meaning s.base) (omega arith) in
    search rules
