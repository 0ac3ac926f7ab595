use Rattle.tariffs.specs.Publishing.{generation_energy}
use Rattle.tariffs.proofs.Bounds.{limits_of}
use Rattle.tariffs.proofs.filed.Filed.generation_energy.Goals as goal

pub per_cost-requires : goal.per_cost-requires
per_cost-requires c =
    let limits = limits_of c.args.self.now in
    (limits.energy, limits.sent.0)

pub returns : goal.returns
unfolding generation_energy
returns c = record { value = c.per_cost.ensures.value; most = c.per_cost.ensures.most }
