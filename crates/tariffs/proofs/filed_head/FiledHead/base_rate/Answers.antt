use Rattle.std.proofs.Common.{◌+◌, ◌-◌, ◌<◌, sym, refl, arith}
use Rattle.std.proofs.lemmas.Bool.{leb-true}
use Rattle.tariffs.specs.Publishing.{base_rate}
use Rattle.tariffs.proofs.Bounds.{limits_of}
use Rattle.tariffs.proofs.filed_head.FiledHead.base_rate.Goals as goal

pub per_cost-requires : goal.per_cost-requires
per_cost-requires c =
    let filed = c.args.self.now.filed.now in
    let number = c.args.self.now.number in
    let limits = limits_of filed in
    let early = leb-true number (1 + filed.shape.revenues) (sym c.if-is_demand.ensures.order) in
    let inside : number - 1 < 1 + filed.shape.revenues = omega (arith, c.args.self.now.counted) in
    (rw c.figure.ensures (limits.costs (number - 1) inside).1, limits.peaks.0)

pub returns-then-is_demand : goal.returns-then-is_demand
unfolding base_rate
returns-then-is_demand c = rw (← c.if-is_demand.ensures.value) (rw (c.per_cost.ensures.value, c.figure.ensures) refl)

pub overflow_cast-result : goal.overflow_cast-result
overflow_cast-result c =
    let most = c.scale_thousandths.ensures.most 4 c.coefficient.ensures.most in
    let double = c.scale_ppm-with_losses.ensures.at_most_double (omega (arith, c.factor.ensures.most)) in
    record { fits = omega (arith, c.generation_energy.ensures.most) }

pub returns : goal.returns
unfolding base_rate
returns c =
    rw (← c.if-is_demand.ensures.value) (rw (c.scale_thousandths.ensures.value, c.coefficient.ensures.value, c.scale_ppm-with_losses.ensures.value, c.factor.ensures.value, c.generation_energy.ensures.value) refl)
