use Rattle.std.proofs.Common.{◌≤◌, refl, arith}
use Rattle.methodology.specs.Limits.{factor_limit}
use Rattle.tariffs.specs.Publishing.{filed_factor}
use Rattle.tariffs.proofs.Bounds.{limits_of}
use Rattle.tariffs.proofs.filed_head.FiledHead.factor.Goals as goal

-- the factor at the interval's place keeps its limit
most : (c : goal.After-figure) → c.figure.result ≤ factor_limit
most c =
    let limits = limits_of c.args.self.now.filed.now in
    rw c.figure.ensures (limits.factors _ c.interval_place.ensures.inside).1

pub overflow_cast-result : goal.overflow_cast-result
overflow_cast-result c = record { fits = omega (arith, most c) }

pub returns-then-is_demand : goal.returns-then-is_demand
unfolding filed_factor
returns-then-is_demand c = record { value = rw (← c.if-is_demand.ensures.value) refl; most = omega arith }

pub returns-else-is_demand : goal.returns-else-is_demand
unfolding filed_factor
returns-else-is_demand c =
    record { value = rw (← c.if-is_demand.ensures.value) (rw (c.figure.ensures, c.interval_place.ensures.value) refl); most = most c }
