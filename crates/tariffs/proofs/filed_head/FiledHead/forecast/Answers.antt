use Rattle.std.proofs.Common.{refl}
use Rattle.tariffs.specs.Publishing.{forecast}
use Rattle.tariffs.proofs.Bounds.{limits_of}
use Rattle.tariffs.proofs.filed_head.FiledHead.forecast.Goals as goal

pub returns-then-is_demand : goal.returns-then-is_demand
unfolding forecast
returns-then-is_demand c =
    let limits = limits_of c.args.self.now.filed.now in
    record { value = rw (← c.if-is_demand.ensures.value) refl; some = limits.peaks.0 }

pub returns-else-is_demand : goal.returns-else-is_demand
unfolding forecast
returns-else-is_demand c =
    let limits = limits_of c.args.self.now.filed.now in
    record {
      value = rw (← c.if-is_demand.ensures.value) (rw (c.figure.ensures, c.interval_place.ensures.value) refl);
      some = rw c.figure.ensures (limits.delivered _ c.interval_place.ensures.inside).0;
    }
