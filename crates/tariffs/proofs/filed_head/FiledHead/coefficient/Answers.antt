use Rattle.std.proofs.Common.{◌≤◌, refl, arith}
use Rattle.tariffs.specs.Limits.{coefficient_limit}
use Rattle.tariffs.proofs.Bounds.{limits_of}
use Rattle.tariffs.proofs.filed_head.FiledHead.coefficient.Goals as goal

most : (c : goal.After-figure) → c.figure.result ≤ coefficient_limit
most c =
    let limits = limits_of c.args.self.now.filed.now in
    rw c.figure.ensures (limits.coefficients _ c.interval_place.ensures.inside).1

pub overflow_cast-result : goal.overflow_cast-result
overflow_cast-result c = record { fits = omega (arith, most c) }

pub returns : goal.returns
returns c = record { value = rw (c.figure.ensures, c.interval_place.ensures.value) refl; most = most c }
