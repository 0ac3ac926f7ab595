use Rattle.std.proofs.Common.{◌≡◌, ◌≤◌, nat_abs, Ok, sym, ap, ◌∙◌, arith, w64, SFits, to_z, of_z, rules}
use Rattle.std.proofs.lemmas.Int.{ints}
use Rattle.arith.specs.Division.{floor}
use Rattle.arith.specs.Interest.{adjustment_of}
use Rattle.arith.specs.Scaling.{more_by_signed}
use Rattle.tariffs.specs.Publishing.{forecast, per_unit, adjustment_at}
use Rattle.tariffs.proofs.Adjusting.{adjusted_parts}
use Rattle.tariffs.proofs.Bounds.{limits_of}
use Rattle.tariffs.proofs.filed_head.FiledHead.adjusted.Goals as goal

pub overflow_cast-interest : goal.overflow_cast-interest
overflow_cast-interest c =
    let limits = limits_of c.args.self.now.filed.now in
    record { fits = omega (arith, limits.interest) }

pub returns : goal.returns
unfolding per_unit adjustment_at
returns c =
    let filed = c.args.self.now.filed.now in
    let d = c.args.differences in
    let q = c.forecast.result in
    let interest = filed.filing.interest in
    let p = c.unwrap.result in
    let limits = limits_of filed in
    let same : to_z w64 (of_z w64 d) ≡ d = omega (arith, ints) in
    let told : adjustment_of d q interest ≡ Ok p = ap (λ x. adjustment_of x q interest) (sym same) ∙ sym c.adjustment.ensures.value ∙ c.unwrap.ensures in
    let parts = adjusted_parts d q interest p c.forecast.ensures.some told in
    let quantity : q ≡ forecast filed.shape filed.filing c.args.self.now.number = c.forecast.ensures.value in
    let small : SFits w64 p.0 = search rules in
    let bound : nat_abs p.0 ≤ 9223372036854775808 = omega (arith, ints) in
    let grown = (rw c.unwrap.ensures at c.adjustment.ensures.size) limits.interest in
    record {
      each = parts.0 ∙ ap (floor d) quantity;
      whole = parts.1 ∙ ap (λ n. more_by_signed interest (floor d n)) quantity;
      size = omega (arith, grown, bound);
    }
