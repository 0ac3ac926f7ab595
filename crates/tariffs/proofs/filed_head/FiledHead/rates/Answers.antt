use Rattle.std.proofs.Common.{refl, ◌∙◌, arith, rules}
use Rattle.std.proofs.lemmas.Bool.{false_from_ne_true}
use Rattle.tariffs.proofs.Adjusting.{Tells, figures_tell, rates_kept, tested, told_by, fits_unsigned}
use Rattle.tariffs.proofs.filed_head.FiledHead.rates.Goals as goal
use Rattle.tariffs.proofs.filed_head.FiledHead.rates.Goals.{After-try_from, in_default-via-in-Ok+else-passes, in_default-via-in_default}

tells : (c : goal.After-try_from) → Tells c.args.self.now.filed.now.shape c.args.self.now.filed.now.filing c.args.differences c.args.self.now.number c.base_rate-base.result c.from.result c.adjusted-each.result.0 c.adjusted-each.result.1
tells c =
    figures_tell _ _ _ _ _ _ _ _ (omega arith) c.from.ensures c.ranges.differences (search rules) c.adjusted-each.ensures.size c.base_rate-base.ensures c.adjusted-each.ensures.each c.adjusted-each.ensures.whole

pub invariant_of-result : goal.invariant_of-result
invariant_of-result c =
    let t = tells (goal.at.invariant_of-result c).After-try_from in
    let is = told_by _ _ c.in-Ok.ensures.0.0 c.in-Ok.ensures.1 in
    let kept = rates_kept _ _ _ _ (tested t _ is c.passes.ensures c.if-passes.true) in
    record { priced = rw (c.in-Ok.ensures.1, t.sum) kept.1.most; based = rw c.base_rate-base.ensures kept.0; filed = c.factor.ensures.most }

pub returns-in-Ok : goal.returns-in-Ok
returns-in-Ok c =
    let t = tells (goal.at.returns-in-Ok c).After-try_from in
    let is = told_by _ _ c.in-Ok.ensures.0.0 c.in-Ok.ensures.1 in
    record { fitting = tested t _ is c.passes.ensures c.if-passes.true; published_is = is ∙ t.sum; base_is = c.base_rate-base.ensures; factor_is = c.factor.ensures.value }

pub returns-in_default : goal.returns-in_default
returns-in_default c =
    let t = tells (goal.at.returns-in_default c).After-try_from in
    elim c.in_default.branch [
      | in_default-via-in-Ok+else-passes w ↦ (refl, tested t _ (told_by _ _ w.in-Ok.ensures.0.0 w.in-Ok.ensures.1) w.passes.ensures w.if-passes.false)
      | in_default-via-in_default w ↦ (refl, false_from_ne_true _ (λ e. w.in_default.ensures (rw t.sum (fits_unsigned _ (rates_kept _ _ _ _ e).1))))
    ]
