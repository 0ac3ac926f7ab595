use Rattle.std.proofs.Common.{[], ◌∷◌, ◌++◌, length, vec_items, ap, ◌∙◌, arith, length-append}
use Rattle.history.specs.Slots.{in_slots}
use Rattle.history.proofs.Slots.{slots_more, slots_no_more}
use Rattle.history.proofs.order_list.Orders.take_last.Goals as goal

pub returns-in-Some-last : goal.returns-in-Some-last
returns-in-Some-last c =
    let rest = vec_items c.pop.new.self in
    let items = c.in-Some.ensures.items ∙ ap (λ x. rest ++ (x ∷ [])) c.in-Some-last.is in
    let long = ap length items ∙ length-append rest (_ ∷ []) in
    record { taken = c.loop-last.invariant.0 ∙ ap in_slots items ∙ slots_more rest c.in-Some-last.order; shorter = omega (arith, long, c.loop-last.invariant.1) }

pub loop-last-preserved : goal.loop-last-preserved
loop-last-preserved c =
    let rest = vec_items c.pop.new.self in
    let items = c.in-Some.ensures.items ∙ ap (λ x. rest ++ (x ∷ [])) c.in_default-last.is in
    let long = ap length items ∙ length-append rest (_ ∷ []) in
    (c.loop-last.invariant.0 ∙ ap in_slots items ∙ slots_no_more rest, omega (arith, long, c.loop-last.invariant.1))
