use Rattle.std.proofs.Common.{refl, arith}
use Rattle.history.specs.Slots.{slots_of}
use Rattle.history.proofs.Slots.{presented}
use Rattle.history.proofs.spending.Spending.present.Goals as goal

pub returns-in-Some-clause-done : goal.returns-in-Some-clause-done
returns-in-Some-clause-done g c =
    let long = c.args.orders.now.slots.ok.0 in
    presented c.args.self (slots_of c.args.orders.now) _ c.in-Some.index c.args.number c.index_mut.result.now c.present_at.new.slot _ _ c.present_at.result c.in-Some.ensures.0 (omega (arith, long, c.len.ensures, c.in-Some.ensures.1)) c.index_mut.ensures.value refl c.present_at.ensures
