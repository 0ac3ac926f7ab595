use Rattle.std.proofs.Common.{refl, subst}
use Rattle.house.specs.Shown.{shows}
use Rattle.ledger.specs.Calls as calls
use Rattle.history.specs.Slots.{slots_of, in_slots}
use Rattle.history.proofs.Holding.{Holding, taken_in, held_one}
use Rattle.history.proofs.performance.Performance.hold_all.Goals as goal

pub loop-order-init : goal.loop-order-init
loop-order-init g c = record { own = c.args.self.own; covered = c.args.self.covered; whole = λ p some. refl; left = refl }

pub unwrap-requires : goal.unwrap-requires
unwrap-requires g c =
    let v = shows c.args.self.house in
    let w = shows c.loop-order.house in
    let os = in_slots (slots_of c.take_last.new.self) in
    taken_in v os c.in-Some.order w (subst (λ xs. Holding v xs w) c.in-Some.ensures.taken c.loop-order.invariant) _ _ c.hold.ensures

pub loop-order-preserved : goal.loop-order-preserved
loop-order-preserved g c =
    let v = shows c.args.self.house in
    let w = shows c.loop-order.house in
    let u = shows c.hold.new.self in
    let os = in_slots (slots_of c.take_last.new.self) in
    held_one v os c.in-Some.order w (subst (λ xs. Holding v xs w) c.in-Some.ensures.taken c.loop-order.invariant) u (subst (λ r. calls.Hold w c.in-Some.order r u) c.unwrap.ensures c.hold.ensures)
