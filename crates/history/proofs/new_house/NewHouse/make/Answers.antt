use Rattle.std.proofs.Common.{length, vec_items, refl, ap, ◌∙◌, arith}
use Rattle.history.specs.Slots.{slots_of}
use Rattle.history.proofs.Steps.{performed_none, one_more, all_taken, still_foreign, all_own}
use Rattle.history.proofs.new_house.NewHouse.make.Goals as goal

pub loop-call-init : goal.loop-call-init
loop-call-init g c =
    let room = c.in_ok-answers.ensures in
    let hand = c.in_ok-hand.ensures in
    let none = ap length hand.0 in (
      omega arith,
      omega (arith, room.len),
      room.capacity,
      omega (arith, none),
      hand.1,
      refl,
      performed_none _ _ _ _ _ _ (vec_items c.in_ok-answers.answers) _ refl refl refl c.new-house.ensures.made room.items hand.0,
    )

pub loop-call-preserved : goal.loop-call-preserved
loop-call-preserved g c =
    let i = c.loop-call.invariant in
    let e = c.step-answer.ensures in
    let p = c.push_reserved.ensures in
    let below = c.loop-call-test.true in (
      omega (arith, below),
      omega (arith, p.len, i.1),
      omega (arith, p.capacity, i.2),
      omega (arith, e.long, i.3),
      omega (arith, e.room, i.4),
      e.others_stay ∙ i.5,
      one_more _ _ _ _ (slots_of c.loop-call.others) _ c.args.calls.now c.loop-call.call-index c.call-item.result c.step-answer.result _ _ _ _ _ _ below c.call-item.is i.5 (e.next _ _ _ _) p.items i.6,
    )

pub returns : goal.returns
returns g c =
    let i = c.loop-call.invariant in
    let over = c.new-house.ensures.over in
    record {
      performed = all_taken _ _ _ _ _ _ _ _ c.args.calls.now c.loop-call.call-index _ _ over.market_is over.row_is c.loop-call-test.false i.6;
      others = i.5;
    }

pub step-answer-requires : goal.step-answer-requires
step-answer-requires g c =
    let i = c.loop-call.invariant in
    record {
      room = omega (arith, i.3, i.4, c.loop-call-test.true);
      foreign = still_foreign _ _ _ _ _ (slots_of c.loop-call.others) _ _ _ _ i.6 i.5 c.requires;
    }

pub invariant_of-result : goal.invariant_of-result
invariant_of-result g c =
    let own = all_own _ _ _ _ _ _ _ _ _ c.loop-call.invariant.6 in
    record { own = own.0; covered = own.1 }
