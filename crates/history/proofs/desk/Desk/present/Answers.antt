use Rattle.std.proofs.Common.{refl, arith}
use Rattle.history.specs.Slots.{slots_of}
use Rattle.history.proofs.Steps.{next_own, next_other, others_stay, presented_long}
use Rattle.history.proofs.desk.Desk.present.Goals as goal

pub returns-in-Drawn : goal.returns-in-Drawn
returns-in-Drawn g c =
    let done = c.present.ensures.done in
    record {
      next = λ shape market row serial. rw c.in-Drawn.is (next_own shape market row serial (slots_of c.args.others.now) c.args.how c.in-Drawn.number c.present.result _ _ _ _ done);
      others_stay = refl;
      long = let long = presented_long c.args.how c.in-Drawn.number c.present.result _ _ _ _ done in omega arith;
      room = c.present.ensures.room;
    }

pub returns-in-Other : goal.returns-in-Other
returns-in-Other g c =
    let done = c.present-in-Other.ensures.done in
    record {
      next = λ shape market row serial. rw c.in-Other.is (next_other shape market row serial (slots_of c.args.others.now) c.args.how c.in-Other.number c.present-in-Other.result _ _ _ _ c.requires done);
      others_stay = others_stay c.args.how c.in-Other.number c.present-in-Other.result _ _ _ _ c.requires done;
      long = omega arith;
      room = refl;
    }
