use Rattle.std.proofs.Common.{length}
use Rattle.house.specs.Shown.{shows}
use Rattle.history.specs.Slots.{slots_of, in_slots}
use Rattle.history.proofs.Holding.{Holding}
use Rattle.history.proofs.performance.Performance.hold_all.Given as goal

abbrev pub invariant-loop-order : goal.invariant-loop-order
invariant-loop-order g l =
    Holding (shows l.initial.house) (in_slots (slots_of l.hand)) (shows l.house)

abbrev pub decreases-loop-order : goal.decreases-loop-order
decreases-loop-order g l = length (slots_of l.hand)
