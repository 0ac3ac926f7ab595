use Rattle.std.proofs.Common.{◌≡◌, ◌*◌, length, take}
use Rattle.statement.specs.Tallies.{nothing, tallied}
use Rattle.statement.specs.Bounds.{turn, Within}
use Rattle.statement.proofs.tally.Tally.of.Given as goal

abbrev pub invariant-loop-call : goal.invariant-loop-call
invariant-loop-call l =
    (goal.iterator-loop-call).can_next l.call-iterator
    × (goal.iterator-loop-call).is_finite l.call-iterator
    × (l.tally ≡ tallied l.shape.revenues (take (length l.yielded) l.calls) (take (length l.yielded) l.answers) nothing)
    × Within (length l.yielded * turn) l.tally
