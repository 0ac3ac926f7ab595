use Rattle.std.proofs.Common.{◌≡◌, ◌≤◌, length, vec_len}
use Rattle.history.specs.Slots.{slots_of, in_slots}
use Rattle.history.proofs.order_list.Orders.take_last.Given as goal

abbrev pub invariant-loop-last : goal.invariant-loop-last
invariant-loop-last l =
    (in_slots (slots_of l.initial.self) ≡ in_slots (slots_of l.self)) × (length (slots_of l.self) ≤ length (slots_of l.initial.self))

abbrev pub decreases-loop-last : goal.decreases-loop-last
decreases-loop-last l = vec_len l.self.slots
