use Rattle.std.proofs.Common.{◌≡◌, ◌≤◌, length, take, vec_items, vec_len, vec_capacity}
use Rattle.house.specs.Shown.{shows}
use Rattle.history.specs.Slots.{slots_of, room_in}
use Rattle.history.specs.Histories.{Performed}
use Rattle.history.proofs.new_house.NewHouse.make.Given as goal

abbrev pub invariant-loop-call : goal.invariant-loop-call
invariant-loop-call g l =
    (l.call-index ≤ length l.calls)
    × (vec_len l.answers ≤ l.call-index)
    × (length l.calls ≤ vec_capacity l.answers)
    × (length (slots_of l.desk.hand) ≤ l.call-index)
    × (length l.calls ≤ room_in l.desk.hand)
    × (slots_of l.others ≡ slots_of l.initial.others)
    × Performed g.M.Methodology.shape (g.M.Methodology.meaning l.initial.desk.house.methodology) (g.B.Bank.row l.initial.desk.house.bank) l.serial (slots_of l.initial.others) (take l.call-index l.calls) (vec_items l.answers) (slots_of l.desk.hand) (shows l.desk.house)
