use Rattle.std.proofs.Common.{◌≡◌, ℕ, ◌+◌, ◌^◌, ◌<◌, List, [], length}
use Rattle.words.specs.Pieces.{left}
use Rattle.journal.specs.Fields.{run, row_of}
use Rattle.journal.proofs.field.run.Given as goal

-- what is left gives with the figures so far what the whole gives
abbrev pub invariant-loop-word : goal.invariant-loop-word
invariant-loop-word l =
    (fs : List ℕ)
    × (l.row ≡ row_of fs)
    × (run l.name fs (left l.words) ≡ run l.name [] (left l.fn.words))
    × (l.ahead ≡ l.words)
    × (length fs + length (left l.ahead) < 2 ^ 64)

abbrev pub decreases-loop-word : goal.decreases-loop-word
decreases-loop-word l = length (left l.ahead)
