use Rattle.std.proofs.Common.{◌≡◌, ℕ, ◌+◌, ◌≤◌, List, length}
use Rattle.words.specs.Numbered.{numbered, lines_left}
use Rattle.journal.specs.Lines.{saying}
use Rattle.journal.specs.Text.{read_on, journal_of}
use Rattle.journal.proofs.journal.parse_journal.Given as goal

-- what is left gives what the whole gives
abbrev pub invariant-loop-line : goal.invariant-loop-line
invariant-loop-line l =
    (goal.iterator-loop-line).can_next l.line-iterator
    × (goal.iterator-loop-line).is_finite l.line-iterator
    × (more : List (List ℕ))
    × (lines_left l.line-iterator ≡ numbered l.last more)
    × (read_on l.last (saying l.draft) more ≡ journal_of l.text)
    × (l.last + length more ≤ length l.text)
