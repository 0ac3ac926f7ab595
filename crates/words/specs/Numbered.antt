-- The lines of a text with their numbers.
use Rattle.std.specs.Prelude.{ℕ, ◌+◌, List, [], ◌∷◌}
use Rattle.std.specs.Borrow.{Bor}
use Rattle.words.specs.declared.lines.Lines.{Lines}
use Rattle.words.specs.Pieces.{lines}

-- the lines behind the first n, each with its number
abbrev pub numbered : ℕ → List (List ℕ) → List (ℕ × List ℕ)
numbered n [] = []
numbered n (line ∷ more) = (n + 1, line) ∷ numbered (n + 1) more

-- the lines that are left of a text
abbrev pub lines_left : Lines → List (ℕ × List ℕ)
lines_left l = numbered l.taken (lines l.rest.now)

-- a line that is taken, by its number and its bytes
abbrev pub numbered_line : ℕ × Bor (List ℕ) → ℕ × List ℕ
numbered_line (number, line) = (number, line.now)
