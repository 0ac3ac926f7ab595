-- What is printed of a count, and of a line that is not as expected.
use Rattle.std.specs.Prelude.{ℕ, cond, List, ◌++◌, codes, decimal, ◌==◌}

-- `1 station`, `3 stations`
abbrev pub counted_text : ℕ → List ℕ → List ℕ
counted_text count noun = cond (count == 1) (codes "1 " ++ noun) (decimal count ++ (codes " " ++ (noun ++ codes "s")))

-- `12: expected 'peaks'`, to stand behind the name of a file and a colon
abbrev pub fault_text : ℕ → List ℕ → List ℕ
fault_text line expected = decimal line ++ (codes ": " ++ expected)
