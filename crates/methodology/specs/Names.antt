-- The names of heads: a letter, and a number where the letter alone does not tell them apart.
use Rattle.std.specs.Prelude.{ℕ, cond, ◌&&◌, List, [], ◌++◌, Some, None, Option, codes, decimal, nat_le, ◌==◌}
use Rattle.methodology.specs.declared.head.Head.{Head}
use Rattle.methodology.specs.declared.head.Head.TheVariants.{Generation, Revenue, Interval}
use Rattle.methodology.specs.Limits.{revenue_limit}

abbrev pub letter : Head → List ℕ
letter Generation = codes "G"
letter (Revenue i) =
    cond (i == 1) (codes "T")
    (cond (i == 2) (codes "B")
    (cond (i == 3) (codes "S") (codes "R")))
letter (Interval i) = codes "E"

-- a market's revenues have letters of their own, its intervals one for all
abbrev pub numeral : Head → Option ℕ
numeral Generation = None
numeral (Revenue i) = cond (nat_le 1 i && nat_le i revenue_limit) None (Some i)
numeral (Interval i) = Some i

abbrev pub digits : Option ℕ → List ℕ
digits None = []
digits (Some i) = decimal i

abbrev pub name : Head → List ℕ
name h = letter h ++ digits (numeral h)
