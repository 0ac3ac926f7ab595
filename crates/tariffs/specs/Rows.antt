-- Which rows of figures fit what they are filed for.
use Rattle.std.specs.Prelude.{◌≡◌, ℕ, zero, suc, ◌<◌, Bool, true, ◌&&◌, List, ◌==◌, slice_index}
use Rattle.metering.specs.Verdict.{between}
use Rattle.methodology.specs.Limits.{head_limit}
use Rattle.tariffs.specs.declared.row.Row.{Row}

-- a table has the first figures of a list, and 0 where the list has none
abbrev pub FirstOf : List ℕ → List ℕ → Type 0
FirstOf filed figures = (k : ℕ) → k < head_limit → slice_index figures k ≡ slice_index filed k

-- each of the first n figures lies between low and high
unfoldable pub each_between : ℕ → ℕ → List ℕ → ℕ → Bool
each_between low high figures zero = true
each_between low high figures (suc n) = each_between low high figures n && between low high (slice_index figures n)

-- there are as many figures as wanted, each between low and high
unfoldable pub row_fits : ℕ → ℕ → ℕ → Row → Bool
row_fits low high wanted row = row.count == wanted && each_between low high row.figures wanted
