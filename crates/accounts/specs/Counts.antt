-- How many flags are up, and how many entries of a list are filled.
use Rattle.std.specs.Prelude.{ℕ, Bool, List, is_some, count_by, Option}

unfoldable pub count_true : List Bool → ℕ
count_true flags = count_by (λ flag. flag) flags

unfoldable pub count_some : {A : Type 0} → List (Option A) → ℕ
count_some places = count_by is_some places
