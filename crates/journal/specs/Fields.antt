-- Fields: a name and then so many figures.
use Rattle.std.specs.Prelude.{◌≡◌, ℕ, ◌-◌, ◌^◌, cond, List, [], ◌∷◌, ◌++◌, map, length, Ok, Err, Result, ◌==◌, slice_index, nat_lt}
use Rattle.std.specs.List.{range_with_len}
use Rattle.std.specs.Str.{bytes_eq}
use Rattle.std.specs.Str.Parse.{digits_value}
use Rattle.methodology.specs.Limits.{head_limit}
use Rattle.tariffs.specs.declared.row.Row.{Row}
use Rattle.words.specs.Figures.{is_figure}
use Rattle.journal.specs.declared.name.Name.{Name}
use Rattle.journal.specs.declared.expected.Expected.{Expected}
use Rattle.journal.specs.declared.expected.Expected.TheVariants.{Field, Count, Most, End}
use Rattle.journal.specs.Names.{name_text}
use Rattle.journal.specs.Chain.{◌>>=◌, must}

-- the words of a line, or those that are left of it
abbrev pub Words : Type 0
Words = List (List ℕ)

-- a reading that gives a value takes words, and leaves the others
abbrev pub Takes : {A : Type 0} → Result (A × Words) Expected → Result A Expected → Words → Type 0
Takes said (Ok x) rest = said ≡ Ok (x, rest)
Takes said (Err e) rest = said ≡ Err e

abbrev pub Passes : Result Words Expected → Result (Unit {0}) Expected → Words → Type 0
Passes said (Ok _) rest = said ≡ Ok rest
Passes said (Err e) rest = said ≡ Err e

-- a word that has to be this one
abbrev pub keyword : List ℕ → Expected → Words → Result Words Expected
keyword text expected [] = Err expected
keyword text expected (w ∷ ws) = cond (bytes_eq w text) (Ok ws) (Err expected)

unfoldable pub named : Name → Words → Result Words Expected
named name ws = keyword (name_text name) (Field name) ws

-- most that a figure may be
abbrev pub largest : ℕ
largest = 2 ^ 64 - 1

-- the figures behind those so far, up to the first word that is none
unfoldable pub run : Name → List ℕ → Words → Result (List ℕ × Words) Expected
run name so_far [] = Ok (so_far, [])
run name so_far (w ∷ ws) =
    cond (is_figure w)
    (must (nat_lt (digits_value 10 w) (2 ^ 64)) (Most name largest) (run name (so_far ++ (digits_value 10 w ∷ [])) ws))
    (Ok (so_far, w ∷ ws))

-- the figures as a row: all are counted, and the first stand in its table
abbrev pub row_of : List ℕ → Row
row_of fs = record { count = length fs; figures = map (slice_index fs) (range_with_len 0 head_limit) }

-- a run gives its figures as a row
abbrev pub Runs : Result (List ℕ × Words) Expected → Result Row Expected → Words → Type 0
Runs said (Ok row) rest = (fs : List ℕ) × (row ≡ row_of fs) × (said ≡ Ok (fs, rest))
Runs said (Err e) rest = said ≡ Err e

-- exactly so many figures
unfoldable pub figures : Name → ℕ → Words → Result (Row × Words) Expected
figures name wanted ws = do
  (fs, rest) ← run name [] ws
  must (length fs == wanted) (Count name wanted (length fs)) (Ok (row_of fs, rest))

-- a name, and then so many figures
unfoldable pub field : Name → ℕ → Words → Result (Row × Words) Expected
field name wanted ws = named name ws >>= figures name wanted

unfoldable pub single : Name → Words → Result (ℕ × Words) Expected
single name ws = do
  (row, rest) ← field name 1 ws
  Ok (slice_index row.figures 0, rest)

-- nothing more
abbrev pub ended : Words → Result (Unit {0}) Expected
ended [] = Ok tt
ended (w ∷ ws) = Err End
