-- A station's line: the figures of its agreement, and the index layers above it from the bottom up.
use Rattle.std.specs.Prelude.{◌≡◌, ℕ, List, [], ◌∷◌, ◌++◌, Ok, Err, Result, codes, if◌then◌else◌}
use Rattle.std.specs.Str.{bytes_eq}
use Rattle.agreements.specs.Meaning.{Meaning}
use Rattle.stations.specs.declared.figures.BaseFigures.{BaseFigures}
use Rattle.stations.specs.declared.figures.BaseFigures.TheVariants.{TwoPart, Quota}
use Rattle.stations.specs.Figures.{figured, figures_fit}
use Rattle.stations.specs.Layers.{layered}
use Rattle.journal.specs.declared.name.Name.{Name}
use Rattle.journal.specs.declared.name.Name.TheVariants.{Contracted, Capacity, Energy, Kwh, First, Second, Index}
use Rattle.journal.specs.declared.expected.Expected.{Expected}
use Rattle.journal.specs.declared.expected.Expected.TheVariants.{Agreement, TwoPartLimits, QuotaLimits}
use Rattle.journal.specs.declared.unread.UnreadLine.{UnreadLine}
use Rattle.journal.specs.declared.unread.UnreadLine.TheVariants.{Lacks, NoMemory}
use Rattle.journal.specs.Chain.{◌>>=◌, must}
use Rattle.journal.specs.Fields.{Words, single}

-- a reading gives what the words say, by what its value means; want of memory promises nothing
abbrev pub Gives : {A B : Type 0} → (B → A) → Result A Expected → Result B UnreadLine → Type 0
Gives meaning said (Ok x) = said ≡ Ok (meaning x)
Gives meaning said (Err (Lacks e)) = said ≡ Err e
Gives meaning said (Err NoMemory) = Unit {0}

-- three fields of one figure each
unfoldable pub three_of : Name → Name → Name → Words → Result ((ℕ × ℕ × ℕ) × Words) Expected
three_of first second third ws = do
  (a, ws) ← single first ws
  (b, ws) ← single second ws
  (c, ws) ← single third ws
  Ok ((a, b, c), ws)

-- `contracted 100 capacity 20000 energy 50000`
unfoldable pub two_part_of : Words → Result (BaseFigures × Words) Expected
two_part_of ws = do
  (f, ws) ← three_of Contracted Capacity Energy ws
  Ok (TwoPart f.0 f.1 f.2, ws)

-- `kwh 25 first 60000 second 40000`
unfoldable pub quota_of : Words → Result (BaseFigures × Words) Expected
quota_of ws = do
  (f, ws) ← three_of Kwh First Second ws
  Ok (Quota f.0 f.1 f.2, ws)

unfoldable pub figures_of : Words → Result (BaseFigures × Words) Expected
figures_of [] = Err Agreement
figures_of (w ∷ ws) =
    if bytes_eq w (codes "two-part") then two_part_of ws
    else (if bytes_eq w (codes "quota") then quota_of ws
    else Err Agreement)

-- the layers above those so far, `index 1050000` and so on to the end of the line; one word alone is no layer
unfoldable pub layers : List ℕ → Words → Result (List ℕ) Expected
layers below [] = Ok below
layers below (w ∷ []) = single Index (w ∷ []) >>= λ _. Ok below
layers below (w ∷ v ∷ ws) = single Index (w ∷ v ∷ ws) >>= λ (factor, _). layers (below ++ (factor ∷ [])) ws

-- what was expected where an agreement is over its limits
abbrev pub limits : BaseFigures → Expected
limits (TwoPart contracted capacity energy) = TwoPartLimits
limits (Quota left first second) = QuotaLimits

-- what a station means whose line goes on with these words
unfoldable pub station_of : Words → Result Meaning Expected
station_of ws = do
  (figures, ws) ← figures_of ws
  factors ← layers [] ws
  must (figures_fit figures) (limits figures) (Ok (layered factors (figured figures)))
