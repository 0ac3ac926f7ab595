use Rattle.std.proofs.Common.{◌≡◌, [], length}
use Rattle.words.specs.Pieces.{left}
use Rattle.journal.specs.Places.{layers}
use Rattle.journal.proofs.station.layers.Given as goal

-- what is left gives above the layers so far what the whole gives
abbrev pub invariant-loop-words : goal.invariant-loop-words
invariant-loop-words l = (layers l.factors.items (left l.words) ≡ layers [] (left l.fn.words)) × (l.ahead ≡ l.words)

abbrev pub decreases-loop-words : goal.decreases-loop-words
decreases-loop-words l = length (left l.ahead)
