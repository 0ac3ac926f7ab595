-- The retainer: a fee for each of so many readings, then none is admitted.
use Rattle.std.specs.Prelude.{ℕ, ◌-◌, cond, List, [], ◌∷◌, Result, ◌==◌, nat_le, slice_index}
use Rattle.metering.specs.declared.reading.Reading.{Reading}
use Rattle.agreements.specs.declared.fault.Cause.TheVariants.{Contract}
use Rattle.agreements.specs.declared.fault.OverLimit.{OverLimit}
use Rattle.agreements.specs.Dues.{no_dues}
use Rattle.agreements.specs.Limits.{due_limit}
use Rattle.agreements.specs.Making.{Makes}
use Rattle.agreements.specs.Meaning.{Answer, admitted, refused, Meaning}
use Rattle.strangers.specs.declared.retainer.Retainer.{Retainer}

-- the standing is one number, the readings that are left
abbrev pub retainer_terms : ℕ → List ℕ → Reading → Answer
retainer_terms fee standing r =
    cond (slice_index standing 0 == 0) (refused (record { cause = Contract; layer = 0 }))
    (admitted (record { capacity = fee; blocks = no_dues.blocks }) ((slice_index standing 0 - 1) ∷ []))

abbrev pub retainer_at : ℕ → ℕ → Meaning
retainer_at fee left = record { layer = 0; standing = left ∷ []; terms = retainer_terms fee }

abbrev pub meaning_of_retainer : Retainer → Meaning
meaning_of_retainer a = retainer_at a.fee a.left

abbrev pub MakesRetainer : ℕ → ℕ → Result Retainer OverLimit → Type 0
MakesRetainer fee readings = Makes (nat_le fee due_limit) meaning_of_retainer (retainer_at fee readings)
