-- The worked case of a quota, by the definitions.
use Rattle.std.specs.Prelude.{◌≡◌, ℕ, List, [], ◌∷◌, replicate, slice_set}
use Rattle.metering.specs.Limits.{block_count}
use Rattle.metering.specs.declared.reading.Reading.{Reading}
use Rattle.agreements.specs.declared.dues.Dues.{Dues}
use Rattle.agreements.specs.Meaning.{answer, admitted}
use Rattle.agreements.specs.Quotas.{quota_at}

-- 20 kWh in block 2, 30 in block 12
abbrev pub worked_energies : List ℕ
worked_energies = slice_set (slice_set (replicate block_count 0) 2 20) 12 30

abbrev pub worked_dues : Dues
worked_dues = record { capacity = 0; blocks = slice_set (slice_set (replicate block_count 0) 2 1200000) 12 1300000 }

-- every reading with these energies has these dues at a quota of 25, and leaves none of it
abbrev pub WorkedQuota : Type 0
WorkedQuota = (r : Reading) → r.blocks ≡ worked_energies → answer (quota_at 25 60000 40000) r ≡ admitted worked_dues (0 ∷ [])
