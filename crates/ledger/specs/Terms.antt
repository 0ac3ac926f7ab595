-- What an agreement's terms give for readings, one after another.
use Rattle.std.specs.Prelude.{ℕ, ◌+◌, List, [], ◌∷◌, Some, None, Option}
use Rattle.std.specs.Option.{option_map}
use Rattle.metering.specs.declared.reading.Reading.{Reading}
use Rattle.agreements.specs.declared.dues.Dues.{Dues}
use Rattle.agreements.specs.Dues.{capacity_due, block_sum, no_dues}
use Rattle.agreements.specs.Meaning.{Meaning, moved}
use Rattle.banks.specs.Rows.{written_at}

-- what dues come to, grains
abbrev pub worth : Dues → ℕ
worth d = capacity_due d + block_sum d

-- the dues of a reading at a place: none where there is no agreement, or where it does not admit the reading
abbrev pub dues_at : Option Meaning → Reading → Dues
dues_at place r = written_at place r no_dues

-- an agreement once readings are booked, the first of the list first
abbrev pub moved_by : Meaning → List Reading → Meaning
moved_by m [] = m
moved_by m (r ∷ rs) = moved_by (moved m r) rs

-- what it gives for them, each at the standing that those before it left
abbrev pub gives : Meaning → List Reading → ℕ
gives m [] = 0
gives m (r ∷ rs) = worth (dues_at (Some m) r) + gives (moved m r) rs

-- the same of a place
abbrev pub place_after : Option Meaning → List Reading → Option Meaning
place_after place rs = option_map (λ m. moved_by m rs) place

abbrev pub given_at : Option Meaning → List Reading → ℕ
given_at None rs = 0
given_at (Some m) rs = gives m rs
