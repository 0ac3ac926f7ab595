-- Which of two banks side by side has a place, and under which number.
use Rattle.std.specs.Prelude.{◌≡◌, ℕ, List, None, Ok, Err, Result}
use Rattle.metering.specs.declared.reading.Reading.{Reading}
use Rattle.agreements.specs.Meaning.{Meaning}
use Rattle.banks.specs.declared.beside.Side.{Side}
use Rattle.banks.specs.declared.beside.Side.TheVariants.{Left, Right}
use Rattle.banks.specs.declared.refusal.BankRefusal.{BankRefusal}
use Rattle.banks.specs.declared.refusal.BankRefusal.TheVariants.{NoPlace}
use Rattle.banks.specs.Rows.{at_place, side_by_side, Booked}

-- place k of two banks side by side is place j of the left one
pub record OnLeft (l r : List Meaning) (k j : ℕ) : Type 0 where
  pub there : at_place (side_by_side l r) k ≡ at_place l j
  pub books : (rd : Reading) (after : List Meaning) → Booked l j rd after → Booked (side_by_side l r) k rd (side_by_side after r)

-- or of the right one
pub record OnRight (l r : List Meaning) (k j : ℕ) : Type 0 where
  pub there : at_place (side_by_side l r) k ≡ at_place r j
  pub books : (rd : Reading) (after : List Meaning) → Booked r j rd after → Booked (side_by_side l r) k rd (side_by_side l after)

-- or is lacking
pub record OnNeither (l r : List Meaning) (k : ℕ) : Type 0 where
  pub there : at_place (side_by_side l r) k ≡ None
  pub books : (rd : Reading) → Booked (side_by_side l r) k rd (side_by_side l r)

abbrev pub IsSide : List Meaning → List Meaning → ℕ → Result Side BankRefusal → Type 0
IsSide l r k (Ok (Left j)) = OnLeft l r k j
IsSide l r k (Ok (Right j)) = OnRight l r k j
IsSide l r k (Err e) = (e ≡ NoPlace) × OnNeither l r k
