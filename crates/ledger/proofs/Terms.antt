-- An agreement's terms over readings, one more at the end.
use Rattle.std.proofs.Common.{◌≡◌, ℕ, ◌+◌, ◌-◌, List, [], ◌∷◌, ◌++◌, get_or, set, Some, None, Option, refl, ap, ◌∙◌, arith}
use Rattle.std.proofs.lemmas.List.{length-set, get_or-set_same}
use Rattle.std.specs.Option.{option_map}
use Rattle.metering.specs.declared.reading.Reading.{Reading}
use Rattle.agreements.specs.Meaning.{Meaning, moved}
use Rattle.banks.specs.Rows.{nowhere, at_place, put_at, moved_at}
use Rattle.banks.specs.lemmas.Places.{at_in, by_place}
use Rattle.ledger.specs.Terms.{worth, dues_at, moved_by, gives, place_after, given_at}

moved_by_more : (m : Meaning) (rs : List Reading) (r : Reading) → moved_by m (rs ++ r ∷ []) ≡ moved (moved_by m rs) r
moved_by_more m [] r = refl
moved_by_more m (x ∷ rs) r = moved_by_more (moved m x) rs r

gives_more : (m : Meaning) (rs : List Reading) (r : Reading) → gives m (rs ++ r ∷ []) ≡ gives m rs + worth (dues_at (Some (moved_by m rs)) r)
gives_more m [] r = omega arith
gives_more m (x ∷ rs) r = let more = gives_more (moved m x) rs r in omega arith

-- a place after one reading more, and what it has then given
pub place_after_more : (place : Option Meaning) (rs : List Reading) (r : Reading) → place_after place (rs ++ r ∷ []) ≡ option_map (λ m. moved m r) (place_after place rs)
place_after_more None rs r = refl
place_after_more (Some m) rs r = ap (λ x. Some x) (moved_by_more m rs r)

pub given_at_more : (place : Option Meaning) (rs : List Reading) (r : Reading) → given_at place (rs ++ r ∷ []) ≡ given_at place rs + worth (dues_at (place_after place rs) r)
given_at_more None rs r = refl
given_at_more (Some m) rs r = gives_more m rs r

-- a place once a reading is booked there
pub at_moved : (row : List Meaning) (k : ℕ) (r : Reading) → at_place (moved_at row k r) k ≡ option_map (λ m. moved m r) (at_place row k)
at_moved row k r =
    by_place row k (λ place. at_place row k ≡ place → at_place (put_at row k r place) k ≡ option_map (λ m. moved m r) place)
    (λ is. is)
    (λ low high is.
    let m = get_or row (k - 1) nowhere in
    at_in (set row (k - 1) (moved m r)) k low (rw (length-set row (k - 1) (moved m r)) high)
    ∙ ap (λ x. Some x) (get_or-set_same row (k - 1) (moved m r) nowhere (omega arith)))
    refl
