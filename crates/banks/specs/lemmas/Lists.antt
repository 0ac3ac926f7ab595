-- A list of agreements, place by place; f is what each means.
use Rattle.std.specs.Prelude.{◌≡◌, ℕ, zero, suc, ◌+◌, ◌-◌, ◌<◌, ◌≤◌, List, [], ◌∷◌, map, length, set, Some, slice_index_or, slice_set}
use Rattle.std.proofs.Common.{sym, ap, ◌∙◌, arith}
use Rattle.std.proofs.lemmas.List.{length-map, get_or-map, map-set}
use Rattle.metering.specs.declared.reading.Reading.{Reading}
use Rattle.agreements.specs.Meaning.{Meaning, moved, Lawful}
use Rattle.banks.specs.Rows.{nowhere, at_place, put_at, Booked, LawfulAt}
use Rattle.banks.specs.lemmas.Places.{at_in, by_place, books}

module _ {X : Type 0} (f : X → Meaning) where
  lawful_item : (r : Reading) → ((x : X) → Lawful (f x) r) → (xs : List X) (i : ℕ) → i < length xs → Lawful (slice_index_or (map f xs) i nowhere) r
  lawful_item r each [] i h = absurd (omega arith)
  lawful_item r each (x ∷ xs) zero h = each x
  lawful_item r each (x ∷ xs) (suc i) h = lawful_item r each xs i (omega arith)

  module _ (xs : List X) (k : ℕ) where
    pub has : (i : ℕ) (x : X) → i + 1 ≡ k → k ≤ length xs → x ≡ slice_index_or xs i x → at_place (map f xs) k ≡ Some (f x)
    has i x h h' e =
        at_in (map f xs) k (omega arith) (omega (arith, length-map xs f))
        ∙ ap (λ j. Some (slice_index_or (map f xs) j nowhere)) (omega arith)
        ∙ ap Some (get_or-map f xs i x nowhere (omega arith) ∙ ap f (sym e))

    pub books_item : (i : ℕ) (x y : X) (r : Reading) → i + 1 ≡ k → at_place (map f xs) k ≡ Some (f x) → f y ≡ moved (f x) r → Booked (map f xs) k r (map f (slice_set xs i y))
    books_item i x y r h e m =
        books _ k r _
        (map-set f xs i y ∙ ap (set (map f xs) i) m ∙ ap (λ j. set (map f xs) j (moved (f x) r)) (omega arith) ∙ sym (ap (put_at (map f xs) k r) e))

    pub lawful_row : (r : Reading) → ((x : X) → Lawful (f x) r) → LawfulAt (at_place (map f xs) k) r
    lawful_row r each =
        by_place (map f xs) k (λ o. LawfulAt o r) tt (λ h h'. lawful_item r each xs (k - 1) (omega (arith, length-map xs f)))
