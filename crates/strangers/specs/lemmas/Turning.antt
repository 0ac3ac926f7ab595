-- A row told from its last place to its first.
use Rattle.std.specs.Prelude.{◌≡◌, ℕ, ◌+◌, ◌-◌, ◌<◌, ◌≤◌, List, reverse, length, get_or, set, Some, slice_index_or, slice_set, refl}
use Rattle.std.proofs.Common.{sym, ap, subst, ◌∙◌, ⊎_elim, arith}
use Rattle.std.proofs.lemmas.List.{length-reverse, length-set, get_or-reverse, get_or-set_same, get_or-set_other, ext_get_or}
use Rattle.std.proofs.lemmas.Bool.{cases_eq, cases_lt}
use Rattle.metering.specs.declared.reading.Reading.{Reading}
use Rattle.agreements.specs.Meaning.{Meaning, moved}
use Rattle.banks.specs.Rows.{nowhere, at_place, put_at, Booked, LawfulAt}
use Rattle.banks.specs.lemmas.Places.{at_in, at_past, at_zero, by_place, books}

set_reverse : (ms : List Meaning) (i : ℕ) (m : Meaning) → i < length ms → reverse (slice_set ms i m) ≡ slice_set (reverse ms) (length ms - 1 - i) m
set_reverse ms i m h =
    let back = length-reverse ms in
    let long = length-set ms i m in
    ext_get_or nowhere (reverse (slice_set ms i m)) (slice_set (reverse ms) (length ms - 1 - i) m)
    (length-reverse (slice_set ms i m) ∙ long ∙ sym (length-set (reverse ms) (length ms - 1 - i) m ∙ back))
    (λ j below.
    let lt : j < length ms = omega (arith, length-reverse (slice_set ms i m)) in
    get_or-reverse (slice_set ms i m) j nowhere (omega arith)
    ∙ ap (λ n. get_or (slice_set ms i m) (n - 1 - j) nowhere) long
    ∙ ⊎_elim
    (λ (e : length ms - 1 - j ≡ i).
    ap (λ k. get_or (slice_set ms i m) k nowhere) e ∙ get_or-set_same ms i m nowhere h
    ∙ sym (ap (λ k. get_or (slice_set (reverse ms) (length ms - 1 - i) m) k nowhere) (omega arith) ∙ get_or-set_same (reverse ms) (length ms - 1 - i) m nowhere (omega arith)))
    (λ (e : length ms - 1 - j ≡ i → ⊥).
    get_or-set_other ms i (length ms - 1 - j) m nowhere e
    ∙ sym (get_or-set_other (reverse ms) (length ms - 1 - i) j m nowhere (λ z. e (omega arith)) ∙ get_or-reverse ms j nowhere lt))
    (cases_eq (length ms - 1 - j) i))

module _ (ms : List Meaning) (k : ℕ) where
  -- past the last place both are lacking
  pub turned : at_place (reverse ms) k ≡ at_place ms (length ms + 1 - k)
  turned =
      let back = length-reverse ms in
      ⊎_elim
      (λ (y : length ms < k). at_past (reverse ms) k (omega arith) ∙ sym (at_zero ms (length ms + 1 - k) (omega arith)))
      (λ (y : k ≤ length ms).
      ⊎_elim
      (λ (z : k ≡ 0). at_zero (reverse ms) k z ∙ sym (at_past ms (length ms + 1 - k) (omega arith)))
      (λ (z : k ≡ 0 → ⊥).
      at_in (reverse ms) k (omega arith) (omega arith)
      ∙ ap Some (get_or-reverse ms (k - 1) nowhere (omega arith) ∙ ap (λ i. get_or ms i nowhere) (omega arith))
      ∙ sym (at_in ms (length ms + 1 - k) (omega arith) (omega arith)))
      (cases_eq k 0))
      (cases_lt (length ms) k)

  pub books_turned : (r : Reading) (after : List Meaning) → Booked ms (length ms + 1 - k) r after → Booked (reverse ms) k r (reverse after)
  books_turned r after b =
      books _ k r _
      (ap reverse b.there
      ∙ by_place ms (length ms + 1 - k) (λ o. reverse (put_at ms (length ms + 1 - k) r o) ≡ put_at (reverse ms) k r o) refl
      (λ l u.
      set_reverse ms (length ms + 1 - k - 1) _ (omega arith)
      ∙ ap (λ i. set (reverse ms) i (moved (slice_index_or ms (length ms + 1 - k - 1) nowhere) r)) (omega arith))
      ∙ sym (ap (put_at (reverse ms) k r) turned))

pub lawful_turned : (ms : List Meaning) (k : ℕ) (r : Reading) → ((j : ℕ) → LawfulAt (at_place ms j) r) → LawfulAt (at_place (reverse ms) k) r
lawful_turned ms k r each = subst (λ o. LawfulAt o r) (sym (turned ms k)) (each (length ms + 1 - k))
