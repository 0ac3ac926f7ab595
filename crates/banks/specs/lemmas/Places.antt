-- A row, place by place.
use Rattle.std.specs.Prelude.{◌≡◌, ℕ, ◌-◌, ◌<◌, ◌≤◌, cond, ◌&&◌, List, length, Some, None, Option, ◌≢◌, nat_le, slice_index_or, slice_set, refl}
use Rattle.std.proofs.Common.{sym, ap, subst, ◌∙◌, ⊎_elim, arith}
use Rattle.std.proofs.lemmas.List.{length-set, get_or-set_other}
use Rattle.std.proofs.lemmas.Bool.{cases_eq, cases_lt, le-leb, lt-leb, and_from, and_left, and_right, cond-true, cond-false}
use Rattle.metering.specs.declared.reading.Reading.{Reading}
use Rattle.agreements.specs.Meaning.{Meaning}
use Rattle.banks.specs.Rows.{nowhere, at_place, put_at, moved_at, Booked}

pub at_in : (ms : List Meaning) (k : ℕ) → 1 ≤ k → k ≤ length ms → at_place ms k ≡ Some (slice_index_or ms (k - 1) nowhere)
at_in ms k h h' = cond-true (nat_le 1 k && nat_le k (length ms)) _ _ (and_from _ _ (le-leb 1 k h) (le-leb k (length ms) h'))

pub at_past : (ms : List Meaning) (k : ℕ) → length ms < k → at_place ms k ≡ None
at_past ms k h = cond-false (nat_le 1 k && nat_le k (length ms)) _ _ (and_right _ _ (lt-leb k (length ms) h))

pub at_zero : (ms : List Meaning) (k : ℕ) → k ≡ 0 → at_place ms k ≡ None
at_zero ms k h = cond-false (nat_le 1 k && nat_le k (length ms)) _ _ (and_left _ _ (lt-leb 1 k (omega arith)))

-- what holds of a place that is lacking, and of one that is there, holds of any
pub by_place : (ms : List Meaning) (k : ℕ) (P : Option Meaning → Type 0) → P None → (1 ≤ k → k ≤ length ms → P (Some (slice_index_or ms (k - 1) nowhere))) → P (at_place ms k)
by_place ms k P lacking there =
    ⊎_elim
    (λ (z : length ms < k). subst P (sym (at_past ms k z)) lacking)
    (λ (z : k ≤ length ms).
    ⊎_elim
    (λ (y : k ≡ 0). subst P (sym (at_zero ms k y)) lacking)
    (λ (y : k ≡ 0 → ⊥). subst P (sym (at_in ms k (omega arith) z)) (there (omega arith) z))
    (cases_eq k 0))
    (cases_lt (length ms) k)

-- a write at one place leaves the others
set_elsewhere : (ms : List Meaning) (j k : ℕ) (m : Meaning) → 1 ≤ k → (j ≢ k) → at_place (slice_set ms (k - 1) m) j ≡ at_place ms j
set_elsewhere ms j k m h ne =
    ⊎_elim
    (λ (y : j ≡ 0). at_zero (slice_set ms (k - 1) m) j y ∙ sym (at_zero ms j y))
    (λ (y : j ≡ 0 → ⊥).
    ap (λ n. cond (nat_le 1 j && nat_le j n) (Some (slice_index_or (slice_set ms (k - 1) m) (j - 1) nowhere)) None) (length-set ms (k - 1) m)
    ∙ ap (λ x. cond (nat_le 1 j && nat_le j (length ms)) (Some x) None) (get_or-set_other ms (k - 1) (j - 1) m nowhere (λ e. ne (omega arith))))
    (cases_eq j 0)

-- booking moves one place, and the others stay
pub books : (before : List Meaning) (k : ℕ) (r : Reading) (after : List Meaning) → after ≡ moved_at before k r → Booked before k r after
books before k r after e =
    record {
      there = e;
      elsewhere =
          λ j ne. ap (λ ms. at_place ms j) e
          ∙ by_place before k (λ o. at_place (put_at before k r o) j ≡ at_place before j) refl (λ l u. set_elsewhere before j k _ l ne);
    }
