-- Two banks side by side, place by place.
use Rattle.std.specs.Prelude.{◌≡◌, ℕ, ◌+◌, ◌-◌, ◌<◌, ◌≤◌, min, List, ◌++◌, length, get_or, take, Some, None, slice_index_or, slice_set, refl}
use Rattle.std.proofs.Common.{sym, ap, subst, ◌∙◌, ⊎_elim, arith}
use Rattle.std.proofs.lemmas.List.{length-take, length-append, get_or-take, get_or_append_left, get_or-append_right, set-append_left, set-append_right}
use Rattle.std.proofs.lemmas.Bool.{cases_eq, cases_lt}
use Rattle.std.proofs.Math.Seq.{take-set-lt}
use Rattle.metering.specs.declared.reading.Reading.{Reading}
use Rattle.agreements.specs.Meaning.{Meaning, moved}
use Rattle.metering.specs.Limits.{place_limit}
use Rattle.banks.specs.Rows.{nowhere, at_place, put_at, moved_at, side_by_side, LawfulAt}
use Rattle.banks.specs.lemmas.Places.{at_in, at_past, at_zero, books}
use Rattle.banks.specs.Sides.{OnLeft, OnRight, OnNeither}

module _ (l r : List Meaning) where
  pub length_sides : length (side_by_side l r) ≡ min place_limit (length l + length r)
  length_sides = length-take place_limit (l ++ r) ∙ ap (min place_limit) (length-append l r)

  at_left : (k : ℕ) → length l ≤ place_limit → k ≤ length l → at_place (side_by_side l r) k ≡ at_place l k
  at_left k few h =
      ⊎_elim
      (λ (z : k ≡ 0). at_zero (side_by_side l r) k z ∙ sym (at_zero l k z))
      (λ (z : k ≡ 0 → ⊥).
      at_in (side_by_side l r) k (omega arith) (omega (arith, length_sides))
      ∙ ap Some (get_or-take place_limit (l ++ r) (k - 1) nowhere (omega arith) ∙ get_or_append_left l r nowhere (k - 1) (omega arith))
      ∙ sym (at_in l k (omega arith) h))
      (cases_eq k 0)

  at_right : (k : ℕ) → length l < k → k ≤ place_limit → at_place (side_by_side l r) k ≡ at_place r (k - length l)
  at_right k h h' =
      ⊎_elim
      (λ (z : length r < k - length l). at_past (side_by_side l r) k (omega (arith, length_sides)) ∙ sym (at_past r (k - length l) z))
      (λ (z : k - length l ≤ length r).
      at_in (side_by_side l r) k (omega arith) (omega (arith, length_sides))
      ∙ ap Some (get_or-take place_limit (l ++ r) (k - 1) nowhere (omega arith) ∙ get_or-append_right l r (length l) (k - 1) nowhere refl (omega arith) ∙ ap (λ i. get_or r i nowhere) (omega arith))
      ∙ sym (at_in r (k - length l) (omega arith) z))
      (cases_lt (length r) (k - length l))

  at_beyond : (k : ℕ) → place_limit < k → at_place (side_by_side l r) k ≡ None
  at_beyond k h = at_past (side_by_side l r) k (omega (arith, length_sides))

  module _ (rd : Reading) where
    moved_left : (k : ℕ) → length l ≤ place_limit → k ≤ length l → moved_at (side_by_side l r) k rd ≡ side_by_side (moved_at l k rd) r
    moved_left k few h =
        ⊎_elim
        (λ (z : k ≡ 0). ap (put_at (side_by_side l r) k rd) (at_zero (side_by_side l r) k z) ∙ sym (ap (λ o. side_by_side (put_at l k rd o) r) (at_zero l k z)))
        (λ (z : k ≡ 0 → ⊥).
        ap (put_at (side_by_side l r) k rd) (at_left k few h ∙ at_in l k (omega arith) h)
        ∙ sym (take-set-lt place_limit (l ++ r) (k - 1) _ (omega arith))
        ∙ ap (take place_limit) (set-append_left l r (k - 1) _ (omega arith))
        ∙ sym (ap (λ o. side_by_side (put_at l k rd o) r) (at_in l k (omega arith) h)))
        (cases_eq k 0)

    moved_right : (k : ℕ) → length l < k → k ≤ place_limit → moved_at (side_by_side l r) k rd ≡ side_by_side l (moved_at r (k - length l) rd)
    moved_right k h h' =
        ⊎_elim
        (λ (z : length r < k - length l).
        ap (put_at (side_by_side l r) k rd) (at_right k h h' ∙ at_past r (k - length l) z)
        ∙ sym (ap (λ o. side_by_side l (put_at r (k - length l) rd o)) (at_past r (k - length l) z)))
        (λ (z : k - length l ≤ length r).
        ap (put_at (side_by_side l r) k rd) (at_right k h h' ∙ at_in r (k - length l) (omega arith) z)
        ∙ sym (take-set-lt place_limit (l ++ r) (k - 1) _ (omega arith))
        ∙ ap (take place_limit) (set-append_right l r (length l) (k - 1) _ refl (omega arith))
        ∙ ap (λ i. take place_limit (l ++ slice_set r i (moved (slice_index_or r (k - length l - 1) nowhere) rd))) (omega arith)
        ∙ sym (ap (λ o. side_by_side l (put_at r (k - length l) rd o)) (at_in r (k - length l) (omega arith) z)))
        (cases_lt (length r) (k - length l))

    pub lawful_sides : (k : ℕ) → length l ≤ place_limit → ((j : ℕ) → LawfulAt (at_place l j) rd) → ((j : ℕ) → LawfulAt (at_place r j) rd) → LawfulAt (at_place (side_by_side l r) k) rd
    lawful_sides k few on-left on-right =
        ⊎_elim
        (λ (h : length l < k).
        ⊎_elim
        (λ (z : place_limit < k). subst (λ o. LawfulAt o rd) (sym (at_beyond k z)) tt)
        (λ (z : k ≤ place_limit). subst (λ o. LawfulAt o rd) (sym (at_right k h z)) (on-right (k - length l)))
        (cases_lt place_limit k))
        (λ (h : k ≤ length l). subst (λ o. LawfulAt o rd) (sym (at_left k few h)) (on-left k))
        (cases_lt (length l) k)

  -- booking on one side is booking on both together
  pub on_left : (k : ℕ) → length l ≤ place_limit → k ≤ length l → OnLeft l r k k
  on_left k few h =
      record {
        there = at_left k few h;
        books = λ rd after b. books _ k rd _ (ap (λ ms. side_by_side ms r) b.there ∙ sym (moved_left rd k few h));
      }

  pub on_right : (k n : ℕ) → n ≡ length l → n < k → k ≤ place_limit → OnRight l r k (k - n)
  on_right k n e h h' =
      record {
        there = at_right k (omega arith) h' ∙ ap (λ i. at_place r (k - i)) (sym e);
        books =
            λ rd after b. books _ k rd _
            (ap (side_by_side l) (b.there ∙ ap (λ i. moved_at r (k - i) rd) e) ∙ sym (moved_right rd k (omega arith) h'));
      }

  pub on_neither : (k : ℕ) → place_limit < k → OnNeither l r k
  on_neither k h =
      record { there = at_beyond k h; books = λ rd. books _ k rd _ (sym (ap (put_at (side_by_side l r) k rd) (at_beyond k h))) }
