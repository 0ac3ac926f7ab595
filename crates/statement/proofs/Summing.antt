-- A sum over a list, as the sum over its places.
use Rattle.std.proofs.Common.{◌≡◌, ℕ, zero, suc, ◌+◌, ◌≤◌, List, length, get_or, take, sym, refl, ap, ◌∙◌, add-one, arith}
use Rattle.std.specs.List.{sum_by}
use Rattle.std.proofs.lemmas.List.{take_all}
use Rattle.std.proofs.lemmas.List.Sums.{sum_by_more}
use Rattle.accounts.specs.Sums.{sum_to}

module _ {A : Type 0} (f : A → ℕ) (d : A) (xs : List A) where
  pub sum_by_first : (n : ℕ) → n ≤ length xs → sum_by f (take n xs) ≡ sum_to (λ k. f (get_or xs k d)) n
  unfolding sum_to
  sum_by_first zero h = refl
  sum_by_first (suc n) h =
      ap (λ m. sum_by f (take m xs)) (sym (add-one n)) ∙ sum_by_more f xs n d (omega arith)
      ∙ ap (λ s. s + f (get_or xs n d)) (sum_by_first n (omega arith))

  pub sum_by_all : (n : ℕ) → length xs ≡ n → sum_by f xs ≡ sum_to (λ k. f (get_or xs k d)) n
  sum_by_all n e = ap (sum_by f) (sym (take_all n xs (omega arith))) ∙ sum_by_first n (omega arith)
