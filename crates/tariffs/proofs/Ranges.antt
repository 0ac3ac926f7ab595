-- Rows whose figures lie in a range, figure by figure.
use Rattle.std.proofs.Common.{◌≡◌, ℕ, zero, suc, ◌<◌, ◌≤◌, true, ◌&&◌, eqb, leb, List, length, get_or, take, refl, ap, ◌∙◌, inl, inr, add-one, arith}
use Rattle.std.proofs.lemmas.Bool.{and_parts, leb-true, cases_eq}
use Rattle.std.proofs.lemmas.List.Folds.{list_all_more}
use Rattle.std.specs.List.{list_all}
use Rattle.metering.specs.Verdict.{between}
use Rattle.tariffs.specs.declared.row.Row.{Row}
use Rattle.tariffs.specs.Rows.{each_between, row_fits}

-- x lies between low and high
abbrev pub Between : ℕ → ℕ → ℕ → Type 0
Between low high x = (low ≤ x) × (x ≤ high)

pub between_facts : (low high x : ℕ) → between low high x ≡ true → Between low high x
between_facts low high x e =
    let both = and_parts (leb low x) (leb x high) e in (leb-true low x both.0, leb-true x high both.1)

module _ (low high : ℕ) (xs : List ℕ) where
  -- as the library's test of all elements has it
  pub each_all : (n : ℕ) → n ≤ length xs → list_all (between low high) (take n xs) ≡ each_between low high xs n
  unfolding each_between
  each_all zero h = refl
  each_all (suc n) h =
      (rw add-one at (list_all_more (between low high) xs n 0 (omega arith))) ∙ ap (λ b. b && between low high (get_or xs n 0)) (each_all n (omega arith))

  pub each_at : (n k : ℕ) → each_between low high xs n ≡ true → k < n → Between low high (get_or xs k 0)
  unfolding each_between
  each_at zero k e h = absurd (omega arith)
  each_at (suc n) k e h =
      let both = and_parts (each_between low high xs n) (between low high (get_or xs n 0)) e in
      elim (cases_eq k n) [ inl is ↦ rw is (between_facts low high (get_or xs n 0) both.1) | inr ne ↦ each_at n k both.0 (omega arith) ]

-- of a row that fits, each figure that is wanted lies in the range
pub row_at : (low high wanted : ℕ) (row : Row) → row_fits low high wanted row ≡ true → (k : ℕ) → k < wanted → Between low high (get_or row.figures k 0)
unfolding row_fits
row_at low high wanted row e k h =
    each_at low high row.figures wanted k (and_parts (eqb row.count wanted) (each_between low high row.figures wanted) e).1 h
