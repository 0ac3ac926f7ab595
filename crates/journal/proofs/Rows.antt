-- Rows of figures, figure by figure.
use Rattle.std.proofs.Common.{◌≡◌, ℕ, ◌<◌, ◌≤◌, List, [], ◌∷◌, ◌++◌, map, length, set, slice_index, refl, arith}
use Rattle.std.specs.List.{range_with_len}
use Rattle.methodology.specs.Limits.{head_limit}

abbrev pub table : List ℕ → List ℕ
table fs = map (slice_index fs) (range_with_len 0 head_limit)

-- while the table has room, the next figure is put into it
pub table_put : (fs : List ℕ) (n : ℕ) → length fs < 6 → set (table fs) (length fs) n ≡ table (fs ++ (n ∷ []))
table_put [] n h = refl
table_put (a ∷ []) n h = refl
table_put (a ∷ b ∷ []) n h = refl
table_put (a ∷ b ∷ c ∷ []) n h = refl
table_put (a ∷ b ∷ c ∷ d ∷ []) n h = refl
table_put (a ∷ b ∷ c ∷ d ∷ e ∷ []) n h = refl
table_put (a ∷ b ∷ c ∷ d ∷ e ∷ f ∷ fs) n h = absurd (omega arith)

-- and then the table stays
pub table_full : (fs : List ℕ) (n : ℕ) → 6 ≤ length fs → table fs ≡ table (fs ++ (n ∷ []))
table_full [] n h = absurd (omega arith)
table_full (a ∷ []) n h = absurd (omega arith)
table_full (a ∷ b ∷ []) n h = absurd (omega arith)
table_full (a ∷ b ∷ c ∷ []) n h = absurd (omega arith)
table_full (a ∷ b ∷ c ∷ d ∷ []) n h = absurd (omega arith)
table_full (a ∷ b ∷ c ∷ d ∷ e ∷ []) n h = absurd (omega arith)
table_full (a ∷ b ∷ c ∷ d ∷ e ∷ f ∷ fs) n h = refl
