-- Flags and filled places, counted.
use Rattle.std.proofs.Common.{◌≡◌, ℕ, zero, suc, ◌+◌, ◌<◌, ◌≤◌, Bool, true, false, cond, List, length, get_or, set, replicate, is_some, Some, None, count_by, Option, refl, arith}
use Rattle.std.proofs.lemmas.List.Sums.{sum_by-set, count_by-le-length}
use Rattle.std.proofs.lemmas.Bool.{cond-true, cond-false}
use Rattle.accounts.specs.Counts.{count_true, count_some}

-- one place more passes the test
counted_set : {A : Type 0} (p : A → Bool) (xs : List A) (i : ℕ) (y d : A) → i < length xs → p (get_or xs i d) ≡ false → p y ≡ true → count_by p (set xs i y) ≡ count_by p xs + 1
counted_set p xs i y d h old new =
    let e = sum_by-set (λ x. cond (p x) 1 0) xs i y d h in
    let a = cond-false {A = ℕ} (p (get_or xs i d)) 1 0 old in
    let b = cond-true {A = ℕ} (p y) 1 0 new in
    omega (arith, e, a, b)

-- a flag that was down goes up
pub one_flag_more : (flags : List Bool) (i : ℕ) → i < length flags → get_or flags i false ≡ false → count_true (set flags i true) ≡ count_true flags + 1
unfolding count_true
one_flag_more flags i h down = counted_set (λ flag. flag) flags i true false h down refl

-- a place that was empty is filled
pub one_filled_more : {A : Type 0} (xs : List (Option A)) (i : ℕ) (x : A) → i < length xs → is_some (get_or xs i None) ≡ false → count_some (set xs i (Some x)) ≡ count_some xs + 1
unfolding count_some
one_filled_more xs i x h empty = counted_set is_some xs i (Some x) None h empty refl

pub flags_at_most : (flags : List Bool) → count_true flags ≤ length flags
unfolding count_true
flags_at_most flags = count_by-le-length (λ flag. flag) flags

-- a list of one value alone holds it everywhere, and past its end too
pub all_alike : {A : Type 0} (a : A) (n k : ℕ) → get_or (replicate n a) k a ≡ a
all_alike a zero k = refl
all_alike a (suc n) zero = refl
all_alike a (suc n) (suc k) = all_alike a n k
