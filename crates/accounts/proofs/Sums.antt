-- The laws of sums.
use Rattle.std.proofs.Common.{◌≡◌, ℕ, zero, suc, ◌+◌, ◌*◌, ◌<◌, ◌≤◌, cond, eqb, leb, ℤ, pos, ◌+ℤ◌, sym, refl, add-zero, add-suc, suc-mul, mul-zero, mul-add, add-one, arith}
use Rattle.std.proofs.lemmas.Int.{ints}
use Rattle.std.proofs.lemmas.Bool.Decides.{nat_tests}
use Rattle.accounts.specs.Sums.{sum_to, sum_toℤ}

pub sum_none : (f : ℕ → ℕ) → sum_to f 0 ≡ 0
unfolding sum_to
sum_none f = refl

pub sum_next : (f : ℕ → ℕ) (n : ℕ) → sum_to f (n + 1) ≡ sum_to f n + f n
unfolding sum_to
sum_next f n = rw (add-one n)

pub sumℤ_none : (f : ℕ → ℤ) → sum_toℤ f 0 ≡ pos 0
unfolding sum_toℤ
sumℤ_none f = refl

pub sumℤ_next : (f : ℕ → ℤ) (n : ℕ) → sum_toℤ f (n + 1) ≡ sum_toℤ f n +ℤ f n
unfolding sum_toℤ
sumℤ_next f n = rw (add-one n)

pub sum_same : (f g : ℕ → ℕ) (n : ℕ) → ((k : ℕ) → k < n → f k ≡ g k) → sum_to f n ≡ sum_to g n
unfolding sum_to
sum_same f g zero h = refl
sum_same f g (suc n) h = omega (arith, sum_same f g n (λ k p. h k (omega arith)), h n (omega arith))

pub sumℤ_same : (f g : ℕ → ℤ) (n : ℕ) → ((k : ℕ) → k < n → f k ≡ g k) → sum_toℤ f n ≡ sum_toℤ g n
unfolding sum_toℤ
sumℤ_same f g zero h = refl
sumℤ_same f g (suc n) h = let r = sumℤ_same f g n (λ k p. h k (omega arith)) in let e = h n (omega arith) in omega (arith, ints)

pub sum_add : (f g : ℕ → ℕ) (n : ℕ) → sum_to (λ k. f k + g k) n ≡ sum_to f n + sum_to g n
unfolding sum_to
sum_add f g zero = refl
sum_add f g (suc n) = omega (arith, sum_add f g n)

pub sum_zero : (n : ℕ) → sum_to (λ k. 0) n ≡ 0
unfolding sum_to
sum_zero zero = refl
sum_zero (suc n) = omega (arith, sum_zero n)

pub sum_scale : (a : ℕ) (f : ℕ → ℕ) (n : ℕ) → sum_to (λ k. a * f k) n ≡ a * sum_to f n
unfolding sum_to
sum_scale a f zero = sym (mul-zero a)
sum_scale a f (suc n) = omega (arith, sum_scale a f n, mul-add a (sum_to f n) (f n))

pub sum_swap : (f : ℕ → ℕ → ℕ) (m n : ℕ) → sum_to (λ k. sum_to (f k) m) n ≡ sum_to (λ l. sum_to (λ k. f k l) n) m
unfolding sum_to
sum_swap f m zero = sym (sum_zero m)
sum_swap f m (suc n) = omega (arith, sum_swap f m n, sum_add (λ l. sum_to (λ k. f k l) n) (f n) m)

pub sum_split : (f : ℕ → ℕ) (a b : ℕ) → sum_to f (a + b) ≡ sum_to f a + sum_to (λ k. f (a + k)) b
unfolding sum_to
sum_split f a zero = rw (add-zero a) (omega arith)
sum_split f a (suc b) = rw (add-suc a b) (omega (arith, sum_split f a b))

pub sum_le : (f : ℕ → ℕ) (b n : ℕ) → ((k : ℕ) → k < n → f k ≤ b) → sum_to f n ≤ n * b
unfolding sum_to
sum_le f b zero h = omega arith
sum_le f b (suc n) h = omega (arith, sum_le f b n (λ k p. h k (omega arith)), h n (omega arith), suc-mul n b)

-- a sum where one number alone counts
sum_one : (i e x : ℕ) → 1 ≤ i → sum_to (λ k. cond (eqb i (suc k)) x 0) e ≡ cond (leb i e) x 0
unfolding sum_to
sum_one i zero x h = grind (arith, nat_tests)
sum_one i (suc e) x h = let r = sum_one i e x h in grind (arith, nat_tests)

pub sum_place : (i e x : ℕ) → 1 ≤ i → i ≤ e → sum_to (λ k. cond (eqb i (suc k)) x 0) e ≡ x
sum_place i e x h p = let r = sum_one i e x h in grind (arith, nat_tests)
