-- Sums over the first n numbers, and the first number at which something holds.
use Rattle.std.specs.Prelude.{ℕ, zero, suc, ◌+◌, ◌-◌, ◌<◌, ◌≤◌, ℤ, pos, ◌+ℤ◌}

-- f 0 + f 1 + .. + f (n - 1)
unfoldable pub sum_to : (ℕ → ℕ) → ℕ → ℕ
sum_to f zero = 0
sum_to f (suc n) = sum_to f n + f n

unfoldable pub sum_toℤ : (ℕ → ℤ) → ℕ → ℤ
sum_toℤ f zero = pos 0
sum_toℤ f (suc n) = sum_toℤ f n +ℤ f n

-- n is the first of the numbers 1 to most at which P holds, told of n - 1
pub record First (P : ℕ → Type 0) (most n : ℕ) : Type 0 where
  pub counted : 1 ≤ n
  pub within : n ≤ most
  pub here : P (n - 1)
  pub before : (k : ℕ) → k < n - 1 → P k → ⊥

-- P holds at none of them
abbrev pub Never : (ℕ → Type 0) → ℕ → Type 0
Never P n = (k : ℕ) → k < n → P k → ⊥
