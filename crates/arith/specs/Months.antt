-- A yearly amount in monthly shares.
use Rattle.std.specs.Prelude.{ℕ, zero, suc, ◌+◌, ◌-◌, ◌*◌, ◌/◌, ◌≤◌}

abbrev pub months_of_year : ℕ
months_of_year = 12

-- The share of month k: what k months earn, less what k - 1 do.
abbrev pub share : ℕ → ℕ → ℕ
share yearly k = k * yearly / months_of_year - (k - 1) * yearly / months_of_year

-- The shares of the months 1 to k together.
unfoldable pub shares_to : ℕ → ℕ → ℕ
shares_to yearly zero = 0
shares_to yearly (suc k) = shares_to yearly k + share yearly (suc k)

-- A month's amount is no more than one away from the share of any month.
abbrev pub Even : ℕ → ℕ → Type 0
Even yearly amount = (k : ℕ) → 1 ≤ k → (amount ≤ share yearly k + 1) × (share yearly k ≤ amount + 1)
