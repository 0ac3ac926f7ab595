-- Where one with a number, counted from 1, stands in a list that is counted from 0.
use Rattle.std.specs.Prelude.{◌≡◌, ℕ, ◌+◌, ◌<◌, ◌≤◌, ◌⊎◌}

-- the list has none with this number
abbrev pub IsOutside : ℕ → ℕ → Type 0
IsOutside number count = (number ≡ 0) ⊎ (count < number)

abbrev pub StandsAt : ℕ → ℕ → ℕ → Type 0
StandsAt number count index = (index + 1 ≡ number) × (number ≤ count)
