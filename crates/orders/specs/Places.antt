-- The places that there are.
use Rattle.std.specs.Prelude.{◌≡◌, ℕ, true, false, Option, MatchOption}
use Rattle.orders.specs.declared.place.Place.{Place}
use Rattle.orders.specs.Tills.{is_place}

-- the place with a number, or none where there is no such place
abbrev pub Numbered : ℕ → Option Place → Type 0
Numbered number place = MatchOption place (is_place number ≡ false) (λ p. (is_place number ≡ true) × (p.number ≡ number))
