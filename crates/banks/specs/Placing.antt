-- The places of a list.
use Rattle.std.specs.Prelude.{◌≡◌, ℕ, ◌+◌, ◌<◌, ◌≤◌, ◌⊎◌, List, [], ◌∷◌, ◌++◌, length, Ok, Err, Result}
use Rattle.banks.specs.declared.listed.Unplaced.{Unplaced}
use Rattle.banks.specs.declared.listed.Unplaced.TheVariants.{Full, NoMemory}
use Rattle.banks.specs.declared.refusal.BankRefusal.{BankRefusal}
use Rattle.banks.specs.declared.refusal.BankRefusal.TheVariants.{NoPlace}
use Rattle.metering.specs.Limits.{place_limit}

-- it takes the next place; where every place is taken, or for want of memory, the list stays and it comes back
abbrev pub Places : {X : Type 0} → List X → X → Result (Unit {0}) (Unplaced X) → List X → Type 0
Places before x (Ok _) after = (length before < place_limit) × (after ≡ before ++ (x ∷ []))
Places before x (Err (Full y)) after = (length before ≡ place_limit) × (after ≡ before) × (y ≡ x)
Places before x (Err (NoMemory y)) after = (length before < place_limit) × (after ≡ before) × (y ≡ x)

-- where the agreement of a place stands among so many; place 0 and those past the last are lacking
abbrev pub IsIndex : ℕ → ℕ → Result ℕ BankRefusal → Type 0
IsIndex count place (Ok i) = (i + 1 ≡ place) × (place ≤ count)
IsIndex count place (Err e) = ((place ≡ 0) ⊎ (count < place)) × (e ≡ NoPlace)
