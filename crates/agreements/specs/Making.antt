-- What the making of an agreement answers.
use Rattle.std.specs.Prelude.{◌≡◌, Bool, true, false, Ok, Err, Result}
use Rattle.agreements.specs.declared.fault.OverLimit.{OverLimit}
use Rattle.agreements.specs.Meaning.{Meaning}

-- where the figures keep their limits, an agreement that means this; else the refusal
abbrev pub Makes : {A : Type 0} → Bool → (A → Meaning) → Meaning → Result A OverLimit → Type 0
Makes fits meaning-of meant (Ok a) = (fits ≡ true) × (meaning-of a ≡ meant)
Makes fits meaning-of meant (Err e) = fits ≡ false
