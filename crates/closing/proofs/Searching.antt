-- What a search over heads found, in the words of the rules.
use Rattle.std.proofs.Common.{◌≡◌, ℕ, ◌-◌, ◌<◌, Bool, true, false, Some, None, Option, MatchOption, arith}
use Rattle.accounts.specs.Sums.{First, Never}
use Rattle.closing.specs.Cases.{Told}

-- where the test says of each head whether P holds there
pub searched : (said : ℕ → Bool → Type 0) (n : ℕ) (head : Option ℕ) → Told said n head → (P : ℕ → Type 0) (heads : ℕ) → n ≡ heads → ((k : ℕ) → k < heads → (said k true → P k) × (said k false → P k → ⊥)) → MatchOption head (Never P heads) (λ h. First P heads h)
searched said n None t P heads e says = λ k p. (says k p).1 (t.first k (omega (arith, e)))
searched said n (Some h) t P heads e says =
    record {
      counted = t.first.0;
      within = omega (arith, e, t.first.1);
      here = (says (h - 1) (omega (arith, e, t.first.0, t.first.1))).0 t.first.2;
      before = λ k p. (says k (omega (arith, e, p, t.first.1))).1 (t.first.3 k p);
    }
