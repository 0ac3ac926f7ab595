-- The case that a closing has in hand, and what it looks for in it.
use Rattle.std.specs.Prelude.{ℕ, ◌-◌, ◌<◌, ◌≤◌, Bool, true, false, Option, MatchOption}
use Rattle.methodology.specs.declared.rules.Methodology.{Ghosts}
use Rattle.accounts.specs.Rules.{rules_of}
use Rattle.accounts.specs.Sums.{First, Never}
use Rattle.settlement.specs.Closing.{Case as Seen, case_of, heads}
use Rattle.closing.specs.declared.case.Case.{Case}

-- by the meaning of its methodology
abbrev pub shows : {M : Type 0} {methodology : Ghosts M} → Case M methodology → Seen
shows {methodology = methodology} c =
    case_of (rules_of methodology.shape (methodology.meaning c.methodology.now)) c.books.now c.rates.now c.revenues.now.yearly c.number c.month.now

-- the answer of a test over all heads: it fails at none, or first at the head with this number
abbrev pub Searched : Seen → (Seen → ℕ → Type 0) → Option ℕ → Type 0
Searched c P head = MatchOption head (Never (P c) (heads c)) (λ h. First (P c) (heads c) h)

-- the same by what a test said of the heads: no of each, or yes of the head with this number and no of those before
pub record Told (said : ℕ → Bool → Type 0) (heads : ℕ) (head : Option ℕ) : Type 0 where
  pub first : MatchOption head ((k : ℕ) → k < heads → said k false) (λ h. (1 ≤ h) × (h ≤ heads) × said (h - 1) true × ((k : ℕ) → k < h - 1 → said k false))
