-- What is said of a head of a case, and of findings.
use Rattle.std.specs.Prelude.{ℕ, ◌+◌, ◌<◌, ◌≤◌, slice_index}
use Rattle.methodology.specs.declared.rules.Methodology.{Ghosts}
use Rattle.methodology.specs.Meaning.{OneToTwo}
use Rattle.accounts.specs.Limits.{carry_limit}
use Rattle.settlement.specs.Closing.{Case, quantity, sent}
use Rattle.closing.specs.declared.head.CaseHead.{CaseHead}
use Rattle.closing.specs.declared.findings.Findings.{Findings}
use Rattle.closing.specs.Cases.{shows}

-- a figure of the head, or a claim
abbrev pub at_head {ℓ} : {A : Type ℓ} {M : Type 0} {m : Ghosts M} → (Case → ℕ → A) → CaseHead M m → A
at_head f h = f (shows h.case.now) h.k

-- the case that findings are of
abbrev pub seen_in : {M : Type 0} {m : Ghosts M} → Findings M m → Case
seen_in f = shows f.case.now

-- the pool of an interval has no share in it
abbrev pub Shareless : Case → ℕ → ℕ → Type 0
Shareless c k pool = c.rules.revenues < k → pool ≤ slice_index c.month.income k + carry_limit

-- an interval delivers, and the energy sent in is from one to two times that
abbrev pub WellSupplied : Case → ℕ → Type 0
WellSupplied c k = (c.rules.revenues < k) × (0 < quantity c k) × OneToTwo (quantity c k) (sent c k)
