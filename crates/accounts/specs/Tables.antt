-- Figures under the heads. Places of a table count from 0: generation, the revenues, the intervals.
use Rattle.std.specs.Prelude.{◌≡◌, ℕ, ◌-◌, ◌<◌, ◌≤◌, cond, List, if◌then◌else◌, ◌==◌, nat_eq, nat_le, slice_index}
use Rattle.metering.specs.Limits.{block_count}
use Rattle.methodology.specs.Limits.{head_limit}
use Rattle.accounts.specs.Rules.{Rules}
use Rattle.accounts.specs.Sums.{sum_to}

-- a table has f k at each index k
abbrev pub ByHead : List ℕ → (ℕ → ℕ) → Type 0
ByHead table f = (k : ℕ) → k < head_limit → slice_index table k ≡ f k

-- no figure of a table is over a limit
abbrev pub TableWithin : ℕ → List ℕ → Type 0
TableWithin limit table = (k : ℕ) → k < head_limit → slice_index table k ≤ limit

-- all of a table, added up
abbrev pub summed : List ℕ → ℕ
summed table = sum_to (λ k. slice_index table k) head_limit

-- all blocks of the day
unfoldable pub total : List ℕ → ℕ
total blocks = sum_to (λ b. slice_index blocks b) block_count

-- what block b puts into interval e
unfoldable pub part : (ℕ → ℕ) → List ℕ → ℕ → ℕ → ℕ
part interval blocks e b = cond (interval b == e) (slice_index blocks b) 0

-- at index k, with the first n blocks: `first` at generation, `others` at the revenues, at an interval the blocks that are in it
unfoldable pub under_to : ℕ → (ℕ → ℕ) → ℕ → ℕ → List ℕ → ℕ → ℕ → ℕ
under_to revenues interval first others blocks n k =
    cond (k == 0) first (cond (nat_le k revenues) others (sum_to (part interval blocks (k - revenues)) n))

abbrev pub under : ℕ → (ℕ → ℕ) → ℕ → ℕ → List ℕ → ℕ → ℕ
under revenues interval first others blocks k = under_to revenues interval first others blocks block_count k

abbrev pub under_by : Rules → ℕ → ℕ → List ℕ → ℕ → ℕ
under_by r first others blocks k = under r.revenues r.interval first others blocks k

-- the same before any block
abbrev pub under_demand : ℕ → ℕ → ℕ → ℕ → ℕ
under_demand revenues first others k = if nat_eq k 0 then first else (if nat_le k revenues then others else 0)
