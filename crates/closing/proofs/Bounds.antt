-- How much the readings of a month come to at most.
use Rattle.std.proofs.Common.{ℕ, ◌*◌, ◌<◌, ◌≤◌, get_or, le_refl, arith}
use Rattle.std.proofs.lemmas.Nat.{mul-le}
use Rattle.metering.specs.Limits.{place_limit, reading_limit}
use Rattle.methodology.specs.Limits.{head_limit, supply_limit}
use Rattle.agreements.specs.Limits.{due_limit}
use Rattle.accounts.specs.declared.month.Month.{Month}
use Rattle.accounts.specs.Counts.{count_true}
use Rattle.accounts.specs.Sums.{sum_to}
use Rattle.accounts.proofs.Adding.{sum_upto}
use Rattle.accounts.proofs.Counting.{flags_at_most}

-- no more readings than places
pub all_places : (m : Month) (limit : ℕ) → count_true m.read * limit ≤ place_limit * limit
all_places m limit = mul-le (count_true m.read) limit place_limit limit (omega (arith, flags_at_most m.read, m.full)) (le_refl limit)

pub income_le : (m : Month) (k : ℕ) → k < head_limit → get_or m.income k 0 ≤ place_limit * due_limit
income_le m k h = omega (arith, m.earned k h, all_places m due_limit)

pub sent_le : (m : Month) (k : ℕ) → k < head_limit → get_or m.sent k 0 ≤ supply_limit
sent_le m k h = omega (arith, m.supplied k h, all_places m reading_limit)

pub whole_le : (m : Month) (n : ℕ) → n ≤ head_limit → sum_to (λ k. get_or m.income k 0) n ≤ place_limit * (2 * due_limit)
whole_le m n h = omega (arith, sum_upto (λ k. get_or m.income k 0) n head_limit h, m.whole, all_places m (2 * due_limit))
