-- Rates, head by head. Places of a table count from 0: head 1 stands first.
use Rattle.std.specs.Prelude.{ℕ, slice_index_or}
use Rattle.std.proofs.Common.{lit≤}
use Rattle.rates.specs.declared.head_rates.HeadRates.{HeadRates}
use Rattle.rates.specs.declared.published.Rates.{Rates}

-- of a head that no tariff has set: every figure is 0
abbrev pub unset : HeadRates
unset = record { published = 0; base = 0; factor = 0; priced = lit≤ tt; based = lit≤ tt; filed = lit≤ tt }

-- of the head at index k
abbrev pub rates_at : Rates → ℕ → HeadRates
rates_at rates k = slice_index_or rates.heads k unset
