-- The worked case of an interval's closing in the two-interval market, by the definitions.
use Rattle.std.specs.Prelude.{◌≡◌, ℕ, ◌<◌, pos}
use Rattle.methodology.specs.Markets.{two_shape, two_meaning}
use Rattle.rates.specs.Heads.{rates_at}
use Rattle.accounts.specs.Rules.{rules_of}
use Rattle.settlement.specs.Closing.{Case, unit, rest, sent, quantity, supply, margin, actual, carry}

-- the head at place k is an interval's, with 30 kWh sent in, 28 delivered and 50,000 ppm of losses filed, and its pool gives 50,000 for each kWh sent in
pub record Given (c : Case) (k : ℕ) : Type 0 where
  pub market : c.rules ≡ rules_of two_shape two_meaning
  pub interval : c.rules.revenues < k
  pub unit_is : unit c k ≡ 50000
  pub rest_is : rest c k ≡ 0
  pub sent_is : sent c k ≡ 30
  pub delivered_is : quantity c k ≡ 28
  pub factor_is : (rates_at c.rates k).factor ≡ 50000

pub record Found (c : Case) (k : ℕ) : Type 0 where
  pub supply_is : supply c k ≡ 29
  pub margin_is : margin c k ≡ pos 50000
  pub rate_is : actual c k ≡ 51785
  pub carry_is : carry c k ≡ 20

abbrev pub WorkedClosing : Type 0
WorkedClosing = (c : Case) (k : ℕ) → Given c k → Found c k
