-- The worked adjustment, and the worked closing of an interval.
use Rattle.std.proofs.Common.{ap, ◌∙◌}
use Rattle.std.proofs.lemmas.Bool.{lt-leb}
use Rattle.tariffs.specs.Publishing.{adjustment_at, per_unit}
use Rattle.rates.specs.Heads.{rates_at}
use Rattle.accounts.specs.Rules.{Rules}
use Rattle.settlement.specs.Closing.{quantity, supply, spread, margin, actual, carry}
use Rattle.worked_cases.specs.Adjustment.{WorkedAdjustment}
use Rattle.worked_cases.specs.Closing.{WorkedClosing}

pub adjustment : WorkedAdjustment
unfolding adjustment_at per_unit
adjustment shape filing number quantity interest = simp (quantity, interest)

pub closing : WorkedClosing
unfolding supply margin actual carry spread
closing c k g =
    let interval = lt-leb k c.rules.revenues g.interval in
    let supplied = ap (λ s. c.rules.allowed s (quantity c k) (rates_at c.rates k).factor) g.sent_is ∙ ap (λ q. c.rules.allowed 30 q (rates_at c.rates k).factor) g.delivered_is ∙ ap (λ f. c.rules.allowed 30 28 f) g.factor_is ∙ ap (λ (r : Rules). r.allowed 30 28 50000) g.market in
    record {
      supply_is = supplied;
      margin_is = simp (interval, supplied, g.unit_is, g.sent_is);
      rate_is = simp (interval, supplied, g.unit_is, g.rest_is, g.delivered_is);
      carry_is = simp (interval, supplied, g.unit_is, g.rest_is, g.delivered_is);
    }
