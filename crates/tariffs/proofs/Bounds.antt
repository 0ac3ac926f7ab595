-- The limits that a filing keeps when it fits.
use Rattle.std.proofs.Common.{◌≡◌, ℕ, ◌+◌, ◌<◌, ◌≤◌, true, ◌&&◌, leb, get_or}
use Rattle.std.proofs.lemmas.Bool.{and_parts, leb-true}
use Rattle.metering.specs.Verdict.{between}
use Rattle.methodology.specs.Limits.{factor_limit}
use Rattle.methodology.specs.declared.shape.Shape.{Shape}
use Rattle.tariffs.specs.declared.filed.Filed.{Filed}
use Rattle.tariffs.specs.declared.filing.Filing.{Filing}
use Rattle.tariffs.specs.declared.row.Row.{Row}
use Rattle.tariffs.specs.Limits.{cost_limit, peaks_limit, sent_limit, delivered_limit, coefficient_limit, interest_limit}
use Rattle.tariffs.specs.Rows.{row_fits}
use Rattle.tariffs.specs.Filing.{rows_fit, singles_fit, filing_fits}
use Rattle.tariffs.proofs.Ranges.{Between, between_facts, row_at}

-- each of the first n figures of a row lies between low and high
abbrev Each : ℕ → ℕ → ℕ → Row → Type 0
Each low high n row = (k : ℕ) → k < n → Between low high (get_or row.figures k 0)

pub record Kept (shape : Shape) (filing : Filing) : Type 0 where
  pub costs : Each 0 cost_limit (1 + shape.revenues) filing.costs
  pub delivered : Each 1 delivered_limit shape.intervals filing.delivered
  pub factors : Each 0 factor_limit shape.intervals filing.factors
  pub coefficients : Each 0 coefficient_limit shape.intervals filing.coefficients
  pub peaks : Between 1 peaks_limit filing.peaks
  pub energy : filing.energy_cost ≤ cost_limit
  pub sent : Between 1 sent_limit filing.sent
  pub interest : filing.interest ≤ interest_limit

kept : (shape : Shape) (filing : Filing) → filing_fits shape filing ≡ true → Kept shape filing
unfolding filing_fits rows_fit singles_fit
kept shape filing fits =
    let whole = and_parts (rows_fit shape filing) (singles_fit filing) fits in
    let costs = row_fits 0 cost_limit (1 + shape.revenues) filing.costs in
    let delivered = row_fits 1 delivered_limit shape.intervals filing.delivered in
    let factors = row_fits 0 factor_limit shape.intervals filing.factors in
    let coefficients = row_fits 0 coefficient_limit shape.intervals filing.coefficients in
    let peaks = between 1 peaks_limit filing.peaks in
    let energy = leb filing.energy_cost cost_limit in
    let sent = between 1 sent_limit filing.sent in
    let interest = leb filing.interest interest_limit in
    let rows = and_parts (costs && delivered && factors) coefficients whole.0 in
    let without-coefficients = and_parts (costs && delivered) factors rows.0 in
    let first = and_parts costs delivered without-coefficients.0 in
    let singles = and_parts (peaks && energy && sent) interest whole.1 in
    let without-interest = and_parts (peaks && energy) sent singles.0 in
    let begin = and_parts peaks energy without-interest.0 in
    record {
      costs = row_at 0 cost_limit (1 + shape.revenues) filing.costs first.0;
      delivered = row_at 1 delivered_limit shape.intervals filing.delivered first.1;
      factors = row_at 0 factor_limit shape.intervals filing.factors without-coefficients.1;
      coefficients = row_at 0 coefficient_limit shape.intervals filing.coefficients rows.1;
      peaks = between_facts 1 peaks_limit filing.peaks begin.0;
      energy = leb-true filing.energy_cost cost_limit begin.1;
      sent = between_facts 1 sent_limit filing.sent without-interest.1;
      interest = leb-true filing.interest interest_limit singles.1;
    }

-- what a filing that fits keeps
pub limits_of : (filed : Filed) → Kept filed.shape filed.filing
limits_of filed = kept filed.shape filed.filing filed.fitting
