-- Which tariffs are filed well: the counts fit the heads, and each figure keeps its limits.
use Rattle.std.specs.Prelude.{◌+◌, Bool, ◌&&◌, nat_le}
use Rattle.metering.specs.Verdict.{between}
use Rattle.methodology.specs.Limits.{factor_limit}
use Rattle.methodology.specs.declared.shape.Shape.{Shape}
use Rattle.tariffs.specs.declared.filing.Filing.{Filing}
use Rattle.tariffs.specs.Limits.{cost_limit, peaks_limit, sent_limit, delivered_limit, coefficient_limit, interest_limit}
use Rattle.tariffs.specs.Rows.{row_fits}

-- a cost for each demand head; energy to be delivered, loss factor and coefficient for each interval
unfoldable pub rows_fit : Shape → Filing → Bool
rows_fit shape filing =
    row_fits 0 cost_limit (1 + shape.revenues) filing.costs
    && row_fits 1 delivered_limit shape.intervals filing.delivered
    && row_fits 0 factor_limit shape.intervals filing.factors
    && row_fits 0 coefficient_limit shape.intervals filing.coefficients

-- the figures that are filed once
unfoldable pub singles_fit : Filing → Bool
singles_fit filing =
    between 1 peaks_limit filing.peaks
    && nat_le filing.energy_cost cost_limit
    && between 1 sent_limit filing.sent
    && nat_le filing.interest interest_limit

unfoldable pub filing_fits : Shape → Filing → Bool
filing_fits shape filing = rows_fit shape filing && singles_fit filing
