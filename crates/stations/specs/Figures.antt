-- What filed figures stand for, and which are within their limits.
use Rattle.std.specs.Prelude.{ℕ, Bool, List, Result}
use Rattle.agreements.specs.declared.fault.OverLimit.{OverLimit}
use Rattle.agreements.specs.Making.{Makes}
use Rattle.agreements.specs.Meaning.{Meaning}
use Rattle.agreements.specs.TwoParts.{two_part, two_part_fits}
use Rattle.agreements.specs.Quotas.{quota_at, quota_fits}
use Rattle.stations.specs.declared.base.Base.{Base}
use Rattle.stations.specs.declared.figures.BaseFigures.{BaseFigures}
use Rattle.stations.specs.declared.figures.BaseFigures.TheVariants.{TwoPart, Quota}
use Rattle.stations.specs.declared.station.Station.{Station}
use Rattle.stations.specs.Layers.{base_meaning, layered, station_meaning}

abbrev pub figured : BaseFigures → Meaning
figured (TwoPart contracted capacity energy) = two_part contracted capacity energy
figured (Quota left first second) = quota_at left first second

abbrev pub figures_fit : BaseFigures → Bool
figures_fit (TwoPart contracted capacity energy) = two_part_fits contracted capacity energy
figures_fit (Quota left first second) = quota_fits left first second

-- the agreement that figures stand for, or the refusal where one is over its limit
abbrev pub MakesBase : BaseFigures → Result Base OverLimit → Type 0
MakesBase figures = Makes (figures_fit figures) base_meaning (figured figures)

-- the same under a layer for each factor
abbrev pub MakesStation : BaseFigures → List ℕ → Result Station OverLimit → Type 0
MakesStation figures factors =
    Makes (figures_fit figures) station_meaning (layered factors (figured figures))
