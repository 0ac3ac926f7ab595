-- What a station means: its bottom under each of its index layers in turn.
use Rattle.std.specs.Prelude.{ℕ, List, vec_items, fold}
use Rattle.agreements.specs.Meaning.{Meaning}
use Rattle.agreements.specs.TwoParts.{meaning_of_two_part}
use Rattle.agreements.specs.Quotas.{meaning_of_quota}
use Rattle.agreements.specs.Indexes.{counted, indexed}
use Rattle.stations.specs.declared.base.Base.{Base}
use Rattle.stations.specs.declared.base.Base.TheVariants.{TwoPart, Quota}
use Rattle.stations.specs.declared.station.Station.{Station}

abbrev pub base_meaning : Base → Meaning
base_meaning (TwoPart t) = meaning_of_two_part t
base_meaning (Quota q) = meaning_of_quota q

-- an agreement under a layer for each factor, the lowest first
abbrev pub layered : List ℕ → Meaning → Meaning
layered factors m = fold (λ below f. indexed (counted f) below) m factors

abbrev pub station_meaning : Station → Meaning
station_meaning s = layered (vec_items s.factors) (base_meaning s.base)
