use Rattle.std.proofs.Common.{refl}
use Rattle.orders.proofs.Places.{nothing_yet}
use Rattle.orders.proofs.till.Till.new.Goals as goal

pub returns : goal.returns
returns c = nothing_yet _ c.none.result refl c.none.ensures.0 c.none.ensures.1
