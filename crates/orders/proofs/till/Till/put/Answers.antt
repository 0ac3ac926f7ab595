use Rattle.std.proofs.Common.{refl}
use Rattle.orders.proofs.Places.{puts}
use Rattle.orders.proofs.till.Till.put.Goals as goal

pub returns : goal.returns
returns c = puts _ _ c.args.place.number _ c.args.money c.index.ensures c.args.place.there.1 refl refl
