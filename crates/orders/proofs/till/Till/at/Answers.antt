use Rattle.orders.proofs.Places.{money_there}
use Rattle.orders.proofs.till.Till.at.Goals as goal

pub returns : goal.returns
returns c = money_there c.args.self.now c.args.place.number _ c.index-self-index.result c.index.ensures c.args.place.there.1
