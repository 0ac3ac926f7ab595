use Rattle.orders.proofs.Places.{held_fits}
use Rattle.orders.proofs.till.Till.hold.Goals as goal

pub unwrap-requires : goal.unwrap-requires
unwrap-requires c = held_fits _ _ _ c.args.order _ _ _ _ c.in_ok-paid.ensures c.from.ensures c.from-2.ensures c.credit.ensures
