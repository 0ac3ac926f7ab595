use Rattle.std.proofs.Common.{◌≡◌, true, leb, refl, sym, ◌∙◌, arith}
use Rattle.std.proofs.lemmas.Int.{ints}
use Rattle.settlement.specs.Closing.{spread, margin}
use Rattle.closing.proofs.Discovery.{fitting, interval}
use Rattle.closing.proofs.head.CaseHead.spread.Goals as goal

pub interval_spread-requires : goal.interval_spread-requires
interval_spread-requires g c =
    let h = interval c.is_demand.result c.args.self.now.k g.M.Methodology.shape.revenues c.is_demand.ensures c.if-is_demand.false in
    (h, omega (arith, c.requires.some), fitting _ _ (λ n. c.requires.supplied (h, n)))

pub returns-then-is_demand : goal.returns-then-is_demand
unfolding spread margin
returns-then-is_demand g c =
    let t : leb c.args.self.now.k g.M.Methodology.shape.revenues ≡ true = sym c.is_demand.ensures ∙ c.if-is_demand.true in
    record { value = rw t c.pool.ensures.value; margin = rw t refl; modest = omega (arith, ints) }

pub returns : goal.returns
unfolding spread margin
returns g c =
    let t = sym c.is_demand.ensures ∙ c.if-is_demand.false in
    record { value = rw t c.interval_spread.ensures.value; margin = rw t c.interval_spread.ensures.margin; modest = c.interval_spread.ensures.modest }
