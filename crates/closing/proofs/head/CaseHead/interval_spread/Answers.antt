use Rattle.std.proofs.Common.{◌≡◌, pos, ◌-ℤ◌, ◌*ℤ◌, refl, ◌∙◌, arith}
use Rattle.std.proofs.lemmas.Int.{ints}
use Rattle.settlement.specs.Closing.{unit, rest}
use Rattle.settlement.proofs.Products.{times_sub}
use Rattle.closing.specs.Heads.{at_head}
use Rattle.closing.proofs.Costs.{Priced, priced}
use Rattle.closing.proofs.head.CaseHead.interval_spread.Given as given
use Rattle.closing.proofs.head.CaseHead.interval_spread.Goals as goal

costs : (g : given.Over) (c : goal.After-supply g) → Priced c.pool.result c.sent-sent.result c.supply.result c.divided-unit.result.0 c.divided-unit.result.1
costs g c =
    priced c.pool.result c.sent-sent.result c.supply.result c.divided-unit.result.0 c.divided-unit.result.1 c.divided-unit.ensures.rate c.divided-unit.ensures.rest (omega (arith, c.supply.ensures.most, c.sent-sent.ensures.value))

unit_is : (g : given.Over) (c : goal.After-supply g) → c.divided-unit.result.0 ≡ at_head unit c.args.self.now
unfolding unit
unit_is g c = rw c.sent-sent.ensures.value at (rw c.pool.ensures.value at c.divided-unit.ensures.rate)

rest_is : (g : given.Over) (c : goal.After-supply g) → c.divided-unit.result.1 ≡ at_head rest c.args.self.now
unfolding rest
rest_is g c = rw c.sent-sent.ensures.value at (rw c.pool.ensures.value at c.divided-unit.ensures.rest)

pub overflow_mul-billed : goal.overflow_mul-billed
overflow_mul-billed g c = record { fits = omega (arith, costs g c, c.pool.ensures.most) }

pub overflow_add-result : goal.overflow_add-result
overflow_add-result g c = record { fits = omega (arith, costs g c, c.pool.ensures.most) }

pub overflow_cast-result-2 : goal.overflow_cast-result-2
overflow_cast-result-2 g c = let p = costs g c in omega (arith, ints, c.pool.ensures.most)

pub overflow_sub-result : goal.overflow_sub-result
overflow_sub-result g c = let p = costs g c in omega (arith, ints, c.pool.ensures.most)

pub returns-clause-value : goal.returns-clause-value
returns-clause-value g c = rw (unit_is g c, c.supply.ensures.value, rest_is g c) refl

pub returns-clause-margin : goal.returns-clause-margin
returns-clause-margin g c =
    let p = costs g c in
    let e = times_sub c.divided-unit.result.0 c.sent-sent.result c.supply.result in
    let same : _ ≡ pos c.divided-unit.result.0 *ℤ (pos c.sent-sent.result -ℤ pos c.supply.result) = omega (arith, ints, c.pool.ensures.most) in
    same ∙ rw (unit_is g c, c.sent-sent.ensures.value, c.supply.ensures.value) refl

pub returns-clause-modest : goal.returns-clause-modest
returns-clause-modest g c =
    let p = costs g c in
    let few = c.pool.ensures.shareless c.requires.0 in
    omega (arith, ints, c.pool.ensures.most)
