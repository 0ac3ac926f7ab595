use Rattle.std.proofs.Common.{◌≡◌, ◌^◌, pos, ◌-ℤ◌, ◌*ℤ◌, arith, to_z, of_z}
use mir.Syntax.{w128}
use mir.Val.{SFits}
use Rattle.std.proofs.lemmas.Int.{ints, to_z-of_z, unsigned_abs-mul, fits_signed_mul}
use Rattle.std.proofs.lemmas.Nat.{mul-le}
use Rattle.accounts.specs.Limits.{carry_limit}
use Rattle.closing.proofs.findings.difference_of.Goals as goal

-- the factors, as the code has them
quantity_is : (c : goal.After-from-3) → to_z w128 (of_z w128 c.from.result) ≡ pos c.args.quantity
quantity_is c = rw c.from.ensures (omega (arith, ints))

over_is : (c : goal.After-from-3) → to_z w128 (of_z w128 (to_z w128 (of_z w128 c.from-2.result) -ℤ to_z w128 (of_z w128 c.from-3.result))) ≡ pos c.args.actual -ℤ pos c.args.published
over_is c = rw (c.from-2.ensures, c.from-3.ensures) (omega (arith, ints))

fits : (c : goal.After-from-3) → SFits w128 (pos c.args.quantity *ℤ (pos c.args.actual -ℤ pos c.args.published))
fits c = fits_signed_mul w128 (pos c.args.quantity) (pos c.args.actual -ℤ pos c.args.published) carry_limit (2 ^ 64) c.requires (omega (arith, ints)) (omega arith)

pub overflow_mul-result : goal.overflow_mul-result
overflow_mul-result c = rw (quantity_is c, over_is c) (fits c)

pub returns-clause-value : goal.returns-clause-value
returns-clause-value c = rw (quantity_is c, over_is c) (to_z-of_z w128 _ (fits c))

pub returns-clause-size : goal.returns-clause-size
returns-clause-size c =
    rw (quantity_is c, over_is c) (rw (to_z-of_z w128 _ (fits c)) (rw (unsigned_abs-mul (pos c.args.quantity) (pos c.args.actual -ℤ pos c.args.published)) (mul-le c.args.quantity _ carry_limit (2 ^ 64) c.requires (omega (arith, ints)))))
