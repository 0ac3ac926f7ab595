use Rattle.std.proofs.Common.{ap, arith}
use Rattle.std.proofs.lemmas.Int.{ints}
use Rattle.closing.proofs.findings.FoundHead.account_after.Goals as goal

pub overflow_cast-result : goal.overflow_cast-result
overflow_cast-result g c =
    let e = c.balance.ensures in
    omega (arith, ints, c.requires)

pub returns : goal.returns
returns g c =
    let e = c.balance.ensures in
    let opened = ap (λ a. a.opening) c.account-account.ensures in
    let recalled = ap (λ a. a.before) c.account-account.ensures in
    record {
      balance_is = omega (arith, ints, c.requires);
      carry_is = c.args.self.now.found.carry_is;
      opening_is = omega (arith, ints, c.requires);
      before_is = omega (arith, ints, c.requires);
    }
