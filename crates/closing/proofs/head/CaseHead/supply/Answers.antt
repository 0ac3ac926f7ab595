use Rattle.std.proofs.Common.{◌≡◌, arith}
use Rattle.settlement.specs.Closing.{supply}
use Rattle.closing.specs.Heads.{at_head}
use Rattle.closing.proofs.head.CaseHead.supply.Goals as goal

pub returns : goal.returns
unfolding supply
returns g c =
    let m = c.args.self.now.case.now.methodology.now in
    let told = c.allowed_supply.ensures c.sent.ensures.most (omega (arith, c.quantity.ensures.most)) c.rates.result.filed in
    let value : c.allowed_supply.result ≡ at_head supply c.args.self.now = rw c.rates.ensures at (rw c.quantity.ensures.value at (rw c.sent.ensures.value at told)) in
    let law = g.met.M.Methodology.supplied m _ _ _ (rw c.sent.ensures.value at c.sent.ensures.most) (rw c.rates.ensures at c.rates.result.filed) c.requires.2 in
    record { value = value; most = omega (arith, value, law, c.requires.2) }
