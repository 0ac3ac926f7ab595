use Rattle.std.proofs.Common.{◌≡◌, ℕ, ◌<◌, List, ap, arith}
use Rattle.std.proofs.lemmas.Bool.Decides.{nat_tests}
use Rattle.settlement.specs.Closing.{share_of, share, pool}
use Rattle.closing.proofs.Bounds.{income_le}
use Rattle.closing.proofs.head.CaseHead.pool.Goals as goal

-- an interval has no share
no_share : (count number k : ℕ) (yearly : List ℕ) → count < k → share_of count yearly number k ≡ 0
no_share count number k yearly h = grind (arith, nat_tests)

pub overflow_add-result : goal.overflow_add-result
overflow_add-result g c = record { fits = omega (arith, income_le c.args.self.now.case.now.month.now c.args.self.now.k c.args.self.now.placed, c.share.ensures.most) }

pub overflow_add-result-2 : goal.overflow_add-result-2
overflow_add-result-2 g c = record { fits = omega (arith, income_le c.args.self.now.case.now.month.now c.args.self.now.k c.args.self.now.placed, c.share.ensures.most, c.account.result.carried) }

pub returns : goal.returns
unfolding pool share
returns g c =
    let v = c.args.self.now.case.now in
    let k = c.args.self.now.k in
    let in-carry = ap (λ a. a.carry) c.account.ensures in
    record {
      value = omega (arith, c.share.ensures.value, in-carry);
      most = omega (arith, income_le v.month.now k c.args.self.now.placed, c.share.ensures.most, c.account.result.carried);
      shareless = λ h. omega (arith, c.account.result.carried, c.share.ensures.value, no_share g.M.Methodology.shape.revenues v.number k v.revenues.now.yearly h);
    }
