use Rattle.std.proofs.Common.{◌≡◌, ap, ◌∙◌, arith, w64, to_z, of_z}
use Rattle.std.proofs.lemmas.Int.{ints}
use Rattle.closing.specs.Cases.{shows}
use Rattle.closing.proofs.Settling.{line_is}
use Rattle.closing.proofs.findings.FoundHead.line.Goals as goal

pub returns : goal.returns
returns g c =
    let head = c.args.self.now.head in
    let a = c.account_after-account in
    let whole : to_z w64 (of_z w64 a.result.balance) ≡ a.result.balance = omega (arith, ints) in
    line_is (shows head.case.now) head.k _ _ _ _ c.args.self.now.found.actual_is (ap (λ r. r.published) c.rates.ensures) (whole ∙ a.ensures.balance_is) a.ensures.carry_is
