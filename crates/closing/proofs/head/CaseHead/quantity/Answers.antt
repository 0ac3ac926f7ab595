use Rattle.std.proofs.Common.{◌≡◌, ℕ, sym, arith, rules}
use Rattle.std.proofs.lemmas.List.{get_or_read}
use Rattle.accounts.proofs.Sums.{sum_none, sum_next}
use Rattle.accounts.specs.Months.{licensee_at, taken}
use Rattle.closing.proofs.head.CaseHead.quantity.Goals as goal

pub loop-licensee-init : goal.loop-licensee-init
loop-licensee-init g c = (sym (sum_none (λ i. taken (licensee_at c.args.self.now.case.now.month.now i) c.args.self.now.k)), omega arith)

pub loop-licensee-preserved : goal.loop-licensee-preserved
loop-licensee-preserved g c =
    let f : ℕ → ℕ = λ i. taken (licensee_at c.args.self.now.case.now.month.now i) c.args.self.now.k in
    let e : c.taken_by-sum.result ≡ f c.loop-licensee.licensee-index = search (rules, get_or_read) in
    (omega (arith, e, sum_next f c.loop-licensee.licensee-index, c.loop-licensee.invariant.0), omega (arith, c.loop-licensee.invariant.1, c.taken_by-sum.ensures.most))
