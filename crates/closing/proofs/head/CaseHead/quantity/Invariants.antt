use Rattle.std.proofs.Common.{◌≡◌, ◌*◌, ◌≤◌}
use Rattle.metering.specs.Limits.{reading_limit}
use Rattle.accounts.specs.Sums.{sum_to}
use Rattle.accounts.specs.Months.{licensee_at, taken}
use Rattle.closing.proofs.head.CaseHead.quantity.Given as goal

abbrev pub invariant-loop-licensee : goal.invariant-loop-licensee
invariant-loop-licensee g l = (l.sum ≡ sum_to (λ i. taken (licensee_at l.self.case.now.month.now i) l.self.k) l.licensee-index) × (l.sum ≤ reading_limit * l.licensee-index)
