use Rattle.std.proofs.Common.{◌≡◌, ◌+◌, ◌*◌, ◌≤◌, get_or, nat_abs}
use Rattle.accounts.specs.Limits.{carry_limit}
use Rattle.accounts.specs.Sums.{sum_to, sum_toℤ}
use Rattle.closing.specs.Findings.{finding_at}
use Rattle.closing.proofs.findings.Findings.margin.Given as goal

abbrev pub invariant-loop-found : goal.invariant-loop-found
invariant-loop-found g l = (l.sum ≡ sum_toℤ (λ k. (finding_at l.self.heads k).margin) l.found-index) × (nat_abs l.sum ≤ sum_to (λ k. get_or l.self.case.now.month.now.income k 0) l.found-index + carry_limit * l.found-index)
