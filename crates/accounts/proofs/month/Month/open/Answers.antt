use Rattle.std.proofs.Common.{◌≡◌, ℕ, ◌-◌, false, get_or, replicate, None, Option, refl, ◌∙◌, arith}
use Rattle.metering.specs.Limits.{place_limit, licensee_limit}
use Rattle.methodology.specs.Limits.{head_limit}
use Rattle.accounts.specs.declared.delivery.Delivery.{Delivery}
use Rattle.accounts.specs.Counts.{count_true, count_some}
use Rattle.accounts.proofs.Sums.{sum_same, sum_zero}
use Rattle.accounts.proofs.Counting.{all_alike}
use Rattle.accounts.proofs.month.Month.open.Goals as goal

zeros : (k : ℕ) → get_or {A = ℕ} (replicate head_limit 0) k 0 ≡ 0
zeros = all_alike {A = ℕ} 0 head_limit

pub invariant_of-result : goal.invariant_of-result
invariant_of-result c =
    let none = sum_same (λ k. get_or {A = ℕ} (replicate head_limit 0) k 0) (λ k. 0) head_limit (λ k h. zeros k) ∙ sum_zero head_limit in
    record {
      headed = refl;
      metered = refl;
      full = refl;
      listed = refl;
      earned = λ k h. omega (arith, zeros k);
      whole = omega (arith, none);
      supplied = λ k h. omega (arith, zeros k);
    }

pub returns : goal.returns
unfolding count_true count_some
returns c =
    record {
      income = zeros;
      sent = zeros;
      read = λ place. all_alike false place_limit (place - 1);
      licensees = all_alike {A = Option Delivery} None licensee_limit;
      readings = refl;
      deliveries = refl;
    }
