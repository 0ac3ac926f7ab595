-- The monthly shares of a year.
use Rattle.std.proofs.Common.{◌≡◌, ℕ, zero, suc, ◌+◌, ◌-◌, ◌*◌, ◌/◌, ◌≤◌, ap, ◌∙◌, mul_assoc, suc-mul, mul-add, arith, lit<}
use native.Mathlib.Nat.{mul-div_cancel_left}
use Rattle.arith.specs.Months.{share, shares_to}

shares_are : (yearly k : ℕ) → shares_to yearly k ≡ k * yearly / 12
unfolding shares_to
shares_are yearly zero = omega arith
shares_are yearly (suc k) =
    let e : suc k - 1 ≡ k = omega arith in
    rw e (omega (arith, shares_are yearly k, suc-mul k yearly))

pub shares_add_up : (yearly : ℕ) → shares_to yearly 12 ≡ yearly
shares_add_up yearly = shares_are yearly 12 ∙ mul-div_cancel_left yearly (lit< tt)

-- a share is the twelfth, rounded down or one more
pub about_a_twelfth : (yearly k : ℕ) → 1 ≤ k → (yearly / 12 ≤ share yearly k) × (share yearly k ≤ yearly / 12 + 1)
about_a_twelfth yearly zero h = absurd (omega arith)
about_a_twelfth yearly (suc k) h =
    let e : suc k - 1 ≡ k = omega arith in
    rw e (omega (arith, suc-mul k yearly), omega (arith, suc-mul k yearly))

-- a share by the parts of the year that divide evenly and those that do not
pub share_by_parts : (yearly each odd k : ℕ) → yearly ≡ each * 12 + odd → 1 ≤ k → share yearly k ≡ each + k * odd / 12 - (k - 1) * odd / 12
share_by_parts yearly each odd zero e h = absurd (omega arith)
share_by_parts yearly each odd (suc k) e h =
    let p : suc k - 1 ≡ k = omega arith in
    let m : k * yearly ≡ 12 * (k * each) + k * odd = ap (λ y. k * y) e ∙ mul-add k (each * 12) odd ∙ omega (arith, mul_assoc k each 12) in
    rw p (omega (arith, suc-mul k yearly, suc-mul k odd))

pub month_none : (yearly k : ℕ) → k ≡ 0 → 0 ≡ share yearly k
month_none yearly zero e = omega arith
month_none yearly (suc k) e = absurd (omega arith)
