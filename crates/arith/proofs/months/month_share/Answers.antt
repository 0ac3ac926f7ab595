use Rattle.std.proofs.Common.{◌≡◌, ℕ, ◌+◌, ◌*◌, ◌/◌, ◌%◌, ap, arith}
use Rattle.arith.proofs.Shares.{shares_add_up, share_by_parts}
use Rattle.arith.proofs.months.month_share.Goals as goal

pub returns-clause-value : goal.returns-clause-value
returns-clause-value c =
    let yearly = c.args.yearly in
    let p = c.unwrap-each.result in
    let parts : p ≡ (yearly / 12, yearly % 12) = cc in
    let whole : yearly ≡ p.0 * 12 + p.1 = omega (arith, ap (λ (p : ℕ × ℕ). p.0) parts, ap (λ (p : ℕ × ℕ). p.1) parts) in
    omega (arith, share_by_parts yearly p.0 p.1 c.args.month whole (omega arith))

pub returns-clause-whole : goal.returns-clause-whole
returns-clause-whole c = shares_add_up c.args.yearly

pub returns-then-month-eq0-clause-whole : goal.returns-then-month-eq0-clause-whole
returns-then-month-eq0-clause-whole c = shares_add_up c.args.yearly
