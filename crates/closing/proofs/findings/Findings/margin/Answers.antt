use Rattle.std.proofs.Common.{◌≡◌, ℕ, ◌+◌, ◌<◌, get_or, take, ℤ, sym, ap, ◌∙◌, arith, length-take}
use Rattle.std.proofs.lemmas.Int.{ints}
use Rattle.std.proofs.lemmas.List.{get_or-take, length-take-le}
use Rattle.accounts.proofs.Sums.{sum_next, sumℤ_none, sumℤ_next, sumℤ_same}
use Rattle.settlement.specs.Closing.{heads, margin}
use Rattle.closing.specs.Heads.{seen_in}
use Rattle.closing.specs.Findings.{finding_at, no_finding}
use Rattle.closing.proofs.Bounds.{whole_le}
use Rattle.closing.proofs.findings.Findings.margin.Given as given
use Rattle.closing.proofs.findings.Findings.margin.Goals as goal
use Rattle.closing.proofs.findings.Findings.margin.Goals.{In-loop-found}

pub loop-found-init : goal.loop-found-init
loop-found-init g c = (sym (sumℤ_none (λ k. (finding_at c.args.self.now.heads k).margin)), omega arith)

inside : (g : given.Over) (c : In-loop-found g) → c.loop-found.found-index < c.heads.result
inside g c = omega (arith, c.loop-found-test.true, length-take c.heads.result c.args.self.now.heads)

here : (g : given.Over) (c : In-loop-found g) → c.loop-found.found-index < heads (seen_in c.args.self.now)
here g c = omega (arith, inside g c, c.heads.ensures.value)

-- the margin of this turn is the head's
margin_is : (g : given.Over) (c : In-loop-found g) → (get_or (take c.heads.result c.args.self.now.heads) c.loop-found.found-index no_finding).margin ≡ (finding_at c.args.self.now.heads c.loop-found.found-index).margin
margin_is g c =
    ap (λ f. f.margin) (get_or-take c.heads.result c.args.self.now.heads c.loop-found.found-index no_finding (inside g c))

pub overflow_add-sum : goal.overflow_add-sum
overflow_add-sum g c =
    let place = (goal.at.overflow_add-sum g c).In-loop-found in
    let k = c.loop-found.found-index in
    let income : ℕ → ℕ = λ i. get_or c.args.self.now.case.now.month.now.income i 0 in
    let e = margin_is g place in
    let m = (c.args.self.now.found k (here g place)).modest in
    let n = sum_next income k in
    let w = whole_le c.args.self.now.case.now.month.now (k + 1) (omega (arith, inside g place, c.heads.ensures.few)) in
    let i = c.loop-found.invariant.1 in
    omega (arith, ints)

pub loop-found-preserved : goal.loop-found-preserved
loop-found-preserved g c =
    let place = (goal.at.loop-found-preserved g c).In-loop-found in
    let k = c.loop-found.found-index in
    let income : ℕ → ℕ = λ i. get_or c.args.self.now.case.now.month.now.income i 0 in
    let margins : ℕ → ℤ = λ i. (finding_at c.args.self.now.heads i).margin in
    let e = margin_is g place in
    let m = (c.args.self.now.found k (here g place)).modest in
    let n = sum_next income k in
    let z = sumℤ_next margins k in
    let w = whole_le c.args.self.now.case.now.month.now (k + 1) (omega (arith, inside g place, c.heads.ensures.few)) in
    let s = c.loop-found.invariant.0 in
    let i = c.loop-found.invariant.1 in
    (omega (arith, ints), omega (arith, ints))

pub returns : goal.returns
returns g c =
    let x = seen_in c.args.self.now in
    let all : c.loop-found.found-index ≡ heads x = omega (arith, c.loop-found-test.false, c.heads.ensures.value, length-take-le c.heads.result c.args.self.now.heads (omega (arith, c.heads.ensures.few))) in
    rw all at c.loop-found.invariant.0 ∙ sumℤ_same (λ k. (finding_at c.args.self.now.heads k).margin) (margin x) (heads x) (λ k p. (c.args.self.now.found k p).margin_is)
