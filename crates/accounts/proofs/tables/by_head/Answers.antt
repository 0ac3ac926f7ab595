use Rattle.std.proofs.Common.{◌≡◌, ◌+◌, ◌-◌, get_or, sym, ◌∙◌, arith, length-set}
use Rattle.metering.specs.Limits.{block_count}
use Rattle.accounts.specs.Tables.{total}
use Rattle.accounts.proofs.Sums.{sum_next}
use Rattle.accounts.proofs.Adding.{under_none, under_at, under_more, part_le, sum_upto}
use Rattle.accounts.proofs.tables.by_head.Goals as goal

pub loop-block-init : goal.loop-block-init
loop-block-init g c = (
  omega arith,
  λ k h. c.under_demand-all.ensures k h ∙ simp c.shape.ensures.revenues (sym (under_none g.M.Methodology.shape.revenues (g.M.Methodology.meaning c.args.m.now).interval c.args.first c.args.others c.args.blocks.now k)),
)

pub overflow_add-all : goal.overflow_add-all
unfolding total
overflow_add-all g c =
    let i = c.loop-block.block in
    let f = (g.M.Methodology.meaning c.args.m.now).interval in
    let r = g.M.Methodology.shape.revenues in
    let blocks = c.args.blocks.now in
    let here = g.met.M.Methodology.placed c.args.m.now i c.loop-block-test.true in
    let few = g.M.Methodology.shape.few in
    let at : c.head_of_block.result - 1 ≡ r + f i = omega (arith, c.head_of_block.ensures.value c.loop-block-test.true) in
    let old = under_at r f c.args.first c.args.others blocks i (f i) here.0 in
    let inv = c.loop-block.invariant.1 (r + f i) (omega (arith, here, few)) in
    rw at (record { fits = omega (arith, old, inv, part_le f blocks (f i) i, sum_next (λ b. get_or blocks b 0) i, sum_upto (λ b. get_or blocks b 0) (i + 1) block_count (omega arith), c.requires) })

pub loop-block-preserved : goal.loop-block-preserved
loop-block-preserved g c =
    let i = c.loop-block.block in
    let f = (g.M.Methodology.meaning c.args.m.now).interval in
    let r = g.M.Methodology.shape.revenues in
    let blocks = c.args.blocks.now in
    let here = g.met.M.Methodology.placed c.args.m.now i c.loop-block-test.true in
    let few = g.M.Methodology.shape.few in
    let at : c.head_of_block.result - 1 ≡ r + f i = omega (arith, c.head_of_block.ensures.value c.loop-block-test.true) in (
      length-set _ _ _ ∙ c.loop-block.invariant.0,
      λ k h. rw at (under_more r f c.args.first c.args.others blocks c.loop-block.all i c.loop-block.invariant.0 here.0 (omega (arith, here, few)) c.loop-block.invariant.1 k h),
    )
