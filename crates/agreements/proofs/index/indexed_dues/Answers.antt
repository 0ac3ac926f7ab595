use Rattle.std.proofs.Common.{sum, rules, ap, arith}
use Rattle.agreements.specs.Indexes.{scaled, capped}
use Rattle.agreements.specs.lemmas.Indexing.{capped_over_capacity, capped_over_blocks, capped_in_limits}
use Rattle.agreements.proofs.Arrays.{mapped}
use Rattle.agreements.proofs.index.indexed_dues.Goals.{then-capacity_due-limit-via-then-capacity_due-limit, then-capacity_due-limit-via-else-capacity_due-limit+then-block_sum-limit}
use Rattle.agreements.proofs.index.indexed_dues.Goals as goal

pub returns-then-capacity_due-limit : goal.returns-then-capacity_due-limit
returns-then-capacity_due-limit c =
    let f = c.args.factor.ppm in
    let d = c.args.dues.now in
    let e = mapped _ (λ x. capped (scaled f x)) _ (λ x y q k. search rules) _ _ _ c.map.ensures.items (omega arith) in
    elim c.then-capacity_due-limit.branch [
      | then-capacity_due-limit-via-then-capacity_due-limit w ↦ capped_over_capacity c.args.layer f d (omega arith)
      | then-capacity_due-limit-via-else-capacity_due-limit+then-block_sum-limit w ↦ capped_over_blocks c.args.layer f d (omega (arith, ap sum e))
    ]

pub returns : goal.returns
returns c =
    let f = c.args.factor.ppm in
    let d = c.args.dues.now in
    let e = mapped _ (λ x. capped (scaled f x)) _ (λ x y q k. search rules) _ _ _ c.map.ensures.items (omega arith) in
    let is = capped_in_limits c.args.layer f d (omega arith) (omega (arith, ap sum e)) in
    search rules
