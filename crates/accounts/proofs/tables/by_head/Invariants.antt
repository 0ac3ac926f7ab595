use Rattle.std.proofs.Common.{◌≡◌, ℕ, ◌<◌, length, get_or}
use Rattle.methodology.specs.Limits.{head_limit}
use Rattle.accounts.specs.Tables.{under_to}
use Rattle.accounts.proofs.tables.by_head.Given as goal

abbrev pub invariant-loop-block : goal.invariant-loop-block
invariant-loop-block g l =
    (length l.all ≡ head_limit) × ((k : ℕ) → k < head_limit → get_or l.all k 0 ≡ under_to g.M.Methodology.shape.revenues (g.M.Methodology.meaning l.m).interval l.first l.others l.blocks l.block k)
