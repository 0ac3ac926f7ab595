use Rattle.std.proofs.Common.{◌≡◌, ℕ, ◌*◌, ◌^◌, ◌≤◌, take}
use Rattle.std.specs.List.{sum_by}
use Rattle.statement.proofs.total.Total.of.Given as goal

abbrev pub invariant-loop-item : goal.invariant-loop-item
invariant-loop-item g l =
    goal.F-IsAlwaysCallable g l.amount
    × (l.sum ≤ 2 ^ 64 * l.item-index)
    × ((each : _ → ℕ) → ((x : _) (n : ℕ) → goal.F-post g l.amount x n → n ≡ each x.now) → l.sum ≡ sum_by each (take l.item-index l.items))
