-- Two shapes with the same counts are one.
use Rattle.std.proofs.Common.{◌≡◌, ◌+◌, ◌≤◌}
use mathlib.Core.HLevel.{is_prop→PathP}
use denote.Struct.Props.{props}
use Rattle.methodology.specs.declared.shape.Shape.{Shape}
use Rattle.methodology.specs.Limits.{revenue_limit, head_limit}

pub same_shape : (s t : Shape) → s.revenues ≡ t.revenues → s.intervals ≡ t.intervals → s ≡ t
same_shape s t r e = λ i. record {
  revenues = r i;
  intervals = e i;
  most = is_prop→PathP (λ j. r j ≤ revenue_limit) (λ j. hlevel props) s.most t.most i;
  some = is_prop→PathP (λ j. 1 ≤ e j) (λ j. hlevel props) s.some t.some i;
  few = is_prop→PathP (λ j. 1 + r j + e j ≤ head_limit) (λ j. hlevel props) s.few t.few i;
}
