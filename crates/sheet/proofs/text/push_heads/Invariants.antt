use Rattle.std.proofs.Common.{◌≡◌, ◌+◌, ◌*◌, ◌≤◌, ◌++◌}
use Rattle.arrayvec.specs.ArrayString.{array_string_len}
use Rattle.sheet.specs.Limits.{line_limit}
use Rattle.sheet.specs.Text.{lines, head_text}
use Rattle.sheet.proofs.text.push_heads.Given as goal

abbrev pub invariant-loop-k : goal.invariant-loop-k
invariant-loop-k l =
    (l.text.bytes ≡ l.initial.text.bytes ++ lines (head_text l.sheet) l.k) × (array_string_len l.text ≤ array_string_len l.initial.text + l.k * line_limit)
