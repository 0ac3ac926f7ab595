use Rattle.std.proofs.Common.{◌≡◌, ◌+◌, ◌*◌, ◌≤◌, ◌++◌}
use Rattle.arrayvec.specs.ArrayString.{array_string_len}
use Rattle.sheet.specs.Limits.{bill_limit}
use Rattle.sheet.specs.Text.{lines, licensee_text}
use Rattle.sheet.proofs.text.push_licensees.Given as goal

abbrev pub invariant-loop-k : goal.invariant-loop-k
invariant-loop-k l =
    (l.text.bytes ≡ l.initial.text.bytes ++ lines (licensee_text l.sheet) l.k) × (array_string_len l.text ≤ array_string_len l.initial.text + l.k * bill_limit)
