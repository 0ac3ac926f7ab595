-- How a house's refusal is written.
use Rattle.std.specs.Prelude.{ℕ, List, [], ◌++◌, Some, None, codes, decimal, Option}
use Rattle.agreements.specs.declared.fault.Fault.{Fault}
use Rattle.agreements.specs.Faults.{fault_text}
use Rattle.ledger.specs.declared.refusal.Refusal.{Refusal}
use Rattle.ledger.specs.Refusals.{number_of, head_of, fault_of}

-- the head that is named, or the agreement's own fault, or nothing
abbrev pub values_text : Option ℕ → Option Fault → List ℕ
values_text (Some head) fault = codes " head " ++ decimal head
values_text None (Some fault) = codes " " ++ fault_text fault
values_text None None = []

-- refused 10 cause 1 layer 0
abbrev pub refusal_text : Refusal → List ℕ
refusal_text why = codes "refused " ++ (decimal (number_of why) ++ values_text (head_of why) (fault_of why))
