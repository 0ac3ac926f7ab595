-- The numbers of faults and refusals, and how they are written.
use Rattle.std.specs.Prelude.{ℕ, List, ◌++◌, codes, decimal}
use Rattle.agreements.specs.declared.fault.Cause.{Cause}
use Rattle.agreements.specs.declared.fault.Cause.TheVariants.{Contract, Ceiling}
use Rattle.agreements.specs.declared.fault.Fault.{Fault}

-- each cause's number
abbrev pub cause_number : Cause → ℕ
cause_number Contract = 1
cause_number Ceiling = 2

-- an agreement is not made, because one of its figures is too large
abbrev pub over_limit_number : ℕ
over_limit_number = 2

-- cause 1 layer 0
abbrev pub fault_text : Fault → List ℕ
fault_text e = codes "cause " ++ (decimal (cause_number e.cause) ++ (codes " layer " ++ decimal e.layer))

abbrev pub over_limit_text : List ℕ
over_limit_text = codes "over its limit"
