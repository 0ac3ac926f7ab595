-- The numbers of a bank's refusals, and how they are written.
use Rattle.std.specs.Prelude.{ℕ, List, [], ◌++◌, codes, decimal}
use Rattle.agreements.specs.Faults.{fault_text}
use Rattle.banks.specs.declared.refusal.BankRefusal.{BankRefusal}
use Rattle.banks.specs.declared.refusal.BankRefusal.TheVariants.{NoPlace, Fault}

-- each refusal's number; an agreement's own fault tells its cause and its layer besides
abbrev pub number_of : BankRefusal → ℕ
number_of NoPlace = 8
number_of (Fault f) = 10

-- an agreement's own fault, behind the number
abbrev pub inner_text : BankRefusal → List ℕ
inner_text NoPlace = []
inner_text (Fault f) = codes " " ++ fault_text f

-- refused 10 cause 1 layer 0
abbrev pub refusal_text : BankRefusal → List ℕ
refusal_text e = codes "refused " ++ (decimal (number_of e) ++ inner_text e)
