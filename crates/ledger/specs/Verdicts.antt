-- What the rules say of a call: it is accepted, or refused.
use Rattle.std.specs.Prelude.{Bool, cond, Ok, Err, Result}
use Rattle.banks.specs.declared.refusal.BankRefusal.{BankRefusal}
use Rattle.ledger.specs.declared.refusal.Refusal.{Refusal}
use Rattle.ledger.specs.Refusals.{of_bank}

pub data Verdict : Type 0 where
  accepted : Verdict
  refused : Refusal → Verdict

infixr 1 ◌and_then◌
-- what the first rule says, and where it accepts what the next one says
abbrev pub ◌and_then◌ : Verdict → Verdict → Verdict
◌and_then◌ accepted rest = rest
◌and_then◌ (refused why) rest = refused why

-- refused where the test fails
abbrev pub must : Bool → Refusal → Verdict
must test why = cond test accepted (refused why)

-- what a bank says of a reading
abbrev pub bank_says : Result (Unit {0}) BankRefusal → Verdict
bank_says (Ok _) = accepted
bank_says (Err e) = refused (of_bank e)

-- what an answer says
abbrev pub said : {A : Type 0} → Result A Refusal → Verdict
said (Ok _) = accepted
said (Err why) = refused why
