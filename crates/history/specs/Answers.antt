-- What an answer holds.
use Rattle.std.specs.Prelude.{Some, None, Option}
use Rattle.accounts.specs.declared.sheet.Sheet.{Sheet}
use Rattle.ledger.specs.declared.refusal.Refusal.{Refusal}
use Rattle.history.specs.declared.answer.Answer.{Answer}
use Rattle.history.specs.declared.answer.Answer.TheVariants.{Closed, Refused}

-- the refusal of a call that was refused
abbrev pub refusal_of : Answer → Option Refusal
refusal_of (Refused why) = Some why
refusal_of _ = None

-- the sheet of a month that was closed
abbrev pub sheet_of : Answer → Option Sheet
sheet_of (Closed s) = Some s
sheet_of _ = None
