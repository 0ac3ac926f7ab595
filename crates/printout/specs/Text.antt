-- The lines, each without its line feed.
use Rattle.std.specs.Prelude.{ℕ, List, ◌++◌, codes, decimal}
use Rattle.meter_files.specs.declared.refusal.FileRefusal.{FileRefusal}
use Rattle.meter_files.specs.Refusals.{file_refusal_text}
use Rattle.orders.specs.Refusals.{returned_number}
use Rattle.ledger.specs.Text.{refusal_text}
use Rattle.history.specs.declared.call.Call.{Call}
use Rattle.history.specs.declared.answer.Answer.{Answer}
use Rattle.history.specs.declared.answer.Answer.TheVariants.{Accepted, Metered, Closed, Drawn, Paid, Refused, Returned, Absent}
use Rattle.journal.specs.declared.verb.Verb.{Verb}
use Rattle.journal.specs.Verbs.{verb_text}
use Rattle.printout.specs.Words.{verb_of, subject_of, subject_text}

-- what was answered to a call about a subject, where so many orders are drawn
abbrev pub answer_text : ℕ → List ℕ → Answer → List ℕ
answer_text orders subject Accepted = codes "accepted" ++ subject
answer_text orders subject (Metered dues) = codes "accepted" ++ (subject ++ (codes " dues " ++ decimal dues))
answer_text orders subject (Closed sheet) = codes "accepted" ++ subject
answer_text orders subject (Drawn place cents) =
    codes "accepted" ++ (subject ++ (codes " order " ++ (decimal orders
    ++ (codes " place " ++ (decimal place ++ (codes " cents " ++ decimal cents))))))
answer_text orders subject (Paid place cents) = codes "accepted" ++ subject
answer_text orders subject (Refused why) = refusal_text why
answer_text orders subject Returned = codes "refused " ++ decimal returned_number
answer_text orders subject Absent = codes "absent" ++ subject

-- 4 meter accepted place 1 dues 5500000
abbrev pub line_text : ℕ → ℕ → Call → Answer → List ℕ
line_text number orders call answer =
    decimal number ++ (codes " " ++ (verb_text (verb_of call)
    ++ (codes " " ++ answer_text orders (subject_text (subject_of call)) answer)))

-- 13 meter refused 3 detail 9
abbrev pub file_text : ℕ → Verb → FileRefusal → List ℕ
file_text number verb why = decimal number ++ (codes " " ++ (verb_text verb ++ (codes " " ++ file_refusal_text why)))
