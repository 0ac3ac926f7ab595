-- The words of a line: its verb, and whom or what the call is about.
use Rattle.std.specs.Prelude.{ℕ, List, [], ◌++◌, codes, decimal}
use Rattle.history.specs.declared.call.Call.{Call}
use Rattle.history.specs.declared.call.Call.TheVariants as call
use Rattle.history.specs.declared.call.Named.TheVariants.{Drawn as DrawnHere, Other as OfOthers}
use Rattle.history.specs.declared.spending.Spending.TheVariants as spending
use Rattle.journal.specs.declared.verb.Verb.{Verb}
use Rattle.journal.specs.declared.verb.Verb.TheVariants.{Year, Tariff, Meter, Deliver, Close, Draw, Release, Hold}
use Rattle.printout.specs.declared.subject.Subject.{Subject}
use Rattle.printout.specs.declared.subject.Subject.TheVariants.{Market, Place, Licensee, Order, Other}

-- the verb of each call
abbrev pub verb_of : Call → Verb
verb_of (call.Year given) = Year
verb_of (call.Tariff given) = Tariff
verb_of (call.Meter given) = Meter
verb_of (call.Deliver given) = Deliver
verb_of (call.Close stated) = Close
verb_of (call.Draw place) = Draw
verb_of (call.Present spending.Release which) = Release
verb_of (call.Present spending.Hold which) = Hold

-- a station's place, a licensee, an order of the house's own or of another; the other calls name nothing
abbrev pub subject_of : Call → Subject
subject_of (call.Meter given) = Place given.number
subject_of (call.Deliver given) = Licensee given.number
subject_of (call.Present how (DrawnHere number)) = Order number
subject_of (call.Present how (OfOthers number)) = Other number
subject_of _ = Market

abbrev pub subject_text : Subject → List ℕ
subject_text Market = []
subject_text (Place number) = codes " place " ++ decimal number
subject_text (Licensee number) = codes " licensee " ++ decimal number
subject_text (Order number) = codes " order " ++ decimal number
subject_text (Other number) = codes " other " ++ decimal number
