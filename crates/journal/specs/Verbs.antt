-- The words with which calls begin.
use Rattle.std.specs.Prelude.{ℕ, List, [], ◌∷◌, Option, codes}
use Rattle.std.specs.List.{find}
use Rattle.std.specs.Str.{bytes_eq}
use Rattle.journal.specs.declared.verb.Verb.{Verb}
use Rattle.journal.specs.declared.verb.Verb.TheVariants.{Year, Tariff, Meter, Deliver, Close, Draw, Release, Hold}

abbrev pub verb_text : Verb → List ℕ
verb_text Year = codes "year"
verb_text Tariff = codes "tariff"
verb_text Meter = codes "meter"
verb_text Deliver = codes "deliver"
verb_text Close = codes "close"
verb_text Draw = codes "draw"
verb_text Release = codes "release"
verb_text Hold = codes "hold"

abbrev pub verbs : List Verb
verbs = Year ∷ Tariff ∷ Meter ∷ Deliver ∷ Close ∷ Draw ∷ Release ∷ Hold ∷ []

-- the verb that a word is
abbrev pub verb_of : List ℕ → Option Verb
verb_of word = find (λ verb. bytes_eq word (verb_text verb)) verbs
