-- The journal in a text: the first line that cannot be read, or else all that the lines say.
use Rattle.std.specs.Prelude.{◌≡◌, ℕ, ◌+◌, List, [], ◌∷◌, map, Some, None, Option, Ok, Err, Result}
use Rattle.agreements.specs.Meaning.{Meaning}
use Rattle.stations.specs.Layers.{station_meaning}
use Rattle.words.specs.Pieces.{lines, words, bare}
use Rattle.journal.specs.declared.expected.Expected.{Expected}
use Rattle.journal.specs.declared.expected.Expected.TheVariants.{MarketLine}
use Rattle.journal.specs.declared.unread.UnreadLine.{UnreadLine}
use Rattle.journal.specs.declared.unread.UnreadLine.TheVariants.{Lacks, NoMemory}
use Rattle.words.specs.declared.fault.LineFault.{LineFault}
use Rattle.journal.specs.declared.unread.Unread.{Unread}
use Rattle.journal.specs.declared.unread.Unread.TheVariants.{At, NoMemory as OutOf}
use Rattle.journal.specs.declared.market.Market.{Market}
use Rattle.journal.specs.declared.heading.Heading.{Heading}
use Rattle.journal.specs.declared.journal.Journal.{Journal}
use Rattle.journal.specs.Lines.{Note, note, Said, blank, with_words}

-- what a journal says: the market, the house's serial, what the station of each place means, and the calls with their lines
pub record Content : Type 0 where
  pub market : Market
  pub serial : ℕ
  pub places : List Meaning
  pub notes : List Note

abbrev pub content : Journal → Content
content j = record { market = j.market; serial = j.serial; places = map station_meaning j.stations.list.items; notes = map note j.entries.items }

-- the first line that cannot be read, and what was expected there
abbrev pub JournalFault : Type 0
JournalFault = LineFault Expected

-- the text's journal or its fault; want of memory promises nothing
abbrev pub Reads : Result Content JournalFault → Result Journal Unread → Type 0
Reads said (Ok j) = said ≡ Ok (content j)
Reads said (Err (At fault)) = said ≡ Err fault
Reads said (Err OutOf) = Unit {0}

-- a text is not read whose line is not read
abbrev pub unread_at : ℕ → UnreadLine → Unread
unread_at line (Lacks e) = At (record { line = line; expected = e })
unread_at line NoMemory = OutOf

abbrev pub by_heading : ℕ → Said → Option Heading → Result Content JournalFault
by_heading n s None = Err (record { line = n + 1; expected = MarketLine })
by_heading n s (Some h) = Ok (record { market = h.market; serial = h.serial; places = s.places; notes = s.notes })

-- after the last of n lines
abbrev pub finished : ℕ → Said → Result Content JournalFault
finished n s = by_heading n s s.heading

-- a line that is read, and then the others
abbrev pub goes_on : ℕ → Result Said Expected → (Said → Result Content JournalFault) → Result Content JournalFault
goes_on line (Ok s) others = others s
goes_on line (Err e) others = Err (record { line = line; expected = e })

-- the lines behind the first n
unfoldable pub read_on : ℕ → Said → List (List ℕ) → Result Content JournalFault
read_on n s [] = finished n s
read_on n s (line ∷ more) = goes_on (n + 1) (with_words s (n + 1) (words (bare line))) (λ t. read_on (n + 1) t more)

unfoldable pub journal_of : List ℕ → Result Content JournalFault
journal_of text = read_on 0 blank (lines text)
