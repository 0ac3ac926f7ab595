-- What each line of a journal says: the market, then the stations, then the calls.
use Rattle.std.specs.Prelude.{◌≡◌, ℕ, Bool, cond, ◌&&◌, List, [], ◌∷◌, ◌++◌, map, length, Some, None, Option, Ok, Err, Result, codes, ◌==◌, nat_lt}
use Rattle.std.specs.Str.{bytes_eq}
use Rattle.agreements.specs.Meaning.{Meaning}
use Rattle.metering.specs.Limits.{place_limit}
use Rattle.stations.specs.Layers.{station_meaning}
use Rattle.journal.specs.declared.draft.JournalDraft.{JournalDraft}
use Rattle.journal.specs.declared.entry.Entry.{Entry}
use Rattle.journal.specs.declared.market.Market.{Market}
use Rattle.journal.specs.declared.heading.Heading.{Heading}
use Rattle.journal.specs.declared.expected.Expected.{Expected}
use Rattle.journal.specs.declared.expected.Expected.TheVariants.{StationOrCall, AnyCall, NoStation}
use Rattle.journal.specs.declared.unread.UnreadLine.{UnreadLine}
use Rattle.journal.specs.declared.unread.UnreadLine.TheVariants.{Lacks, NoMemory}
use Rattle.journal.specs.Chain.{◌>>=◌, must}
use Rattle.journal.specs.Fields.{Words}
use Rattle.journal.specs.Headings.{heading_of}
use Rattle.journal.specs.Requests.{Asked, asked, request_of}
use Rattle.journal.specs.Places.{station_of}

-- a call and the number of its line
pub record Note : Type 0 where
  pub line : ℕ
  pub call : Asked

-- what lines have said: the market's heading, what the station of each place means, and the calls
pub record Said : Type 0 where
  pub heading : Option Heading
  pub places : List Meaning
  pub notes : List Note

abbrev pub note : Entry → Note
note e = record { line = e.line; call = asked e.request }

abbrev pub saying : JournalDraft → Said
saying d = record { heading = d.heading; places = map station_meaning d.stations.list.items; notes = map note d.entries.items }

abbrev pub blank : Said
blank = record { heading = None; places = []; notes = [] }

-- a line turns what was said into what is said; want of memory promises nothing
abbrev pub Turns : Result Said Expected → Result (Unit {0}) UnreadLine → Said → Type 0
Turns said (Ok _) after = said ≡ Ok after
Turns said (Err (Lacks e)) after = said ≡ Err e
Turns said (Err NoMemory) after = Unit {0}

abbrev pub no_calls : Said → Bool
no_calls s = length s.notes == 0

-- what a line may begin with, once the market is known
abbrev pub others : Said → Expected
others s = cond (no_calls s) StationOrCall AnyCall

unfoldable pub with_heading : Said → Words → Result Said Expected
with_heading s ws = do
  heading ← heading_of ws
  Ok (record { heading = Some heading; places = s.places; notes = s.notes })

-- the next place's station, while there is a place
unfoldable pub with_station : Said → Words → Result Said Expected
with_station s ws = do
  station ← station_of ws
  must (nat_lt (length s.places) place_limit) NoStation (Ok (record { heading = s.heading; places = s.places ++ (station ∷ []); notes = s.notes }))

unfoldable pub with_call : Said → Market → ℕ → Words → Result Said Expected
with_call s market line ws = do
  call ← request_of market (others s) ws
  Ok (record { heading = s.heading; places = s.places; notes = s.notes ++ (record { line = line; call = call } ∷ []) })

-- a line of which something is left without its comment, once the market is known
abbrev pub behind_heading : Said → Market → ℕ → List ℕ → Words → Result Said Expected
behind_heading s market line w ws = cond (bytes_eq w (codes "station") && no_calls s) (with_station s ws) (with_call s market line (w ∷ ws))

abbrev pub by_heading : Option Heading → Said → ℕ → List ℕ → Words → Result Said Expected
by_heading None s line w ws = with_heading s (w ∷ ws)
by_heading (Some h) s line w ws = behind_heading s h.market line w ws

-- a line with no words says nothing; the first with words is the market's
unfoldable pub with_words : Said → ℕ → Words → Result Said Expected
with_words s line [] = Ok s
with_words s line (w ∷ ws) = by_heading s.heading s line w ws

-- what was said before a station's line, a call's line, any line, turns into what is said after it
abbrev pub AddsStation : JournalDraft → Words → Result (Unit {0}) UnreadLine → JournalDraft → Type 0
AddsStation draft ws r after = Turns (with_station (saying draft) ws) r (saying after)

abbrev pub AddsCall : JournalDraft → Market → ℕ → Words → Result (Unit {0}) UnreadLine → JournalDraft → Type 0
AddsCall draft market line ws r after = Turns (with_call (saying draft) market line ws) r (saying after)

abbrev pub AddsLine : JournalDraft → ℕ → Words → Result (Unit {0}) UnreadLine → JournalDraft → Type 0
AddsLine draft line ws r after = Turns (with_words (saying draft) line ws) r (saying after)
