-- The lines of a journal that say what the house is asked to do.
use Rattle.std.specs.Prelude.{◌≡◌, ℕ, ◌+◌, List, [], ◌∷◌, Some, None, Option, Ok, Err, Result, slice_index, nat_le}
use Rattle.std.specs.Borrow.{Bor}
use Rattle.tariffs.specs.declared.row.Row.{Row}
use Rattle.tariffs.specs.declared.filing.Filing.{Filing}
use Rattle.journal.specs.declared.request.Request.{Request}
use Rattle.journal.specs.declared.request.Request.TheVariants.{Year as IsYear, Tariff, Meter, Deliver, Close as IsClose, Draw as IsDraw, Release as IsRelease, Hold as IsHold}
use Rattle.journal.specs.declared.market.Market.{Market}
use Rattle.journal.specs.declared.name.Name.TheVariants.{Year, Costs, Peaks, Energy, Sent, Delivered, Losses, Coefficients, Interest, Close, Draw, Release, Hold}
use Rattle.journal.specs.declared.expected.Expected.{Expected}
use Rattle.journal.specs.declared.expected.Expected.TheVariants.{FileName, Most}
use Rattle.journal.specs.Chain.{◌>>=◌, must}
use Rattle.journal.specs.Fields.{Words, field, single, ended}
use Rattle.journal.specs.declared.verb.Verb.{Verb}
use Rattle.journal.specs.declared.verb.Verb.TheVariants.{Year as YearVerb, Tariff as TariffVerb, Meter as MeterVerb, Deliver as DeliverVerb, Close as CloseVerb, Draw as DrawVerb, Release as ReleaseVerb, Hold as HoldVerb}
use Rattle.journal.specs.Verbs.{verb_of}
use Rattle.journal.specs.Headings.{revenues_of, intervals_of}

-- what the house is asked to do
pub data Asked : Type 0 where
  file_year : Row → Asked
  publish : Filing → Asked
  meter_file : List ℕ → Asked
  delivery_file : List ℕ → Asked
  close_month : (readings deliveries : ℕ) → Asked
  draw_at : ℕ → Asked
  release_order : ℕ → Asked
  hold_order : ℕ → Asked

-- a request says it
abbrev pub asked : Request → Asked
asked (IsYear revenues) = file_year revenues
asked (Tariff filing) = publish filing
asked (Meter name) = meter_file name.now
asked (Deliver name) = delivery_file name.now
asked (IsClose readings deliveries) = close_month readings deliveries
asked (IsDraw place) = draw_at place
asked (IsRelease order) = release_order order
asked (IsHold order) = hold_order order

abbrev pub Tells : Result Asked Expected → Result Request Expected → Type 0
Tells said (Ok r) = said ≡ Ok (asked r)
Tells said (Err e) = said ≡ Err e

-- the name of a meter file
abbrev pub file_of : Words → Result (List ℕ × Words) Expected
file_of [] = Err FileName
file_of (w ∷ ws) = Ok (w, ws)

abbrev pub TakesName : Result (List ℕ × Words) Expected → Result (Bor (List ℕ)) Expected → Words → Type 0
TakesName said (Ok name) rest = said ≡ Ok (name.now, rest)
TakesName said (Err e) rest = said ≡ Err e

-- what a line gives that says this and no more
abbrev pub alone : {A : Type 0} → Result (A × Words) Expected → Result A Expected
alone said = do
  (x, ws) ← said
  _ ← ended ws
  Ok x

abbrev pub TellsName : Result (List ℕ) Expected → Result (Bor (List ℕ)) Expected → Type 0
TellsName said (Ok name) = said ≡ Ok name.now
TellsName said (Err e) = said ≡ Err e

-- a line that says this and no more
abbrev pub whole : {A : Type 0} → (A → Asked) → Result (A × Words) Expected → Result Asked Expected
whole make said = do
  x ← alone said
  Ok (make x)

-- what a tariff files, for a market's revenues and intervals
unfoldable pub filing_of : Market → Words → Result (Filing × Words) Expected
filing_of market ws = do
  (costs, ws) ← field Costs (1 + revenues_of market) ws
  (peaks, ws) ← single Peaks ws
  (energy_cost, ws) ← single Energy ws
  (sent, ws) ← single Sent ws
  (delivered, ws) ← field Delivered (intervals_of market) ws
  (factors, ws) ← field Losses (intervals_of market) ws
  (coefficients, ws) ← field Coefficients (intervals_of market) ws
  (interest, ws) ← single Interest ws
  let filing : Filing = record { costs = costs; peaks = peaks; energy_cost = energy_cost; sent = sent; delivered = delivered; factors = factors; coefficients = coefficients; interest = interest }
  Ok (filing, ws)

unfoldable pub year_of : Market → Words → Result Asked Expected
year_of market ws = whole file_year (field Year (revenues_of market) ws)

unfoldable pub tariff_of : Market → Words → Result Asked Expected
tariff_of market ws = whole publish (filing_of market ws)

unfoldable pub meter_of : Words → Result Asked Expected
meter_of ws = whole meter_file (file_of ws)

unfoldable pub deliver_of : Words → Result Asked Expected
deliver_of ws = whole delivery_file (file_of ws)

unfoldable pub close_of : Words → Result Asked Expected
close_of ws = whole (λ counts. close_month (slice_index counts.figures 0) (slice_index counts.figures 1)) (field Close 2 ws)

-- a place is of 8 bits
abbrev pub place_of : ℕ → Result Asked Expected
place_of n = must (nat_le n 255) (Most Draw 255) (Ok (draw_at n))

unfoldable pub draw_of : Words → Result Asked Expected
draw_of ws = do
  (n, ws) ← single Draw ws
  _ ← ended ws
  place_of n

unfoldable pub release_of : Words → Result Asked Expected
release_of ws = whole release_order (single Release ws)

unfoldable pub hold_of : Words → Result Asked Expected
hold_of ws = whole hold_order (single Hold ws)

-- what a line says that begins with a verb
abbrev pub by_verb : Verb → Market → List ℕ → Words → Result Asked Expected
by_verb YearVerb market w ws = year_of market (w ∷ ws)
by_verb TariffVerb market w ws = tariff_of market ws
by_verb MeterVerb market w ws = meter_of ws
by_verb DeliverVerb market w ws = deliver_of ws
by_verb CloseVerb market w ws = close_of (w ∷ ws)
by_verb DrawVerb market w ws = draw_of (w ∷ ws)
by_verb ReleaseVerb market w ws = release_of (w ∷ ws)
by_verb HoldVerb market w ws = hold_of (w ∷ ws)

abbrev pub by_first : Option Verb → Market → Expected → List ℕ → Words → Result Asked Expected
by_first None market other w ws = Err other
by_first (Some verb) market other w ws = by_verb verb market w ws

-- a call by its first word; where it begins as none does, the other was expected
unfoldable pub request_of : Market → Expected → Words → Result Asked Expected
request_of market other [] = Err other
request_of market other (w ∷ ws) = by_first (verb_of w) market other w ws
