-- The market's line: which of the two markets, and the house's serial.
use Rattle.std.specs.Prelude.{ℕ, cond, [], ◌∷◌, Ok, Err, Result, codes}
use Rattle.std.specs.Str.{bytes_eq}
use Rattle.methodology.specs.Markets.{three_shape, two_shape}
use Rattle.journal.specs.declared.market.Market.{Market}
use Rattle.journal.specs.declared.market.Market.TheVariants.{Three, Two}
use Rattle.journal.specs.declared.heading.Heading.{Heading}
use Rattle.journal.specs.declared.name.Name.TheVariants.{Serial}
use Rattle.journal.specs.declared.expected.Expected.{Expected}
use Rattle.journal.specs.declared.expected.Expected.TheVariants.{MarketLine}
use Rattle.journal.specs.Chain.{◌>>=◌}
use Rattle.journal.specs.Fields.{Words, keyword, single, ended}

abbrev pub revenues_of : Market → ℕ
revenues_of Three = three_shape.revenues
revenues_of Two = two_shape.revenues

abbrev pub intervals_of : Market → ℕ
intervals_of Three = three_shape.intervals
intervals_of Two = two_shape.intervals

abbrev pub begun : Words → Result Words Expected
begun ws = keyword (codes "market") MarketLine ws

abbrev pub market_of : Words → Result (Market × Words) Expected
market_of [] = Err MarketLine
market_of (w ∷ ws) = cond (bytes_eq w (codes "three")) (Ok (Three, ws)) (cond (bytes_eq w (codes "two")) (Ok (Two, ws)) (Err MarketLine))

-- `market three serial 7`
unfoldable pub heading_of : Words → Result Heading Expected
heading_of ws = do
  ws ← begun ws
  (market, ws) ← market_of ws
  (serial, ws) ← single Serial ws
  _ ← ended ws
  Ok (record { market = market; serial = serial })
