-- What is said of a text that is not a journal.
use Rattle.std.specs.Prelude.{ℕ, cond, List, ◌++◌, codes, decimal, ◌==◌}
use Rattle.journal.specs.declared.expected.Expected.{Expected}
use Rattle.journal.specs.declared.expected.Expected.TheVariants.{MarketLine, StationOrCall, AnyCall, Agreement, Field, Count, Most, FileName, End, TwoPartLimits, QuotaLimits, NoStation}
use Rattle.arith.specs.Money.{demand_rate_limit, energy_rate_limit}
use Rattle.agreements.specs.Limits.{contracted_limit, quota_limit}
use Rattle.metering.specs.Limits.{place_limit}
use Rattle.journal.specs.Names.{name_text}

abbrev pub figures_text : ℕ → List ℕ
figures_text n = cond (n == 1) (codes "1 figure") (decimal n ++ codes " figures")

abbrev pub expected_text : Expected → List ℕ
expected_text MarketLine = codes "expected 'market three serial NUMBER' or 'market two serial NUMBER'"
expected_text StationOrCall = codes "expected 'station', 'year', 'tariff', 'meter', 'deliver', 'close', 'draw', 'release' or 'hold'"
expected_text AnyCall = codes "expected 'year', 'tariff', 'meter', 'deliver', 'close', 'draw', 'release' or 'hold'"
expected_text Agreement = codes "expected 'two-part' or 'quota'"
expected_text (Field name) = codes "expected '" ++ (name_text name ++ codes "'")
expected_text (Count name wanted found) = codes "'" ++ (name_text name ++ (codes "' wants " ++ (figures_text wanted ++ (codes ", found " ++ decimal found))))
expected_text (Most name most) = codes "'" ++ (name_text name ++ (codes "' wants figures of at most " ++ decimal most))
expected_text FileName = codes "expected a file name"
expected_text End = codes "expected the end of the line"
expected_text TwoPartLimits =
    codes "a two-part agreement has 'contracted' at most "
    ++ (decimal contracted_limit ++ (codes ", 'capacity' at most " ++ (decimal demand_rate_limit ++ (codes ", 'energy' at most " ++ decimal energy_rate_limit))))
expected_text QuotaLimits =
    codes "a quota has 'kwh' at most " ++ (decimal quota_limit ++ (codes ", 'first' and 'second' at most " ++ decimal energy_rate_limit))
expected_text NoStation = codes "expected at most " ++ (decimal place_limit ++ codes " stations")
