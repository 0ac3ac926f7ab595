-- What filing a year answers.
use Rattle.std.specs.Prelude.{◌≡◌, ℕ, ◌<◌, ◌≤◌, Bool, true, false, Ok, Err, Result, slice_index}
use Rattle.methodology.specs.declared.shape.Shape.{Shape}
use Rattle.rates.specs.declared.revenues.Revenues.{Revenues}
use Rattle.rates.specs.Limits.{yearly_limit}
use Rattle.tariffs.specs.declared.row.Row.{Row}
use Rattle.tariffs.specs.declared.refusal.YearRefused.{YearRefused}
use Rattle.tariffs.specs.Rows.{row_fits}

-- a revenue for each company of the market, none over its limit
abbrev pub year_fits : Shape → Row → Bool
year_fits shape filed = row_fits 0 yearly_limit shape.revenues filed

-- the year's revenues are those filed, and 0 for companies that the market has not
pub record Allows (shape : Shape) (filed : Row) (allowed : Revenues) : Type 0 where
  pub fitting : year_fits shape filed ≡ true
  pub as_filed : (j : ℕ) → j < shape.revenues → slice_index allowed.yearly j ≡ slice_index filed.figures j
  pub past : (j : ℕ) → shape.revenues ≤ j → slice_index allowed.yearly j ≡ 0

abbrev pub FilesYear : Shape → Row → Result Revenues YearRefused → Type 0
FilesYear shape filed (Ok allowed) = Allows shape filed allowed
FilesYear shape filed (Err refused) = year_fits shape filed ≡ false
