-- The lines of a sheet. Places of a list count from 0: head 1 or licensee 1 stands first.
use Rattle.std.specs.Prelude.{◌≡◌, ℕ, pos, None, Option, slice_index_or}
use Rattle.methodology.specs.declared.shape.Shape.{Shape}
use Rattle.accounts.specs.declared.sheet.HeadLine.{HeadLine}
use Rattle.accounts.specs.declared.sheet.Billed.{Billed}
use Rattle.accounts.specs.declared.sheet.Sheet.{Sheet}

abbrev pub no_line : HeadLine
no_line = record { actual = 0; published = 0; balance = pos 0; carry = 0 }

-- the sheet's line of a head, and of a licensee
abbrev pub line_at : Sheet → ℕ → HeadLine
line_at s k = slice_index_or s.heads k no_line

abbrev pub billed_at : Sheet → ℕ → Option Billed
billed_at s l = slice_index_or s.licensees l None

-- a sheet that no closing has filled: month 0, zeros for every head, no licensee, margin 0
pub record Unfilled (shape : Shape) (s : Sheet) : Type 0 where
  pub month_is : s.month ≡ 0
  pub shape_is : s.shape ≡ shape
  pub lines : (k : ℕ) → line_at s k ≡ no_line
  pub bills : (l : ℕ) → billed_at s l ≡ None
  pub margin_is : s.margin ≡ pos 0
