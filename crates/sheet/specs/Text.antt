-- The text of a sheet, line by line.
use Rattle.std.specs.Prelude.{ℕ, zero, suc, ◌+◌, List, [], ◌++◌, ℤ, Some, None, codes, decimal, Option}
use Rattle.std.specs.Fmt.{signed_decimal}
use Rattle.methodology.specs.declared.head.Head.{Head}
use Rattle.methodology.specs.Names.{name}
use Rattle.methodology.specs.Heads.{heads_of, head_at}
use Rattle.accounts.specs.declared.sheet.HeadLine.{HeadLine}
use Rattle.accounts.specs.declared.sheet.Billed.{Billed}
use Rattle.accounts.specs.declared.sheet.Sheet.{Sheet}
use Rattle.metering.specs.Limits.{licensee_limit}
use Rattle.accounts.specs.Sheets.{line_at, billed_at}

-- a number behind a blank
abbrev pub figure : ℕ → List ℕ
figure n = codes " " ++ decimal n

abbrev pub signed_figure : ℤ → List ℕ
signed_figure z = codes " " ++ signed_decimal z

abbrev pub line_feed : List ℕ
line_feed = codes "\n"

-- month 1
unfoldable pub month_line : ℕ → List ℕ
month_line n = codes "month" ++ (figure n ++ line_feed)

-- G 22222 20000 199980 20
unfoldable pub head_line : Head → HeadLine → List ℕ
head_line h line =
    name h ++ (figure line.actual ++ (figure line.published ++ (signed_figure line.balance ++ (figure line.carry ++ line_feed))))

-- licensee 1 618 7630
unfoldable pub licensee_line : ℕ → Option Billed → List ℕ
licensee_line number None = []
licensee_line number (Some b) =
    codes "licensee" ++ (figure number ++ (figure b.bill ++ (figure b.fraction ++ line_feed)))

-- margin -1710
unfoldable pub margin_line : ℤ → List ℕ
margin_line z = codes "margin" ++ (signed_figure z ++ line_feed)

-- the first n lines, where `line k` stands behind k others
unfoldable pub lines : (ℕ → List ℕ) → ℕ → List ℕ
lines line zero = []
lines line (suc n) = lines line n ++ line n

-- the line of the head, and of the licensee, that comes behind k others
abbrev pub head_text : Sheet → ℕ → List ℕ
head_text s k = head_line (head_at s.shape (k + 1)) (line_at s k)

abbrev pub licensee_text : Sheet → ℕ → List ℕ
licensee_text s k = licensee_line (k + 1) (billed_at s k)

-- the lines of the heads, and of the licensees that have one
abbrev pub heads_text : Sheet → List ℕ
heads_text s = lines (head_text s) (heads_of s.shape)

abbrev pub licensees_text : Sheet → List ℕ
licensees_text s = lines (licensee_text s) licensee_limit

unfoldable pub sheet_text : Sheet → List ℕ
sheet_text s = month_line s.month ++ (heads_text s ++ (licensees_text s ++ margin_line s.margin))
