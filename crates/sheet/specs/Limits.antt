-- How many bytes the parts of a sheet's text have at most.
use Rattle.std.specs.Prelude.{ℕ, ◌+◌, ◌*◌}
use Rattle.methodology.specs.Limits.{head_limit}
use Rattle.metering.specs.Limits.{licensee_limit}

-- the digits of a number of 64 bits
abbrev pub digit_limit : ℕ
digit_limit = 20

-- a blank and a number; a blank, a sign and a number
abbrev pub figure_limit : ℕ
figure_limit = 1 + digit_limit

abbrev pub signed_limit : ℕ
signed_limit = 1 + figure_limit

-- the name of a head: a letter, and a number for an interval
abbrev pub name_limit : ℕ
name_limit = 1 + digit_limit

-- the lines, each with its line feed
abbrev pub month_limit : ℕ
month_limit = 5 + figure_limit + 1

abbrev pub line_limit : ℕ
line_limit = name_limit + 3 * figure_limit + signed_limit + 1

abbrev pub bill_limit : ℕ
bill_limit = 8 + 3 * figure_limit + 1

abbrev pub margin_limit : ℕ
margin_limit = 6 + signed_limit + 1

-- the lines of all heads, and of all licensees
abbrev pub heads_limit : ℕ
heads_limit = head_limit * line_limit

abbrev pub licensees_limit : ℕ
licensees_limit = licensee_limit * bill_limit

-- a whole text
abbrev pub text_limit : ℕ
text_limit = month_limit + heads_limit + licensees_limit + margin_limit
