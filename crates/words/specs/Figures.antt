-- Figures: words of decimal digits.
use Rattle.std.specs.Prelude.{◌≡◌, ℕ, ◌+◌, ◌-◌, ◌*◌, ◌^◌, ◌<◌, min, Bool, true, cond, ◌&&◌, List, length, Some, None, Option, MatchOption, SomeIff, nat_le, nat_lt}
use Rattle.std.specs.Borrow.{Bor}
use Rattle.std.specs.List.{list_all}
use Rattle.std.specs.Str.Parse.{digits_value}

abbrev pub digit : ℕ → Bool
digit c = nat_le 48 c && nat_le c 57

abbrev pub all_digits : List ℕ → Bool
all_digits w = list_all digit w

-- a word of digits, one at least
abbrev pub is_figure : List ℕ → Bool
is_figure w = nat_lt 0 (length w) && all_digits w

-- the text of a word that is a figure
abbrev pub FigureText : List ℕ → Bor (List ℕ) → Type 0
FigureText w text = (is_figure w ≡ true) × (text.now ≡ w)

-- the number that a figure writes, held to the top
abbrev pub held : ℕ → List ℕ → Option ℕ
held top w = cond (is_figure w) (Some (min (digits_value 10 w) top)) None

-- one that is larger than 32 bits hold counts as the largest
abbrev pub figure_of : List ℕ → Option ℕ
figure_of w = held 4294967295 w

-- the number that a figure writes, if 64 bits hold it
abbrev pub number_of : List ℕ → Option ℕ
number_of w = cond (is_figure w && nat_lt (digits_value 10 w) (2 ^ 64)) (Some (digits_value 10 w)) None

-- a number with one digit more, if there is one, the byte is a digit and 64 bits hold what comes of it
abbrev pub OneDigitMore : Option ℕ → ℕ → Option ℕ → Type 0
OneDigitMore number byte result =
    MatchOption number (result ≡ None)
    (λ n. SomeIff result ((digit byte ≡ true) × (n * 10 + (byte - 48) < 2 ^ 64)) (n * 10 + (byte - 48)))
