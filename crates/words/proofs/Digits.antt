-- The digits of figures.
use Rattle.std.proofs.Common.{◌≡◌, ℕ, ◌+◌, ◌-◌, ◌*◌, ◌<◌, ◌^◌, true, false, Bool, leb, ltb, List, [], ◌∷◌, length, Ok, Err, Option, None, Some, cond, ◌&&◌, inl, inr, Result, ap, sym, refl, ◌∙◌, rules, arith, fold}
use native.Mathlib.Nat.{min-eq_left, min-eq_right}
use Rattle.std.specs.Result.{result_unwrap_or}
use Rattle.std.specs.Str.{IsUtf8}
use Rattle.std.specs.Char.{digit_value}
use Rattle.std.specs.Str.Parse.{digits_value, digits_value_after, ParsesUnsigned}
use Rattle.std.proofs.lemmas.Bool.{cases_Bool, leb-true, and_parts, ltb-false, ltb-true, cond-true, cond-false, lt-ltb, le-ltb}
use Rattle.std.proofs.lemmas.Str.{IsUtf8-from_ascii}
use Rattle.std.proofs.lemmas.List.Folds.{fold_stays}
use Rattle.std.proofs.lemmas.Fmt.{IsAscii-from_digits}
use Rattle.std.proofs.lemmas.Str.{digit_value_digit}
use Rattle.std.proofs.lemmas.Str.Parse.{IsNumeralModel, numerals_by_value, parse_digits}
use Rattle.words.specs.Figures.{digit, all_digits, is_figure, figure_of, number_of, OneDigitMore}

-- the parser's digits are these
numerals : IsNumeralModel (λ ds. all_digits ds ≡ true) (digits_value 10)
numerals = numerals_by_value _ (search rules)

-- a figure is text
pub figure_utf8 : (w : List ℕ) → is_figure w ≡ true → IsUtf8 w
figure_utf8 w h = IsUtf8-from_ascii w (IsAscii-from_digits w (numerals.to w (and_parts (ltb 0 (length w)) (all_digits w) h).1))

parts : (w : List ℕ) → is_figure w ≡ true → (0 < length w) × (all_digits w ≡ true)
parts w some =
    let p = and_parts (ltb 0 (length w)) (all_digits w) some in
    (ltb-true 0 (length w) p.0, p.1)

-- what the parser gives of a figure
module _ {E : Type 0} (w : List ℕ) (some : is_figure w ≡ true) where
  pub figure_read : (r : Result ℕ E) → ParsesUnsigned 32 10 w r → Some (result_unwrap_or r 4294967295) ≡ figure_of w
  figure_read (Ok n) h =
      let p = parse_digits numerals {E = E} 32 w (Ok n) h (parts w some).1 in
      ap Some (p.1 ∙ sym (min-eq_left (omega (arith, p.0.1)))) ∙ sym (cond-true _ _ _ some)
  figure_read (Err e) h =
      let large : digits_value 10 w < 2 ^ 32 → ⊥ = λ fits. parse_digits numerals {E = E} 32 w (Err e) h (parts w some).1 ((parts w some).0, fits) in
      ap Some (sym (min-eq_right (omega (arith, large)))) ∙ sym (cond-true _ _ _ some)

-- the number with one digit more, if 64 bits hold it
abbrev pub fitting : ℕ → Option ℕ
fitting n = cond (ltb n 18446744073709551616) (Some n) None

abbrev pub with_digit : Option ℕ → ℕ → Option ℕ
with_digit None c = None
with_digit (Some n) c = cond (digit c) (fitting (n * 10 + (c - 48))) None

pub digit_added : (o : Option ℕ) (c : ℕ) (r : Option ℕ) → OneDigitMore o c r → r ≡ with_digit o c
digit_added None c r h = h
digit_added (Some n) c (Some m) h = ap Some h.1 ∙ sym (cond-true _ _ _ (lt-ltb (n * 10 + (c - 48)) 18446744073709551616 h.0.1)) ∙ sym (cond-true _ _ _ h.0.0)
digit_added (Some n) c None h =
    elim (cases_Bool (digit c)) [
      | inl one ↦
          let large : n * 10 + (c - 48) < 2 ^ 64 → ⊥ = λ fits. h (one, fits) in
          sym (cond-false _ _ _ (le-ltb (n * 10 + (c - 48)) 18446744073709551616 (omega (arith, large)))) ∙ sym (cond-true _ _ _ one)
      | inr other ↦ sym (cond-false _ _ _ other)
    ]

one_digit : (n c : ℕ) → digit c ≡ true → with_digit (fitting n) c ≡ fitting (n * 10 + digit_value c)
one_digit n c one =
    let p = and_parts (leb 48 c) (leb c 57) one in
    let e : n * 10 + (c - 48) ≡ n * 10 + digit_value c = omega (arith, digit_value_digit c (leb-true 48 c p.0, leb-true c 57 p.1)) in
    elim (cases_Bool (ltb n 18446744073709551616)) [
      | inl fits ↦ ap (λ o. with_digit o c) (cond-true _ _ _ fits) ∙ cond-true _ _ _ one ∙ ap fitting e
      | inr large ↦
          ap (λ o. with_digit o c) (cond-false _ _ _ large)
          ∙ sym (cond-false _ _ _ (le-ltb (n * 10 + digit_value c) 18446744073709551616 (omega (arith, ltb-false n 18446744073709551616 large))))
    ]

no_digit : (o : Option ℕ) (c : ℕ) → digit c ≡ false → with_digit o c ≡ None
no_digit None c other = refl
no_digit (Some n) c other = cond-false _ _ _ other

run_digits : (n : ℕ) (w : List ℕ) → fold with_digit (fitting n) w ≡ cond (all_digits w) (fitting (digits_value_after 10 n w)) None
run_digits n [] = refl
run_digits n (c ∷ cs) =
    elim (cases_Bool (digit c)) [
      | inl one ↦
          ap (λ o. fold with_digit o cs) (one_digit n c one) ∙ run_digits (n * 10 + digit_value c) cs
          ∙ sym (ap (λ b. cond (b && all_digits cs) (fitting (digits_value_after 10 n (c ∷ cs))) None) one)
      | inr other ↦
          ap (λ o. fold with_digit o cs) (no_digit (fitting n) c other) ∙ fold_stays with_digit None (λ x. refl) cs
          ∙ sym (ap (λ b. cond (b && all_digits cs) (fitting (digits_value_after 10 n (c ∷ cs))) None) other)
    ]

both_hold : (a b : Bool) (x : Option ℕ) → cond a (cond b x None) None ≡ cond (a && b) x None
both_hold true b x = refl
both_hold false b x = refl

-- the number of a word, digit by digit
pub number_run : (w : List ℕ) → 0 < length w → fold with_digit (Some 0) w ≡ number_of w
number_run w some =
    run_digits 0 w ∙ both_hold (all_digits w) (ltb (digits_value 10 w) 18446744073709551616) (Some (digits_value 10 w))
    ∙ sym (ap (λ b. cond (b && all_digits w && ltb (digits_value 10 w) 18446744073709551616) (Some (digits_value 10 w)) None) (lt-ltb 0 (length w) some))
