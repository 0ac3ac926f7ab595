-- How the hours and the minutes of a time of day are written.
use Rattle.std.proofs.Common.{◌≡◌, ℕ, ◌+◌, ◌<◌, ◌≤◌, ◌/◌, ◌%◌, [], ◌∷◌, ◌++◌, refl, ap, ◌∙◌, inl, inr, arith}
use Rattle.std.specs.Fmt.{format_spec, styled_decimal, padded_integral, char_count, decimal}
use Rattle.std.proofs.lemmas.Bool.{cases_lt}
use Rattle.std.proofs.lemmas.Fmt.{decimal_digit, decimal_step}

two_digits : (n : ℕ) → 10 ≤ n → n < 100 → decimal n ≡ (48 + n / 10) ∷ (48 + n % 10) ∷ []
two_digits n two small = decimal_step n two (omega arith) ∙ ap (λ ds. ds ++ ((48 + n % 10) ∷ [])) (decimal_digit (n / 10) (omega arith))

-- `{:02}` writes the tens and then the ones
pub placed : (n : ℕ) → n < 1000 → styled_decimal (format_spec 32 0 4 2 18446744073709551615) n ≡ decimal (n / 10) ++ decimal (n % 10)
unfolding padded_integral char_count
placed n small =
    elim (cases_lt n 10) [
      | inl one ↦ (let high : n / 10 ≡ 0 = omega arith in let low : n % 10 ≡ n = omega arith in rw (high, low, decimal_digit n one, decimal_digit 0 (omega arith)) refl)
      | inr more ↦
          elim (cases_lt n 100) [
            | inl two ↦ rw (two_digits n more two, decimal_digit (n / 10) (omega arith), decimal_digit (n % 10) (omega arith)) refl
            | inr three ↦ (let d = decimal_step n more (omega arith) ∙ ap (λ ds. ds ++ ((48 + n % 10) ∷ [])) (two_digits (n / 10) (omega arith) (omega arith)) in rw (d, two_digits (n / 10) (omega arith) (omega arith), decimal_digit (n % 10) (omega arith)) refl)
          ]
    ]
