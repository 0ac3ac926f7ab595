-- Runs of figures, word by word.
use Rattle.std.proofs.Common.{◌≡◌, ℕ, cond, Option, Bool, true, false, ltb, List, [], ◌∷◌, ◌++◌, Some, None, Ok, Err, sym, ap, ◌∙◌, refl}
use Rattle.std.specs.Str.Parse.{digits_value}
use Rattle.std.proofs.lemmas.Bool.{cond-true, cond-false, and_from, and_right}
use Rattle.words.specs.Figures.{is_figure, number_of}
use Rattle.journal.specs.declared.name.Name.{Name}
use Rattle.journal.specs.declared.expected.Expected.TheVariants.{Most}
use Rattle.journal.specs.Fields.{Words, run, largest}

some_none : (n : ℕ) → ◌≡◌ {A = Option ℕ} (Some n) None → ⊥
some_none n e = cc

none_some : (n : ℕ) → ◌≡◌ {A = Option ℕ} None (Some n) → ⊥
none_some n e = cc

module _ (name : Name) (so_far : List ℕ) (w : List ℕ) (ws : Words) where
  -- a word that is no figure ends the run
  pub run_ends : is_figure w ≡ false → run name so_far (w ∷ ws) ≡ Ok (so_far, w ∷ ws)
  unfolding run
  run_ends h = cond-false _ _ _ h

  abbrev fits : Bool
  fits = ltb (digits_value 10 w) 18446744073709551616

  by_number : (b : Bool) (n : ℕ) → is_figure w ≡ true → fits ≡ b → number_of w ≡ Some n → run name so_far (w ∷ ws) ≡ run name (so_far ++ (n ∷ [])) ws
  unfolding run
  by_number true n h f e =
      cond-true _ _ _ h
      ∙ cond-true _ _ _ f
      ∙ ap (λ v. run name (so_far ++ (v ∷ [])) ws) (let s : Some (digits_value 10 w) ≡ Some n = sym (ap (λ b. cond b (Some (digits_value 10 w)) None) (and_from _ _ h f)) ∙ e in cc)
  by_number false n h f e = absurd (none_some n (sym (ap (λ b. cond b (Some (digits_value 10 w)) None) (and_right (is_figure w) fits f)) ∙ e))

  pub run_goes : (n : ℕ) → is_figure w ≡ true → number_of w ≡ Some n → run name so_far (w ∷ ws) ≡ run name (so_far ++ (n ∷ [])) ws
  run_goes n h e = by_number fits n h refl e

  by_none : (b : Bool) → is_figure w ≡ true → fits ≡ b → number_of w ≡ None → run name so_far (w ∷ ws) ≡ Err (Most name largest)
  unfolding run
  by_none true h f e = absurd (some_none _ (sym (ap (λ b. cond b (Some (digits_value 10 w)) None) (and_from _ _ h f)) ∙ e))
  by_none false h f e = cond-true _ _ _ h ∙ cond-false _ _ _ f

  pub run_past : is_figure w ≡ true → number_of w ≡ None → run name so_far (w ∷ ws) ≡ Err (Most name largest)
  run_past h e = by_none fits h refl e

pub run_over : (name : Name) (so_far : List ℕ) → run name so_far [] ≡ Ok (so_far, [])
unfolding run
run_over name so_far = refl
