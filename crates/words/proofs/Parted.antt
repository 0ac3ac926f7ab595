-- The words of a line, one after another.
use Rattle.std.proofs.Common.{◌≡◌, ℕ, suc, ◌<◌, ◌≤◌, true, false, not, List, [], ◌∷◌, length, take, drop, sym, refl, ap, ◌∙◌, inl, inr, one-add, arith}
use Rattle.std.specs.List.{prefix_len}
use Rattle.std.proofs.lemmas.Bool.{cases_Bool, cases_eq, cond-true, cond-false}
use Rattle.std.proofs.lemmas.List.{nil_from_length}
use Rattle.words.specs.Pieces.{blank, no_blank, piece, after, first_word, behind_word, words, goes_on, on_first}
use Rattle.words.proofs.Cut.{one_more}

-- a blank in front is passed over
module _ (c : ℕ) (cs : List ℕ) (dark : blank c ≡ true) where
  past : after no_blank (c ∷ cs) ≡ after no_blank cs
  past = rw dark (ap (λ n. drop n (c ∷ cs)) (one-add (prefix_len (λ b. not (no_blank b)) cs)))

  words_blank : words (c ∷ cs) ≡ words cs
  unfolding words
  words_blank = cond-true _ _ _ dark

-- any other byte begins a word
module _ (c : ℕ) (cs : List ℕ) (light : blank c ≡ false) where
  at_once : after no_blank (c ∷ cs) ≡ c ∷ cs
  at_once = rw light refl

  reach_on : prefix_len (λ b. not (blank b)) (c ∷ cs) ≡ suc (prefix_len (λ b. not (blank b)) cs)
  reach_on = rw light (one-add (prefix_len (λ b. not (blank b)) cs))

  first_on : first_word (c ∷ cs) ≡ c ∷ piece blank cs
  first_on = ap (piece blank) at_once ∙ ap (λ n. take n (c ∷ cs)) reach_on

  behind_on : behind_word (c ∷ cs) ≡ after blank cs
  behind_on = ap (after blank) at_once ∙ ap (λ n. drop n (c ∷ cs)) reach_on

  -- the word ends here, or goes on with the next byte
  words_end : goes_on cs ≡ false → words (c ∷ cs) ≡ (c ∷ []) ∷ words cs
  unfolding words
  words_end h = cond-false _ _ _ light ∙ cond-false _ _ _ h

  words_on : goes_on cs ≡ true → words (c ∷ cs) ≡ on_first c (words cs)
  unfolding words
  words_on h = cond-false _ _ _ light ∙ cond-true _ _ _ h

ends_here : (d : ℕ) (ds : List ℕ) → blank d ≡ true → prefix_len (λ b. not (blank b)) (d ∷ ds) ≡ 0
ends_here d ds dark = rw dark refl

-- a line whose first word is empty has no words
pub words_none : (line : List ℕ) → length (first_word line) ≡ 0 → words line ≡ []
unfolding words
words_none [] h = refl
words_none (c ∷ cs) h =
    elim (cases_Bool (blank c)) [
      | inl dark ↦ words_blank c cs dark ∙ words_none cs (ap (λ t. length (piece blank t)) (sym (past c cs dark)) ∙ h)
      | inr light ↦ absurd (omega (arith, ap length (first_on c cs light)))
    ]

cut_on : (c : ℕ) (cs : List ℕ) → blank c ≡ false → words (c ∷ cs) ≡ (c ∷ piece blank cs) ∷ words (after blank cs)
cut_on c [] light = words_end c [] light refl
cut_on c (d ∷ ds) light =
    elim (cases_Bool (blank d)) [
      | inl dark ↦
          words_end c (d ∷ ds) light (ap not dark)
          ∙ sym (ap (λ n. (c ∷ take n (d ∷ ds)) ∷ words (drop n (d ∷ ds))) (ends_here d ds dark))
      | inr bright ↦ words_on c (d ∷ ds) light (ap not bright) ∙ ap (on_first c) (cut_on d ds bright)
          ∙ sym (ap (λ n. (c ∷ take n (d ∷ ds)) ∷ words (drop n (d ∷ ds))) (reach_on d ds bright))
    ]

-- a line with words is its first word and the words behind that
pub words_cut : (line : List ℕ) → 0 < length (first_word line) → words line ≡ first_word line ∷ words (behind_word line)
words_cut [] h = absurd (omega arith)
words_cut (c ∷ cs) h =
    elim (cases_Bool (blank c)) [
      | inl dark ↦
          words_blank c cs dark
          ∙ words_cut cs (omega (arith, ap (λ t. length (piece blank t)) (past c cs dark)))
          ∙ sym (ap (λ t. piece blank t ∷ words (after blank t)) (past c cs dark))
      | inr light ↦ cut_on c cs light ∙ sym (ap (λ w. w ∷ words (after blank cs)) (first_on c cs light)) ∙ sym (ap (λ t. first_word (c ∷ cs) ∷ words t) (behind_on c cs light))
    ]

-- a line that has no words begins with an empty one
pub words_empty : (line : List ℕ) → words line ≡ [] → first_word line ≡ []
words_empty line h =
    elim (cases_eq (length (first_word line)) 0) [
      | inl z ↦ nil_from_length (first_word line) z
      | inr some ↦ (let e : first_word line ∷ words (behind_word line) ≡ [] = sym (words_cut line (omega arith)) ∙ h in cc)
    ]

-- one that has words begins with the first of them, and the others are behind that
pub words_first : (line word : List ℕ) (more : List (List ℕ)) → words line ≡ word ∷ more → (0 < length (first_word line)) × (first_word line ≡ word) × (words (behind_word line) ≡ more)
words_first line word more h =
    elim (cases_eq (length (first_word line)) 0) [
      | inl z ↦ (let e : [] ≡ word ∷ more = sym (words_none line z) ∙ h in cc)
      | inr some ↦ (let e : first_word line ∷ words (behind_word line) ≡ word ∷ more = sym (words_cut line (omega arith)) ∙ h in (omega arith, cc, cc))
    ]

none : length (words []) ≤ 0
unfolding words
none = omega arith

-- a line has no more words than bytes
pub words_few : (line : List ℕ) → length (words line) ≤ length line
words_few [] = none
words_few (c ∷ cs) =
    elim (cases_Bool (blank c)) [
      | inl dark ↦ omega (arith, ap length (words_blank c cs dark), words_few cs)
      | inr light ↦
          elim (cases_Bool (goes_on cs)) [
            | inl on ↦ omega (arith, ap length (words_on c cs light on), one_more c (words cs), words_few cs)
            | inr off ↦ omega (arith, ap length (words_end c cs light off), words_few cs)
          ]
    ]
