-- One line behind others.
use Rattle.std.proofs.Common.{◌≡◌, ℕ, ◌+◌, List, ◌++◌, sym, ap, ◌∙◌, append-nil, append_assoc, add-one}
use Rattle.sheet.specs.Text.{lines}

pub no_line : (line : ℕ → List ℕ) (text : List ℕ) → text ≡ text ++ lines line 0
unfolding lines
no_line line text = sym (append-nil text)

pub one_more : (line : ℕ → List ℕ) (k : ℕ) (before text new last : List ℕ) → text ≡ before ++ lines line k → new ≡ text ++ last → last ≡ line k → new ≡ before ++ lines line (k + 1)
unfolding lines
one_more line k before text new last so_far pushed is =
    rw (add-one k)
    (pushed ∙ ap (λ t. t ++ last) so_far ∙ append_assoc before (lines line k) last ∙ ap (λ l. before ++ (lines line k ++ l)) is)
