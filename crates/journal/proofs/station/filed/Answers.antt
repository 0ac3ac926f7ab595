use Rattle.std.proofs.Common.{◌≡◌, ℕ, List, ◌∷◌, length, codes, ap, ◌∙◌, rules, tests, arith}
use Rattle.std.proofs.lemmas.Grind.{common_steps}
use Rattle.std.proofs.lemmas.Slice.Eq.{HasBytesAt, text_from_reads}
use Rattle.words.specs.Pieces.{left}
use Rattle.journal.specs.Fields.{Words}
use Rattle.journal.specs.Places.{two_part_of, figures_of}
use Rattle.journal.proofs.station.filed.Goals as goal

-- what a line says whose first word is of these bytes
says : (ws rest : Words) (kind : List ℕ) → ws ≡ kind ∷ rest → length kind ≡ 8 → HasBytesAt kind 0 (codes "two-part") → figures_of ws ≡ two_part_of rest
unfolding figures_of
says ws rest kind h n reads = ap figures_of (h ∙ ap (λ w. w ∷ rest) (text_from_reads kind (codes "two-part") n reads))

pub returns-in_err-contracted-in-116 : goal.returns-in_err-contracted-in-116
unfolding two_part_of
returns-in_err-contracted-in-116 c =
    let s = says _ (left c.next.new.self) _ c.in-Some.ensures.steps (omega arith) (search (rules, tests)) in
    grind (arith, common_steps)

pub returns-in_ok-contracted-in-116 : goal.returns-in_ok-contracted-in-116
unfolding two_part_of
returns-in_ok-contracted-in-116 c =
    let s = says _ (left c.next.new.self) _ c.in-Some.ensures.steps (omega arith) (search (rules, tests)) in
    grind (arith, common_steps)
