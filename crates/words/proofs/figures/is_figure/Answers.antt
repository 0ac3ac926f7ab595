use Rattle.std.proofs.Common.{◌≡◌, ◌&&◌, length, sym, ap, ◌∙◌, arith, rules, tests}
use Rattle.std.proofs.lemmas.Bool.{lt-ltb, eqb-false}
use Rattle.std.proofs.lemmas.Iterator.{YieldsList-from_slice}
use Rattle.std.proofs.lemmas.Iterator.Search.{all_from_yields_List}
use Rattle.words.specs.Figures.{digit, all_digits}
use Rattle.words.proofs.figures.is_figure.Goals as goal

pub returns-then-not-is_empty : goal.returns-then-not-is_empty
returns-then-not-is_empty c =
    let w = c.args.word.now in
    let some : length w ≡ 0 → ⊥ = eqb-false (length w) 0 (sym c.if-not-is_empty.ensures) in
    all_from_yields_List digit _ _ c.all.result c.all.ensures.ran (YieldsList-from_slice w cc) (λ x b q k. search (rules, tests))
    ∙ sym (ap (λ b. b && all_digits w) (lt-ltb 0 (length w) (omega arith)))
