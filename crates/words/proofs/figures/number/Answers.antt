use Rattle.std.proofs.Common.{◌≡◌, Some, length, refl, rules, arith, ◌∙◌, sym}
use Rattle.std.proofs.lemmas.Bool.{eqb-false}
use Rattle.std.proofs.lemmas.Iterator.{YieldsList-from_slice}
use Rattle.std.proofs.lemmas.Iterator.Consumers.{fold_from_yields_List}
use Rattle.words.proofs.Digits.{with_digit, digit_added, number_run}
use Rattle.words.proofs.figures.number.Goals as goal

pub returns-else-is_empty : goal.returns-else-is_empty
returns-else-is_empty c =
    let w = c.args.word.now in
    let some : length w ≡ 0 → ⊥ = eqb-false (length w) 0 (sym c.if-is_empty.ensures) in
    fold_from_yields_List _ with_digit (Some 0) _ c.fold.ensures.ran (YieldsList-from_slice w cc) (λ a x b q k. (refl, digit_added a x.now b (search rules)))
    ∙ number_run w (omega arith)
