use Rattle.std.proofs.Common.{◌≡◌, ℕ, Bool, cond, ltb, List, length, take, drop, Some, None, Option, unwrap_or, ap, ◌∙◌, arith}
use Rattle.std.specs.List.{position_or_len}
use Rattle.std.proofs.lemmas.Bool.Decides.{nat_tests}
use Rattle.std.proofs.lemmas.Iterator.{YieldsList-from_slice}
use Rattle.std.proofs.lemmas.Iterator.Search.{position_from_yields_List}
use Rattle.std.proofs.lemmas.List.Sums.{prefix_len-le-length}
use Rattle.words.proofs.pieces.cut.Goals as goal

-- the place that is found, or else the end, is how far the piece goes
end_is : (test : ℕ → Bool) (text : List ℕ) (end : Option ℕ) → end ≡ cond (ltb (position_or_len test text) (length text)) (Some (position_or_len test text)) None → unwrap_or end (length text) ≡ position_or_len test text
end_is test text end h = grind (arith, nat_tests, prefix_len-le-length)

pub returns-clause-front : goal.returns-clause-front
returns-clause-front g c = λ p h.
    let found = position_from_yields_List p _ _ c.position-end.result c.position-end.ensures.ran (YieldsList-from_slice c.args.text.now cc) h in
    c.split_at.ensures.front ∙ ap (λ k. take k c.args.text.now) (c.unwrap_or.ensures ∙ end_is p c.args.text.now _ found)

pub returns-clause-back : goal.returns-clause-back
returns-clause-back g c = λ p h.
    let found = position_from_yields_List p _ _ c.position-end.result c.position-end.ensures.ran (YieldsList-from_slice c.args.text.now cc) h in
    c.split_at.ensures.back ∙ ap (λ k. drop k c.args.text.now) (c.unwrap_or.ensures ∙ end_is p c.args.text.now _ found)
