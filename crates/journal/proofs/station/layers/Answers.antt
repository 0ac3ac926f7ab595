use Rattle.std.proofs.Common.{◌≡◌, [], ◌∷◌, length, refl, sym, ap, ◌∙◌, arith}
use Rattle.std.proofs.lemmas.Result.{err_from_is_err_and}
use Rattle.words.specs.Pieces.{left}
use Rattle.journal.specs.Places.{layers}
use Rattle.journal.proofs.Layers.{layers_stop, layers_go, layers_end, layer_shorter}
use Rattle.journal.proofs.station.layers.Goals as goal

pub returns-in_err-factor : goal.returns-in_err-factor
returns-in_err-factor c =
    let p = err_from_is_err_and c.from_residual.result c.from_residual.ensures.1 in
    let some : left c.loop-words.words ≡ c.in-Some.field-0.now ∷ left c.next.new.self = ap left (sym c.loop-words.invariant.1) ∙ c.in-Some.ensures.steps in
    rw (p.1, p.2) (sym c.loop-words.invariant.0 ∙ layers_stop c.loop-words.factors.items (left c.loop-words.words) _ (omega (arith, ap length some)) c.in_err-factor.ensures)

pub loop-words-smaller : goal.loop-words-smaller
loop-words-smaller c =
    let same = ap left c.loop-words.invariant.1 in
    omega (arith, ap length same, layer_shorter _ _ _ c.in_ok-factor.ensures)

pub loop-words-preserved : goal.loop-words-preserved
loop-words-preserved c = (
  ap (λ fs. layers fs (left c.single.new.words)) c.in_ok-push.ensures.items
      ∙ sym (layers_go c.loop-words.factors.items _ _ _ c.in_ok-factor.ensures)
      ∙ c.loop-words.invariant.0,
  refl,
)

pub returns : goal.returns
returns c =
    let none : left c.loop-words.words ≡ [] = ap left (sym c.loop-words.invariant.1) ∙ c.in_default.ensures.steps.0 in
    sym c.loop-words.invariant.0 ∙ ap (layers c.loop-words.factors.items) none ∙ layers_end c.loop-words.factors.items
