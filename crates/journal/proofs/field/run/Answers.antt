use Rattle.std.proofs.Common.{◌≡◌, ℕ, List, [], ◌∷◌, ◌++◌, length, Ok, refl, sym, ap, ◌∙◌, arith, length-append}
use Rattle.words.specs.Pieces.{left}
use Rattle.words.proofs.Parted.{words_few}
use Rattle.journal.specs.Fields.{run}
use Rattle.journal.proofs.Runs.{run_ends, run_goes, run_past, run_over}
use Rattle.journal.proofs.field.run.Goals as goal

pub loop-word-init : goal.loop-word-init
loop-word-init c = ([], refl, refl, refl, omega (arith, words_few c.args.words.now.rest.now))

pub returns-then-not-is_figure : goal.returns-then-not-is_figure
returns-then-not-is_figure c =
    let fs : List ℕ = c.loop-word.invariant.0 in
    let e : left c.loop-word.words ≡ c.in-Some.word.now ∷ left c.next.new.self = ap left (sym c.loop-word.invariant.3) ∙ c.in-Some.ensures.steps in (
      fs,
      c.loop-word.invariant.1,
      sym c.loop-word.invariant.2
          ∙ ap (run c.args.name fs) e
          ∙ run_ends c.args.name fs _ _ (sym c.if-not-is_figure.ensures)
          ∙ ap (λ t. Ok (fs, t)) (sym e),
    )

pub returns-in_default-number : goal.returns-in_default-number
returns-in_default-number c =
    let fs : List ℕ = c.loop-word.invariant.0 in
    let e : left c.loop-word.words ≡ c.in-Some.word.now ∷ left c.next.new.self = ap left (sym c.loop-word.invariant.3) ∙ c.in-Some.ensures.steps in
    sym c.loop-word.invariant.2
    ∙ ap (run c.args.name fs) e
    ∙ run_past c.args.name fs _ _ (sym c.if-not-is_figure.ensures) (sym c.number.ensures ∙ c.in_default-number.is)

pub loop-word-preserved : goal.loop-word-preserved
loop-word-preserved c =
    let fs : List ℕ = c.loop-word.invariant.0 in
    let n : ℕ = c.in-Some-number.figure in
    let e : left c.loop-word.words ≡ c.in-Some.word.now ∷ left c.next.new.self = ap left (sym c.loop-word.invariant.3) ∙ c.in-Some.ensures.steps in (
      fs ++ (n ∷ []),
      c.with_figure-row.ensures fs c.loop-word.invariant.1,
      sym (run_goes c.args.name fs _ _ n (sym c.if-not-is_figure.ensures) (sym c.number.ensures ∙ c.in-Some-number.is))
          ∙ sym (ap (run c.args.name fs) e)
          ∙ c.loop-word.invariant.2,
      refl,
      omega (arith, length-append fs (n ∷ []), ap length e, ap length c.in-Some.ensures.steps, c.loop-word.invariant.4),
    )

pub returns : goal.returns
returns c =
    let fs : List ℕ = c.loop-word.invariant.0 in
    let e : left c.loop-word.words ≡ [] = ap left (sym c.loop-word.invariant.3) ∙ c.in_default.ensures.steps.0 in (
      fs,
      c.loop-word.invariant.1,
      sym c.loop-word.invariant.2 ∙ ap (run c.args.name fs) e ∙ run_over c.args.name fs ∙ ap (λ t. Ok (fs, t)) (sym e),
    )
