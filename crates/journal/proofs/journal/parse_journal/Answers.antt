use Rattle.std.proofs.Common.{ℕ, length, Err, sym, subst, ap, ◌∙◌, rules, tests, arith}
use Rattle.std.proofs.lemmas.Result.{err_from_is_err_and, MatchResult-weaker}
use Rattle.words.specs.Pieces.{lines}
use Rattle.words.specs.Numbered.{numbered, lines_left}
use Rattle.words.proofs.Cut.{lines_few, numbered_first, numbered_none}
use Rattle.journal.specs.Lines.{saying, Turns, with_words}
use Rattle.journal.specs.Text.{Reads, read_on, journal_of}
use Rattle.journal.proofs.Reading.{line_stops, line_goes, lines_end}
use Rattle.journal.proofs.journal.parse_journal.Goals as goal

pub loop-line-init : goal.loop-line-init
unfolding journal_of
loop-line-init c =
    let text = c.args.text.now in (
      tt,
      tt,
      lines text,
      ap lines_left c.into_iter-line-iterator.ensures.into_iter_gives ∙ c.of-line-items.ensures,
      ap (λ s. read_on 0 s (lines text)) c.blank-draft.ensures,
      omega (arith, lines_few text),
    )

pub returns-in_err-map_err : goal.returns-in_err-map_err
returns-in_err-map_err c =
    let inv = c.loop-line.invariant in
    let n : ℕ = c.loop-line.last in
    let first = numbered_first n inv.2 _ _ _ (sym inv.3 ∙ c.in-Some.ensures.steps) in
    let turns = subst (λ ws. Turns (with_words (saying c.loop-line.draft) c.in-Some.line ws) c.add_line.result (saying c.add_line.new.self)) c.of.ensures c.add_line.ensures in
    let p = err_from_is_err_and c.from_residual.result c.from_residual.ensures.1 in
    let told = c.in_err-map_err.field-0.0 in
    rw (p.1, p.2)
    (subst (λ said. Reads said (Err told)) inv.4
    (line_stops n (saying c.loop-line.draft) inv.2 _ first.0 _ first.1 first.2 c.add_line.result _ told turns
    (MatchResult-weaker c.add_line.result c.in_err-map_err.ensures.cases (λ x h. h) (λ why h. search (rules, tests)))))

pub loop-line-preserved : goal.loop-line-preserved
loop-line-preserved c =
    let inv = c.loop-line.invariant in
    let n : ℕ = c.loop-line.last in
    let first = numbered_first n inv.2 _ _ _ (sym inv.3 ∙ c.in-Some.ensures.steps) in
    let turns = subst (λ ws. Turns (with_words (saying c.loop-line.draft) c.in-Some.line ws) c.add_line.result (saying c.add_line.new.self)) c.of.ensures c.add_line.ensures in (
      tt,
      tt,
      first.0,
      first.3 ∙ ap (λ k. numbered k first.0) (sym first.2),
      line_goes n (saying c.loop-line.draft) inv.2 _ first.0 _ first.1 first.2 c.add_line.result (saying c.add_line.new.self) turns (sym c.in_ok-map_err.ensures.variant) ∙ inv.4,
      omega (arith, inv.5, ap length first.1, first.2),
    )

pub returns : goal.returns
returns c =
    let inv = c.loop-line.invariant in
    let n : ℕ = c.loop-line.last in
    let none = numbered_none n inv.2 (sym inv.3 ∙ c.in-None.ensures.steps.0) in
    subst (λ said. Reads said c.finish.result) (sym (lines_end n (saying c.loop-line.draft)) ∙ sym (ap (read_on n (saying c.loop-line.draft)) none) ∙ inv.4) c.finish.ensures
