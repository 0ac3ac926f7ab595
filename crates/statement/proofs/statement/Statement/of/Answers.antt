use Rattle.std.proofs.Common.{◌≡◌, ◌+◌, ◌-◌, get_or, ap, ◌∙◌, subst, arith}
use Rattle.ledger.specs.declared.ledger.Ledger.{Ledger}
use Rattle.ledger.specs.Views.{till_of}
use Rattle.history.specs.Slots.{slots_of}
use Rattle.house.specs.Shown.{shows}
use Rattle.statement.specs.Tallies.{nothing, tallied}
use Rattle.statement.specs.Sums.{no_money, Sums, Holds}
use Rattle.statement.specs.Sums.{no_money}
use Rattle.statement.proofs.Stating.{stated}
use Rattle.statement.proofs.statement.Statement.of.Goals as goal

pub returns-clause-stated : goal.returns-clause-stated
returns-clause-stated g c market row serial others =
    stated g.M.Methodology.shape market row serial others c.args.calls.now c.args.performed.now.answers.items (slots_of c.args.performed.now.hand) (shows c.args.performed.now.house) c.shape-shape.result.revenues c.heads.result c.of-tally.result c.account.result c.places.result c.shape-shape.ensures.revenues
    (omega (arith, c.heads.ensures.value, c.shape-shape.ensures.revenues, c.shape-shape.ensures.intervals))
    (c.of-tally.ensures.value ∙ ap (λ answers. tallied c.shape-shape.result.revenues c.args.calls.now answers nothing) c.as_slice-answers.ensures.value)
    (subst (λ (l : Ledger). Sums c.of-tally.result l.books c.heads.result c.account.result) c.ledger.ensures c.account.ensures)
    (λ p low high.
    let same : p - 1 + 1 ≡ p = omega arith in
    let here = subst (λ (l : Ledger). Holds c.of-tally.result l.till (p - 1 + 1) (get_or c.places.result (p - 1) no_money)) c.ledger.ensures (c.places.ensures (p - 1) (omega arith)) in
    subst (λ q. Holds c.of-tally.result (till_of (shows c.args.performed.now.house)) q (get_or c.places.result (p - 1) no_money)) same here)
    c.args.performed.now.covered
