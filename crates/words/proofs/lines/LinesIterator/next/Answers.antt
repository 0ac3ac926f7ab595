use Rattle.std.proofs.Common.{◌≡◌, ℕ, ◌+◌, [], ◌∷◌, length, rules, sym, ap, ◌∙◌, arith}
use Rattle.std.proofs.lemmas.Bool.{eqb-true, eqb-false}
use Rattle.words.specs.Pieces.{lines, behind_line}
use Rattle.words.specs.Numbered.{numbered}
use Rattle.words.proofs.Cut.{lines_cut, lines_none, behind_shorter}
use Rattle.words.proofs.lines.LinesIterator.next.Goals as goal

pub returns-then-is_empty-clause-steps : goal.returns-then-is_empty-clause-steps
returns-then-is_empty-clause-steps c =
    let rest = c.args.self.now.rest.now in
    let none : lines rest ≡ [] = lines_none rest (eqb-true (length rest) 0 (sym c.if-is_empty.ensures)) in
    (ap (numbered c.args.self.now.taken) none, ap (numbered c.args.self.now.taken) none)

pub invariant_of-self : goal.invariant_of-self
invariant_of-self c =
    let rest = c.args.self.now.rest.now in
    let some : length rest ≡ 0 → ⊥ = eqb-false (length rest) 0 (sym c.if-is_empty.ensures) in
    record { countable = omega (arith, behind_shorter rest (omega arith), ap length c.next_line.ensures.back, c.args.self.now.countable) }

pub returns-clause-steps : goal.returns-clause-steps
returns-clause-steps c =
    let rest = c.args.self.now.rest.now in
    let n : ℕ = c.args.self.now.taken in
    let some : length rest ≡ 0 → ⊥ = eqb-false (length rest) 0 (sym c.if-is_empty.ensures) in
    ap (numbered n) (lines_cut rest (omega arith))
    ∙ ap (λ line. (n + 1, line) ∷ numbered (n + 1) (lines (behind_line rest))) (sym c.next_line.ensures.front)
    ∙ ap (λ behind. (n + 1, c.next_line.result.0.now) ∷ numbered (n + 1) (lines behind)) (sym c.next_line.ensures.back)

pub returns-clause-goes : goal.returns-clause-goes
returns-clause-goes c =
    let n : ℕ = c.args.self.now.taken in
    let steps : numbered n (lines c.args.self.now.rest.now) ≡ (n + 1, c.next_line.result.0.now) ∷ numbered (n + 1) (lines c.next_line.result.1.now) = returns-clause-steps c in
    let fewer = ap length steps in
    record { on = λ _. (search rules, search rules, omega (arith, fewer)); keeps = search rules; rests = λ _. search rules }
