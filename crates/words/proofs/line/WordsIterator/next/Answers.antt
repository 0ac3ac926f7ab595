use Rattle.std.proofs.Common.{◌≡◌, ◌∷◌, [], rules, length, sym, ap, ◌∙◌, arith}
use Rattle.words.specs.Pieces.{left, words, behind_word}
use Rattle.words.proofs.Parted.{words_none, words_cut}
use Rattle.words.proofs.line.WordsIterator.next.Goals as goal

pub returns-in_err-word-clause-steps : goal.returns-in_err-word-clause-steps
returns-in_err-word-clause-steps c =
    let none : left c.args.self.now ≡ [] = words_none c.args.self.now.rest.now (ap length c.in_err-word.ensures) in
    search rules

pub returns-clause-steps : goal.returns-clause-steps
returns-clause-steps c =
    let e = c.in_ok-word.ensures in
    words_cut c.args.self.now.rest.now (omega (arith, e.0, ap length e.1))
    ∙ ap (λ w. w ∷ words (behind_word c.args.self.now.rest.now)) (sym e.1)
    ∙ ap (λ rest. c.in_ok-word.word.now ∷ words rest) (sym e.2)

pub returns-clause-goes : goal.returns-clause-goes
returns-clause-goes c =
    let steps : left c.args.self.now ≡ c.in_ok-word.word.now ∷ left (record { rest = c.in_ok-word.behind }) = returns-clause-steps c in
    let fewer = ap length steps in
    record { on = λ _. (search rules, search rules, omega (arith, fewer)); keeps = search rules; rests = λ _. search rules }
