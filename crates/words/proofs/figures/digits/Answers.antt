use Rattle.std.proofs.Common.{rules, sym}
use Rattle.words.proofs.Digits.{figure_utf8}
use Rattle.words.proofs.figures.digits.Goals as goal

pub returns-then-is_figure : goal.returns-then-is_figure
returns-then-is_figure c =
    let text = figure_utf8 c.args.word.now (sym c.if-is_figure.ensures) in
    search rules
