use Rattle.std.proofs.Common.{◌∙◌, ap, Some, subst}
use Rattle.std.specs.Str.Parse.{ParsesUnsigned}
use Rattle.words.proofs.Digits.{figure_read}
use Rattle.words.proofs.figures.figure.Goals as goal

pub returns : goal.returns
returns c =
    let e = c.in_ok-digits.ensures in
    ap Some c.unwrap_or.ensures ∙ figure_read c.args.word.now e.0 c.parse.result (subst (λ text. ParsesUnsigned 32 10 text c.parse.result) e.1 c.parse.ensures.value.0)
