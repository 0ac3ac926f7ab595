use Rattle.std.proofs.Common.{◌≡◌, ◌+◌, take, get_or, ap, ◌∙◌, arith, length-take}
use Rattle.std.proofs.lemmas.List.{get_or-take}
use Rattle.methodology.specs.Heads.{head_at}
use Rattle.accounts.specs.Sheets.{no_line as no_head}
use Rattle.sheet.specs.Text.{head_line, head_text}
use Rattle.sheet.proofs.Adding.{no_line, one_more}
use Rattle.sheet.proofs.text.push_heads.Goals as goal

pub loop-k-init : goal.loop-k-init
loop-k-init c = (no_line (head_text c.args.sheet.now) c.args.text.now.bytes, omega arith)

pub loop-k-preserved : goal.loop-k-preserved
loop-k-preserved c =
    let s = c.args.sheet.now in
    let k = c.loop-k.k in
    let here : c.as_str.result.now ≡ head_text s k
    = c.as_str.ensures.value ∙ c.head_line.ensures
    ∙ ap (λ h. head_line h (get_or (take c.heads.result s.heads) k no_head)) c.head.ensures.value
    ∙ ap (head_line (head_at s.shape (k + 1))) (get_or-take c.heads.result s.heads k no_head (omega (arith, c.loop-k-test.true, length-take c.heads.result s.heads))) in (
      one_more (head_text s) k _ _ _ _ c.loop-k.invariant.0 c.push_str.ensures.bytes here,
      omega (arith, c.loop-k.invariant.1, c.push_str.ensures.len, c.as_str.ensures.fits),
    )
