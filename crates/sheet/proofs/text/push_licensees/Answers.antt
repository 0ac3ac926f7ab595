use Rattle.std.proofs.Common.{◌≡◌, arith, rules}
use Rattle.std.proofs.lemmas.List.{get_or_read}
use Rattle.sheet.specs.Text.{licensee_text}
use Rattle.sheet.proofs.Adding.{no_line, one_more}
use Rattle.sheet.proofs.text.push_licensees.Goals as goal

pub loop-k-init : goal.loop-k-init
loop-k-init c = (no_line (licensee_text c.args.sheet.now) c.args.text.now.bytes, omega arith)

pub loop-k-preserved : goal.loop-k-preserved
loop-k-preserved c =
    let here : c.as_str.result.now ≡ licensee_text c.args.sheet.now c.loop-k.k = search (rules, get_or_read) in (
      one_more (licensee_text c.args.sheet.now) c.loop-k.k _ _ _ _ c.loop-k.invariant.0 c.push_str.ensures.bytes here,
      omega (arith, c.loop-k.invariant.1, c.push_str.ensures.len, c.as_str.ensures.fits),
    )
