use Rattle.std.proofs.Common.{rules}
use Rattle.settlement.specs.Closing.{Over}
use Rattle.closing.specs.Heads.{seen_in}
use Rattle.closing.proofs.Searching.{searched}
use Rattle.closing.proofs.findings.Findings.first_over.Goals as goal

pub returns : goal.returns
returns g c =
    searched _ _ _ c.first_head.ensures (Over (seen_in c.args.self.now)) _ c.heads.ensures.value (λ k h. (λ told. search rules, λ told. search rules))
