use Rattle.std.proofs.Common.{◌≡◌, take, ◌∙◌, arith, rules}
use Rattle.std.specs.List.{list_all}
use Rattle.std.proofs.lemmas.Bool.Decides.{nat_tests}
use Rattle.metering.specs.Verdict.{between}
use Rattle.tariffs.specs.Rows.{row_fits}
use Rattle.tariffs.proofs.Ranges.{each_all}
use Rattle.tariffs.proofs.row.Row.fits.Goals as goal

pub returns-then-self-wanted : goal.returns-then-self-wanted
unfolding row_fits
returns-then-self-wanted c =
    let figures = c.args.self.now.figures in
    let all : c.all_between.result ≡ list_all (between c.args.low c.args.high) (take c.args.wanted figures) = search rules in
    grind (arith, nat_tests, all ∙ each_all c.args.low c.args.high figures c.args.wanted (omega arith))

pub returns-else-self-wanted : goal.returns-else-self-wanted
unfolding row_fits
returns-else-self-wanted c = grind (arith, nat_tests)
