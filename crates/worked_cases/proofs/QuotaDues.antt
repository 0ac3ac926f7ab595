-- The worked case.
use Rattle.std.proofs.Common.{◌≡◌, ℕ, ◌-◌, [], ◌∷◌, Ok, Err, sum, Result, refl, ap, ◌∙◌, rules, arith}
use Rattle.std.specs.Result.{IsOk}
use Rattle.metering.specs.Makes.{Makes, figures_check}
use Rattle.metering.specs.Figures.{moderate}
use Rattle.metering.specs.Limits.{block_count}
use Rattle.metering.specs.Verdict.{accepted}
use Rattle.metering.specs.declared.reading.Reading.{Reading}
use Rattle.metering.specs.declared.figures.Figures.{Figures}
use Rattle.metering.specs.declared.figures.FiguresRefusal.{FiguresRefusal}
use Rattle.agreements.specs.Meaning.{admitted}
use Rattle.agreements.specs.Quotas.{tabled, quota_due}
use Rattle.worked_cases.specs.Quota.{worked_energies, worked_dues, WorkedQuota}

by_definition : admitted (record { capacity = 0; blocks = tabled (quota_due 25 60000 40000 worked_energies) block_count }) ((25 - sum worked_energies) ∷ []) ≡ admitted worked_dues (0 ∷ [])
unfolding tabled
by_definition = refl

pub worked : WorkedQuota
worked r e =
    ap (λ es. admitted (record { capacity = 0; blocks = tabled (quota_due 25 60000 40000 es) block_count }) ((25 - sum es) ∷ [])) e ∙ by_definition

abbrev worked_figures : Figures
worked_figures = record { kind = 1; number = 1; demand = 0; blocks = worked_energies }

worked_fits : figures_check worked_figures ≡ accepted
unfolding moderate
worked_fits = refl

-- they are accepted
pub fits : (before after : Reading) (a : Result (Unit {0}) FiguresRefusal) → Makes worked_figures before a after → IsOk a
fits before after (Ok _) m = search rules
fits before after (Err e) m = let t = m.told ∙ worked_fits in let z : ◌≡◌ {A = ℕ} 0 1 = cc in absurd (omega arith)

-- figures that are accepted are stored
pub stored : (before after : Reading) (a : Result (Unit {0}) FiguresRefusal) → Makes worked_figures before a after → after.blocks ≡ worked_energies
stored before after (Ok _) m = m.left.same_blocks
stored before after (Err e) m = let t = m.told ∙ worked_fits in let z : ◌≡◌ {A = ℕ} 0 1 = cc in absurd (omega arith)
