-- Figures that the rules accept make a reading.
use Rattle.std.proofs.Common.{◌≡◌, ℕ, List, Ok, Err, Result, refl, ◌∙◌}
use Rattle.std.specs.Result.{IsOk}
use Rattle.metering.specs.declared.kind.Kind.{Kind}
use Rattle.metering.specs.declared.kind.Kind.TheVariants.{Generator, Licensee}
use Rattle.metering.specs.declared.reading.Reading.{Reading}
use Rattle.metering.specs.declared.figures.FiguresRefusal.{FiguresRefusal}
use Rattle.metering.specs.Figures.{moderate}
use Rattle.metering.specs.Verdict.{accepted, refused}
use Rattle.metering.specs.Refusals.{figures_code}
use Rattle.metering.specs.Makes.{figures_check}
use Rattle.worked_figures.specs.FirstCalls.{figures_of, Accepts, in_blocks}

made : (kind : Kind) (number demand : ℕ) (energies : List ℕ) (r : Result Reading FiguresRefusal) → figures_check (figures_of kind number demand energies) ≡ accepted → Accepts kind number demand energies r → IsOk r
made kind number demand energies (Ok x) fits h = refl
made kind number demand energies (Err why) fits h = let different : refused (figures_code why).number (figures_code why).detail ≡ accepted = h ∙ fits in cc

pub sent : (r : Result Reading FiguresRefusal) → Accepts Generator 1 100 (in_blocks 20 30 20) r → IsOk r
unfolding moderate
sent r h = made Generator 1 100 (in_blocks 20 30 20) r refl h

pub taken : (r : Result Reading FiguresRefusal) → Accepts Licensee 1 90 (in_blocks 18 28 19) r → IsOk r
unfolding moderate
taken r h = made Licensee 1 90 (in_blocks 18 28 19) r refl h
