use Rattle.worked_figures.proofs.Acceptance.{taken}
use Rattle.worked_figures.proofs.readings.taken.Goals as goal

pub unwrap-requires : goal.unwrap-requires
unwrap-requires c = taken c.measured.result c.measured.ensures
