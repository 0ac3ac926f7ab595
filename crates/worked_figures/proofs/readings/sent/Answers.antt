use Rattle.worked_figures.proofs.Acceptance.{sent}
use Rattle.worked_figures.proofs.readings.sent.Goals as goal

pub unwrap-requires : goal.unwrap-requires
unwrap-requires c = sent c.measured.result c.measured.ensures
