use Rattle.worked_cases.proofs.QuotaDues.{fits, stored}
use Rattle.worked_cases.proofs.quota.worked_reading.Goals as goal

pub unwrap-requires : goal.unwrap-requires
unwrap-requires c = fits _ _ _ c.make_reading.ensures

pub returns : goal.returns
returns c = stored _ _ _ c.make_reading.ensures
