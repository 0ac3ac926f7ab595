-- The worked cases, all of them together.
use Rattle.worked_cases.specs.Quota.{WorkedQuota}
use Rattle.worked_cases.specs.Adjustment.{WorkedAdjustment}
use Rattle.worked_cases.specs.Closing.{WorkedClosing}
use Rattle.worked_cases.specs.FirstMonth.{WorkedMonth}

pub record WorkedCases : Type 0 where
  pub quota : WorkedQuota
  pub adjustment : WorkedAdjustment
  pub closing : WorkedClosing
  pub month : WorkedMonth
