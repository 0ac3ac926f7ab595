use Rattle.std.proofs.Common.{ap, ◌∙◌}
use Rattle.agreements.specs.Meaning.{answer, written}
use Rattle.worked_cases.proofs.QuotaDues.{worked}
use Rattle.worked_cases.proofs.quota.worked_quota.Goals as goal

pub returns-clause-value : goal.returns-clause-value
returns-clause-value c =
    let made = rw c.unwrap-quota.ensures at c.new.ensures in
    c.ask.ensures.wrote
    ∙ ap (λ m. written (answer m c.worked_reading.result) c.empty-dues.result) made.1
    ∙ ap (λ a. written a c.empty-dues.result) (worked c.worked_reading.result c.worked_reading.ensures)

pub returns-clause-law : goal.returns-clause-law
returns-clause-law c = worked
