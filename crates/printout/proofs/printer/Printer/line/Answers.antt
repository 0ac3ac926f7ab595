use Rattle.printout.proofs.Numbering.{numbered_as_named}
use Rattle.printout.proofs.printer.Printer.line.Goals as goal

pub returns-clause-law : goal.returns-clause-law
returns-clause-law c = numbered_as_named
