use Rattle.std.proofs.Common.{Ok, Err, refl}
use Rattle.history.proofs.desk.close.Goals as goal

pub returns-in-Ok : goal.returns-in-Ok
returns-in-Ok g c = (Ok tt, c.empty-sheet.result, c.close.new.sheet, refl, c.in-Ok.ensures)

pub returns-in-Err : goal.returns-in-Err
returns-in-Err g c = (Err c.in-Err.why, c.empty-sheet.result, c.close.new.sheet, refl, c.in-Err.ensures)
