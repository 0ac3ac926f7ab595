use Rattle.std.proofs.Common.{refl, ◌∙◌, arith, length-set}
use Rattle.accounts.proofs.Growing.{grown}
use Rattle.accounts.proofs.Regular.{regular}
use Rattle.accounts.proofs.month.Month.with_reading.Goals as goal

pub invariant_of-result : goal.invariant_of-result
invariant_of-result g c =
    let m = c.args.m.now in
    let month = c.args.self.now in
    let rules = regular g.M.Methodology.shape (g.M.Methodology.meaning m) (g.met.M.Methodology.placed m) (g.met.M.Methodology.supplied m) in
    let more = grown rules month c.args.reading.now c.args.dues.now c.income_with.ensures.full c.requires.unread c.requires.moderate c.income_with.ensures.value c.sent_with.ensures in
    record {
      headed = omega arith;
      metered = omega arith;
      full = length-set _ _ _ ∙ month.full;
      listed = month.listed;
      earned = rw c.from.ensures more.earned;
      whole = rw c.from.ensures more.within;
      supplied = rw c.from.ensures more.supplied;
    }

pub returns : goal.returns
returns g c =
    let m = c.args.m.now in
    let rules = regular g.M.Methodology.shape (g.M.Methodology.meaning m) (g.met.M.Methodology.placed m) (g.met.M.Methodology.supplied m) in
    let more = grown rules c.args.self.now c.args.reading.now c.args.dues.now c.income_with.ensures.full c.requires.unread c.requires.moderate c.income_with.ensures.value c.sent_with.ensures in
    record {
      income = c.income_with.ensures.value;
      sent = c.sent_with.ensures;
      read = rw c.from.ensures refl;
      licensees = refl;
      whole = more.whole;
      readings = rw c.from.ensures more.readings;
    }
