use Rattle.std.proofs.Common.{◌-◌, ◌<◌, length, None, refl, arith, get_or-set_other, get_or-set_same}
use Rattle.accounts.proofs.Counting.{one_filled_more}
use Rattle.accounts.proofs.Growing.{energy_within, taken_within}
use Rattle.accounts.proofs.month.Month.with_delivery.Goals as goal

pub by_head-taken-requires : goal.by_head-taken-requires
by_head-taken-requires g c = rw c.widened.ensures (omega (arith, energy_within c.args.reading.now))

pub invariant_of-licensees : goal.invariant_of-licensees
invariant_of-licensees g c =
    let reading = c.args.reading.now in
    let within = taken_within g.M.Methodology.shape.revenues (g.M.Methodology.meaning c.args.m.now).interval reading reading.demand reading.moderate in
    record {
      full = omega arith;
      fair = λ k h. omega (arith, rw (c.widened.ensures, c.from-demand.ensures) at (c.by_head-taken.ensures k h), within k);
    }

pub returns : goal.returns
returns g c =
    let reading = c.args.reading.now in
    let licensees = c.args.self.now.licensees in
    let i = reading.number - 1 in
    let lt : i < length licensees = omega (arith, c.args.self.now.listed, c.requires, reading.numbered) in
    record {
      income = refl;
      sent = refl;
      read = refl;
      here = rw c.from.ensures (rw (get_or-set_same licensees i _ None lt) (λ k h. rw (c.widened.ensures, c.from-demand.ensures) at (c.by_head-taken.ensures k h)));
      others = rw c.from.ensures (λ l n. get_or-set_other licensees i l _ None n);
      deliveries = rw c.from.ensures (one_filled_more licensees i _ lt c.requires.undelivered);
    }
