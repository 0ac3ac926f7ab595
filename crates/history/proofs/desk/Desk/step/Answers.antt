use Rattle.std.proofs.Common.{refl}
use Rattle.history.specs.Slots.{slots_of}
use Rattle.history.proofs.Steps.{next_year, next_tariff, next_meter, next_deliver, next_close, next_draw, draws_long, stays}
use Rattle.history.proofs.desk.Desk.step.Goals as goal

pub returns-in-Year : goal.returns-in-Year
returns-in-Year g c =
    stays (λ shape market row serial. rw c.in-Year.is (next_year shape market row serial (slots_of c.args.others.now) c.in-Year.given c.year.result c.into.result _ _ _ c.into.ensures c.year.ensures))

pub returns-in-Tariff : goal.returns-in-Tariff
returns-in-Tariff g c =
    stays (λ shape market row serial. rw c.in-Tariff.is (next_tariff shape market row serial (slots_of c.args.others.now) c.in-Tariff.given c.tariff.result c.into-in-Tariff.result _ _ _ c.into-in-Tariff.ensures c.tariff.ensures))

pub returns-in-Meter : goal.returns-in-Meter
returns-in-Meter g c =
    stays (λ shape market row serial. rw c.in-Meter.is (next_meter shape market row serial (slots_of c.args.others.now) c.in-Meter.given c.meter.result c.into-in-Meter.result _ _ _ c.into-in-Meter.ensures c.meter.ensures))

pub returns-in-Deliver : goal.returns-in-Deliver
returns-in-Deliver g c =
    stays (λ shape market row serial. rw c.in-Deliver.is (next_deliver shape market row serial (slots_of c.args.others.now) c.in-Deliver.given c.deliver.result c.into-in-Deliver.result _ _ _ c.into-in-Deliver.ensures c.deliver.ensures))

pub returns-in-Close : goal.returns-in-Close
returns-in-Close g c =
    stays (λ shape market row serial. rw c.in-Close.is (next_close shape market row serial (slots_of c.args.others.now) c.in-Close.stated c.close.result _ _ _ c.close.ensures))

pub returns-in-Draw : goal.returns-in-Draw
returns-in-Draw g c =
    record {
      next = λ shape market row serial. rw c.in-Draw.is (next_draw shape market row serial (slots_of c.args.others.now) c.in-Draw.place c.draw.result _ _ _ _ c.draw.ensures.drawn);
      others_stay = refl;
      long = draws_long _ c.in-Draw.place _ c.draw.result _ _ c.draw.ensures.drawn;
      room = c.draw.ensures.room;
    }
