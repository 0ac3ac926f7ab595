use Rattle.std.proofs.Common.{refl, ap}
use Rattle.settlement.proofs.Keeping.{every_closing}
use Rattle.ledger.proofs.Months.{every_run}
use Rattle.house.proofs.house.House.new.Goals as goal

pub returns : goal.returns
returns g c =
    record {
      made =
          record {
            stage_is = refl;
            no_year = c.none.ensures;
            no_tariff = λ k. ap (λ r. r.published) (c.unset.ensures.none k);
            unused = c.new.ensures;
            opened = c.open.ensures;
            money = c.new-2.ensures;
          };
      unrated = c.unset.ensures.none;
      over = record { shape_is = refl; market_is = refl; row_is = refl };
      law = every_run every_closing g.M.Methodology.shape (g.M.Methodology.meaning c.args.methodology) (g.B.Bank.row c.args.bank) c.args.serial;
    }
