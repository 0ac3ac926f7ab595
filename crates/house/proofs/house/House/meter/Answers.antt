use Rattle.std.proofs.Common.{◌≡◌, is_ok, sym, ap, ◌∙◌, arith}
use Rattle.std.proofs.lemmas.Bool.{le-leb}
use Rattle.agreements.specs.declared.dues.Dues.{Dues}
use Rattle.agreements.specs.Dues.{capacity_due, block_sum}
use Rattle.banks.specs.Rows.{at_place, written_at}
use Rattle.ledger.specs.Terms.{dues_at}
use Rattle.house.proofs.Dues.{dues_within, written_over, adds, second_fails}
use Rattle.house.proofs.house.House.meter.Goals as goal

pub overflow_add-worth : goal.overflow_add-worth
overflow_add-worth g c =
    let bank = c.args.self.now.bank in
    let reading = c.args.reading.now in
    let place = at_place (g.B.Bank.row bank) reading.number in
    let table : c.ask_at.new.table ≡ dues_at place reading = c.ask_at.ensures.wrote ∙ ap (λ (d : Dues). written_at place reading d) c.empty-dues.ensures in
    let within = dues_within place reading (g.met.B.Bank.lawful bank reading.number reading) in
    let capacity = c.capacity_due.ensures ∙ ap capacity_due table in
    let blocks = c.block_sum.ensures ∙ ap block_sum table in
    omega (arith, capacity, blocks, within.0, within.1)

pub unwrap-requires-2 : goal.unwrap-requires-2
unwrap-requires-2 g c =
    let bank = c.args.self.now.bank in
    let reading = c.args.reading.now in
    let place = at_place (g.B.Bank.row bank) reading.number in
    let unread = second_fails _ _ (le-leb 1 reading.number reading.numbered.0) (sym c.is_read.ensures ∙ c.if-is_read.false) in
    let table : c.book_at.new.table ≡ dues_at place reading = c.book_at.ensures.wrote ∙ written_over place reading _ (ap is_ok (sym c.in_ok-ask_at.ensures.answered)) in
    ap is_ok (c.add_reading.ensures.answered ∙ adds c.args.self.now.ledger.month place reading _ unread (g.met.B.Bank.lawful bank reading.number reading) table)
