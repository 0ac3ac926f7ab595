use Rattle.std.proofs.Common.{rules}
use Rattle.strangers.specs.lemmas.Turning.{turned, books_turned}
use Rattle.strangers.proofs.reversed.ReversedBank.book_at.Goals as goal

pub returns : goal.returns
returns g c =
    let ms = g.B.Bank.row c.args.self.now.bank in
    let e = turned ms c.args.place in
    let there = c.turned-there.ensures in
    record { answered = search rules; wrote = search rules; moves = books_turned ms c.args.place c.args.reading.now _ (rw there at c.book_at.ensures.moves) }

pub returns-in_err-book_at : goal.returns-in_err-book_at
returns-in_err-book_at g c =
    let ms = g.B.Bank.row c.args.self.now.bank in
    let e = turned ms c.args.place in
    let there = c.turned-there.ensures in
    record { answered = search rules; wrote = search rules; moves = books_turned ms c.args.place c.args.reading.now _ (rw there at c.book_at.ensures.moves) }
