use Rattle.std.proofs.Common.{vec_items}
use Rattle.banks.specs.lemmas.Lists.{has, books_item}
use Rattle.banks.proofs.listed.ListedBank.book_at.Goals as goal

pub returns-clause-moves : goal.returns-clause-moves
returns-clause-moves g c =
    let f = g.T.Agreement.meaning in
    let xs = vec_items c.args.self.now.list in
    let i = c.in_ok-index.ensures in
    let e = has f xs c.args.place c.in_ok-index.index c.index_mut.result.now i.0 i.1 c.index_mut.ensures.value in
    books_item f xs c.args.place c.in_ok-index.index _ _ c.args.reading.now i.0 e c.book.ensures.moves

pub returns-in_err-book-clause-moves : goal.returns-in_err-book-clause-moves
returns-in_err-book-clause-moves g c =
    let f = g.T.Agreement.meaning in
    let xs = vec_items c.args.self.now.list in
    let i = c.in_ok-index.ensures in
    let e = has f xs c.args.place c.in_ok-index.index c.index_mut.result.now i.0 i.1 c.index_mut.ensures.value in
    books_item f xs c.args.place c.in_ok-index.index _ _ c.args.reading.now i.0 e c.book.ensures.moves
