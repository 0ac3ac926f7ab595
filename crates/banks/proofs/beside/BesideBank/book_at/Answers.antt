use Rattle.banks.proofs.beside.BesideBank.book_at.Goals as goal

pub returns-in_ok-book_at-in-Left-clause-moves : goal.returns-in_ok-book_at-in-Left-clause-moves
returns-in_ok-book_at-in-Left-clause-moves g c =
    let on = rw c.in-Left.is at c.in_ok-there.ensures in
    on.books _ _ c.book_at.ensures.moves

pub returns-in_err-book_at-in-Left-clause-moves : goal.returns-in_err-book_at-in-Left-clause-moves
returns-in_err-book_at-in-Left-clause-moves g c =
    let on = rw c.in-Left.is at c.in_ok-there.ensures in
    on.books _ _ c.book_at.ensures.moves

pub returns-in_ok-book_at-in-Right-clause-moves : goal.returns-in_ok-book_at-in-Right-clause-moves
returns-in_ok-book_at-in-Right-clause-moves g c =
    let on = rw c.in-Right.is at c.in_ok-there.ensures in
    on.books _ _ c.book_at-in-Right.ensures.moves

pub returns-in_err-book_at-in-Right-clause-moves : goal.returns-in_err-book_at-in-Right-clause-moves
returns-in_err-book_at-in-Right-clause-moves g c =
    let on = rw c.in-Right.is at c.in_ok-there.ensures in
    on.books _ _ c.book_at-in-Right.ensures.moves
