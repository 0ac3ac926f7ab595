use Rattle.std.proofs.Common.{◌≡◌, vec_items, Ok, refl, ap, ◌∙◌}
use Rattle.agreements.specs.Meaning.{answer, outcome}
use Rattle.stations.specs.Layers.{base_meaning, layered}
use Rattle.stations.specs.lemmas.Layering.{below_admitted, moved_layered}
use Rattle.stations.proofs.station.StationAgreement.book.Goals as goal
use Rattle.stations.proofs.station.StationAgreement.book.Goals.{After-book}

pub returns-clause-moves : goal.returns-clause-moves
returns-clause-moves c =
    let s = c.args.self.now in
    let fs = vec_items s.factors in
    ap (layered fs) c.book.ensures.moves ∙ moved_layered fs (base_meaning s.base) c.args.reading.now c.in_ok-ask.ensures.answered

-- what came through the layers is admitted below
admitted_below : (c : After-book) → Ok tt ≡ outcome (answer (base_meaning c.args.self.now.base) c.args.reading.now)
admitted_below c =
    let m = base_meaning c.args.self.now.base in
    let r = c.args.reading.now in
    below_admitted (vec_items c.args.self.now.factors) m r c.in_ok-ask.ensures.answered (answer m r) refl

pub returns-in_err-book-clause-answered : goal.returns-in_err-book-clause-answered
returns-in_err-book-clause-answered c =
    let below = admitted_below (goal.at.returns-in_err-book-clause-answered c).After-book in
    let told = c.in_err-book.ensures.answered in
    cc

pub returns-in_err-book-clause-moves : goal.returns-in_err-book-clause-moves
returns-in_err-book-clause-moves c =
    let below = admitted_below (goal.at.returns-in_err-book-clause-moves c).After-book in
    let told = c.in_err-book.ensures.answered in
    absurd cc
