use Rattle.std.proofs.Common.{◌≡◌, slice_index, vec_items, ap, ◌∙◌, arith, rules}
use Rattle.agreements.specs.Meaning.{answer, refused}
use Rattle.agreements.specs.Indexes.{above, counted}
use Rattle.stations.specs.Layers.{base_meaning, layered}
use Rattle.stations.specs.lemmas.Layering.{was_refused, refused_layered, up_off}
use Rattle.stations.proofs.station.StationAgreement.ask.Goals as goal

pub returns-in_err-ask : goal.returns-in_err-ask
returns-in_err-ask c =
    let s = c.args.self.now in
    let r = c.args.reading.now in
    let m = base_meaning s.base in
    let x = c.in_err-ask.field-0.0 in
    let e = refused_layered (vec_items s.factors) m r x (was_refused (answer m r) x c.in_err-ask.ensures.answered) in
    record { answered = search rules; wrote = search rules }

pub returns-in_err-dues : goal.returns-in_err-dues
returns-in_err-dues c =
    let s = c.args.self.now in
    let r = c.args.reading.now in
    let m = base_meaning s.base in
    let fs = vec_items s.factors in
    let x = c.in_err-dues.field-0.0 in
    let is-factor = c.new.ensures ∙ ap (λ xs. counted (slice_index xs c.loop-factor.factor-index)) c.deref-factor-items.ensures.value in
    let e : answer (layered fs m) r ≡ refused x =
    up_off fs c.loop-factor.factor-index m r c.layer_above-layer.result c.new.result.ppm c.loop-factor.dues _ (omega arith)
    (c.layer_above-layer.ensures ∙ ap above c.loop-factor.invariant.1) is-factor c.loop-factor.invariant.0 x c.in_err-dues.ensures in
    record { answered = search rules; wrote = search rules }
