use Rattle.std.proofs.Common.{◌≡◌, ◌+◌, ◌*◌, [], ◌∷◌, ◌++◌, length, length-append, rules, sym, ap, ◌∙◌, subst, arith, lit≤}
use Rattle.std.proofs.lemmas.List.{get_or-replicate}
use Rattle.std.proofs.lemmas.Slice.Zip.{zip_turn}
use Rattle.statement.specs.declared.tally.PlaceTally.{PlaceTally}
use Rattle.metering.specs.Limits.{place_limit}
use Rattle.statement.specs.Tallies.{nothing, no_tally, taken}
use Rattle.statement.specs.Bounds.{turn, Small, Within}
use Rattle.statement.proofs.Tallying.{tallied_none, tallied_next}
use Rattle.statement.proofs.tally.Tally.of.Goals as goal

none_within : Within 0 nothing
none_within =
    record {
      bills = lit≤ tt;
      margins = lit≤ tt;
      dues = lit≤ tt;
      shares = lit≤ tt;
      places = λ k h. subst (Small 0) (sym (get_or-replicate {A = PlaceTally} place_limit k no_tally no_tally h)) (record { given = lit≤ tt; released = lit≤ tt });
    }

pub loop-call-init : goal.loop-call-init
loop-call-init c = (
  (tt, tt),
  tt,
  c.nothing-tally.ensures ∙ sym (tallied_none c.args.shape.revenues c.args.calls.now c.args.answers.now nothing),
  subst (Within 0) (sym c.nothing-tally.ensures) none_within,
)

pub loop-call-preserved : goal.loop-call-preserved
loop-call-preserved c =
    let k = length c.loop-call.yielded in
    let first : c.into_iter-call-iterator.result.a.rest.now ≡ c.args.calls.now = search rules in
    let second : c.into_iter-call-iterator.result.b.rest.now ≡ c.args.answers.now = search rules in
    let turn_at = zip_turn c.args.calls.now c.args.answers.now c.loop-call.yielded c.into_iter-call-iterator.result c.loop-call.call-iterator c.next.new.self c.next.result first second c.loop-call.yielded_by (c.in-Some.call, c.in-Some.answer) c.in-Some.is c.next.ensures.steps in
    let longer : length (c.loop-call.yielded ++ (c.in-Some.call, c.in-Some.answer) ∷ []) ≡ k + 1 = length-append c.loop-call.yielded ((c.in-Some.call, c.in-Some.answer) ∷ []) in
    let more : k * turn + turn ≡ (k + 1) * turn = omega arith in
    rw longer (
      (tt, tt),
      tt,
      c.take.ensures.value ∙ ap (taken c.args.shape.revenues c.in-Some.call.now c.in-Some.answer.now) c.loop-call.invariant.2
          ∙ sym (tallied_next c.args.shape.revenues c.args.calls.now c.args.answers.now k c.in-Some.call.now c.in-Some.answer.now nothing turn_at.0 c.requires.same (turn_at.2 c.in-Some.call.now) (turn_at.3 c.in-Some.answer.now)),
      subst (λ n. Within n c.take.new.self) more (c.take.ensures.within (k * turn) c.loop-call.invariant.3),
    )
