-- Answers through index layers, one above another.
use Rattle.std.specs.Prelude.{◌≡◌, ℕ, zero, suc, ◌+◌, ◌<◌, ◌≤◌, min, Bool, true, false, cond, List, [], ◌∷◌, length, take, Ok, Err, Result, slice_index, refl}
use Rattle.std.proofs.Common.{sym, ap, ◌∙◌, arith}
use Rattle.std.proofs.lemmas.List.Sums.{fold_more}
use Rattle.metering.specs.declared.reading.Reading.{Reading}
use Rattle.agreements.specs.declared.dues.Dues.{Dues}
use Rattle.agreements.specs.declared.fault.Fault.{Fault}
use Rattle.agreements.specs.Limits.{layer_limit}
use Rattle.agreements.specs.Meaning.{Meaning, Answer, admitted, refused, answer, outcome, standing_after, moved, Lawful}
use Rattle.agreements.specs.Indexes.{counted, scaled_dues, passes, over_ceiling, index_dues, indexed_answer, above, indexed}
use Rattle.agreements.specs.lemmas.Bounds.{two_part_lawful, quota_lawful}
use Rattle.agreements.specs.lemmas.Indexing.{lawful_indexed}
use Rattle.stations.specs.declared.base.Base.{Base}
use Rattle.stations.specs.declared.base.Base.TheVariants.{TwoPart, Quota}
use Rattle.stations.specs.Layers.{base_meaning, layered}

pub base_lawful : (b : Base) (r : Reading) → Lawful (base_meaning b) r
base_lawful (TwoPart t) r = two_part_lawful t r
base_lawful (Quota q) r = quota_lawful q r

pub base_layer : (b : Base) → (base_meaning b).layer ≡ 0
base_layer (TwoPart t) = refl
base_layer (Quota q) = refl

pub layer_layered : (fs : List ℕ) (m : Meaning) → m.layer ≤ layer_limit → (layered fs m).layer ≡ min layer_limit (m.layer + length fs)
layer_layered [] m h = omega arith
layer_layered (f ∷ fs) m h = layer_layered fs (indexed (counted f) m) (omega arith) ∙ omega arith

pub lawful_layered : (fs : List ℕ) (m : Meaning) (r : Reading) → Lawful m r → Lawful (layered fs m) r
lawful_layered [] m r w = w
lawful_layered (f ∷ fs) m r w = lawful_layered fs (indexed (counted f) m) r (lawful_indexed (counted f) m r w)

-- a fault comes up unaltered
pub refused_layered : (fs : List ℕ) (m : Meaning) (r : Reading) (x : Fault) → answer m r ≡ refused x → answer (layered fs m) r ≡ refused x
refused_layered [] m r x e = e
refused_layered (f ∷ fs) m r x e =
    refused_layered fs (indexed (counted f) m) r x (ap (indexed_answer (above m.layer) (counted f)) e)

refused_up : (fs : List ℕ) (i : ℕ) (m : Meaning) (r : Reading) (x : Fault) → answer (layered (take i fs) m) r ≡ refused x → answer (layered fs m) r ≡ refused x
refused_up fs zero m r x e = refused_layered fs m r x e
refused_up [] (suc i) m r x e = e
refused_up (f ∷ fs) (suc i) m r x e = refused_up fs i (indexed (counted f) m) r x e

-- one layer more: the same test makes the answer and the dues
by_test_off : (b : Bool) (d : Dues) (s : List ℕ) (x y : Fault) → ◌≡◌ {A = Result Dues Fault} (Err y) (cond b (Err x) (Ok d)) → cond b (refused x) (admitted d s) ≡ refused y
by_test_off true d s x y z = cc
by_test_off false d s x y z = cc

-- from the layers below the next factor to that layer
module _ (fs : List ℕ) (i : ℕ) (m : Meaning) (r : Reading) (layer f : ℕ) (d : Dues) (s : List ℕ) (h : i < length fs) (is-layer : layer ≡ above (layered (take i fs) m).layer) (is-factor : f ≡ counted (slice_index fs i)) (so_far : answer (layered (take i fs) m) r ≡ admitted d s) where
  next : layered (take (i + 1) fs) m ≡ indexed (counted (slice_index fs i)) (layered (take i fs) m)
  next = fold_more (λ below g. indexed (counted g) below) m fs i 0 h

  -- the answer of that layer, by the dues that the code worked out
  next_answer : answer (layered (take (i + 1) fs) m) r ≡ cond (passes (scaled_dues f d)) (refused (over_ceiling layer)) (admitted (scaled_dues f d) s)
  next_answer =
      ap (λ n. answer n r) next
      ∙ ap (indexed_answer (above (layered (take i fs) m).layer) (counted (slice_index fs i))) so_far
      ∙ sym (ap (λ l. indexed_answer l f (admitted d s)) is-layer ∙ ap (λ g. indexed_answer (above (layered (take i fs) m).layer) g (admitted d s)) is-factor)

  pub up_off : (x : Fault) → Err x ≡ index_dues layer f d → answer (layered fs m) r ≡ refused x
  up_off x off = refused_up fs (i + 1) m r x (next_answer ∙ by_test_off (passes (scaled_dues f d)) (scaled_dues f d) s (over_ceiling layer) x off)

-- what an outcome tells of the answer
pub was_refused : (a : Answer) (x : Fault) → Err x ≡ outcome a → a ≡ refused x
was_refused (admitted d s) x e = cc
was_refused (refused y) x e = cc

-- what comes through the layers came through the lowest
pub below_admitted : (fs : List ℕ) (m : Meaning) (r : Reading) → Ok tt ≡ outcome (answer (layered fs m) r) → (a : Answer) → answer m r ≡ a → Ok tt ≡ outcome a
below_admitted fs m r ok (admitted d s) e = refl
below_admitted fs m r ok (refused x) e = ok ∙ ap outcome (refused_layered fs m r x e)

by_test_standing : (b : Bool) (d : Dues) (s t : List ℕ) (x : Fault) → Ok tt ≡ outcome (cond b (refused x) (admitted d t)) → standing_after (cond b (refused x) (admitted d t)) s ≡ t
by_test_standing true d s t x ok = cc
by_test_standing false d s t x ok = refl

same_standing : (layer f : ℕ) (a : Answer) (s : List ℕ) → Ok tt ≡ outcome (indexed_answer layer f a) → standing_after (indexed_answer layer f a) s ≡ standing_after a s
same_standing layer f (refused x) s ok = refl
same_standing layer f (admitted d t) s ok = by_test_standing (passes (scaled_dues f d)) (scaled_dues f d) s t (over_ceiling layer) ok

-- booking below is booking above, unless a layer refuses
pub moved_layered : (fs : List ℕ) (m : Meaning) (r : Reading) → Ok tt ≡ outcome (answer (layered fs m) r) → layered fs (moved m r) ≡ moved (layered fs m) r
moved_layered [] m r ok = refl
moved_layered (f ∷ fs) m r ok =
    let n = indexed (counted f) m in
    let step : indexed (counted f) (moved m r) ≡ moved n r =
    ap (λ s. record { layer = above m.layer; standing = s; terms = n.terms })
    (sym (same_standing (above m.layer) (counted f) (answer m r) m.standing (below_admitted fs n r ok (answer n r) refl))) in
    ap (layered fs) step ∙ moved_layered fs n r ok
