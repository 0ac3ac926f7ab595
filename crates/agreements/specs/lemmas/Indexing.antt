-- The index layer's dues, from what its code has worked out.
use Rattle.std.specs.Prelude.{◌≡◌, ℕ, ◌*◌, ◌<◌, ◌≤◌, List, map, length, sum, Ok, Err, Result, nat_lt, refl}
use Rattle.std.proofs.Common.{sym, ap, ◌∙◌, arith}
use Rattle.std.proofs.lemmas.Nat.{mul-le}
use Rattle.std.proofs.lemmas.List.{length-map, get_or-map}
use Rattle.std.proofs.lemmas.List.Sums.{sum-map, sum_by-le-sum_by, get_or-le-sum_by}
use Rattle.std.proofs.lemmas.Bool.{lt-ltb, le-ltb, ltb-false, or_left, or_right, or_from, or_parts, cond-true, cond-false, cond_both}
use Rattle.metering.specs.declared.reading.Reading.{Reading}
use Rattle.agreements.specs.declared.dues.Dues.{Dues}
use Rattle.agreements.specs.declared.fault.Fault.{Fault}
use Rattle.agreements.specs.Limits.{due_limit, index_limit}
use Rattle.agreements.specs.Dues.{capacity_due, block_sum}
use Rattle.agreements.specs.Meaning.{Answer, admitted, refused, Meaning, answer, Within, Lawful}
use Rattle.agreements.specs.lemmas.Rows.{map_from_places}
use Rattle.agreements.specs.Indexes.{scaled, capped, scaled_dues, passes, over_ceiling, index_dues, indexed_answer, indexed}

-- the greatest factor is four times
pub scaled_at_most : (f due : ℕ) → f ≤ index_limit → scaled f due ≤ 4 * due
scaled_at_most f due h = omega (arith, mul-le due f due index_limit (omega arith) h)

-- dues pass the ceiling by what is due for capacity, by the blocks together, or not at all
module _ (layer f : ℕ) (d : Dues) where
  pub over_capacity : due_limit < capacity_due (scaled_dues f d) → Err (over_ceiling layer) ≡ index_dues layer f d
  over_capacity h = sym (cond-true (passes (scaled_dues f d)) _ _ (or_left _ _ (lt-ltb due_limit _ h)))

  pub over_blocks : due_limit < block_sum (scaled_dues f d) → Err (over_ceiling layer) ≡ index_dues layer f d
  over_blocks h = sym (cond-true (passes (scaled_dues f d)) _ _ (or_right _ _ (lt-ltb due_limit _ h)))

  pub in_limits : capacity_due (scaled_dues f d) ≤ due_limit → block_sum (scaled_dues f d) ≤ due_limit → Ok (scaled_dues f d) ≡ index_dues layer f d
  in_limits h k = sym (cond-false (passes (scaled_dues f d)) _ _ (or_from _ _ (le-ltb due_limit _ h) (le-ltb due_limit _ k)))

abbrev pub capped_dues : ℕ → Dues → Dues
capped_dues f d = record { capacity = capped (scaled f d.capacity); blocks = map (λ x. capped (scaled f x)) d.blocks }

capped_sum : (g : ℕ → ℕ) (xs : List ℕ) → sum (map (λ x. capped (g x)) xs) ≤ sum (map g xs)
capped_sum g xs =
    let c = λ (x : ℕ). capped (g x) in
    omega (arith, sum-map c xs, sum-map g xs, sum_by-le-sum_by c g xs (λ x. omega arith))

capped_same : (g : ℕ → ℕ) (xs : List ℕ) → sum (map (λ x. capped (g x)) xs) ≤ due_limit → map (λ x. capped (g x)) xs ≡ map g xs
capped_same g xs h =
    let c = λ (x : ℕ). capped (g x) in
    map_from_places g (map c xs) xs (length xs) (length-map xs c) refl
    (λ k l. omega (arith, get_or-map c xs k 0 0 l, sum-map c xs, get_or-le-sum_by c xs k 0 l))

-- capped dues pass the ceiling where the dues do, and are the dues where they keep it
module _ (layer f : ℕ) (d : Dues) where
  pub capped_over_capacity : due_limit < capacity_due (capped_dues f d) → Err (over_ceiling layer) ≡ index_dues layer f d
  capped_over_capacity h = over_capacity layer f d (omega arith)

  pub capped_over_blocks : due_limit < block_sum (capped_dues f d) → Err (over_ceiling layer) ≡ index_dues layer f d
  capped_over_blocks h = over_blocks layer f d (omega (arith, capped_sum (scaled f) d.blocks))

  pub capped_in_limits : capacity_due (capped_dues f d) ≤ due_limit → block_sum (capped_dues f d) ≤ due_limit → Ok (capped_dues f d) ≡ index_dues layer f d
  capped_in_limits h k =
      let same_capacity : capped (scaled f d.capacity) ≡ scaled f d.capacity = omega arith in
      let same_blocks = capped_same (scaled f) d.blocks k in
      let same : ◌≡◌ {A = Result Dues Fault} (Ok (capped_dues f d)) (Ok (scaled_dues f d)) = cc in
      same ∙ in_limits layer f d (omega arith) (omega (arith, ap sum same_blocks))

pub within_indexed : (layer f : ℕ) (a : Answer) → Within a → Within (indexed_answer layer f a)
within_indexed layer f (refused x) w = tt
within_indexed layer f (admitted d s) w =
    let e = scaled_dues f d in
    cond_both (passes e) (refused (over_ceiling layer)) (admitted e s) Within
    (λ _. tt)
    (λ no. let p = or_parts (nat_lt due_limit (capacity_due e)) (nat_lt due_limit (block_sum e)) no in
    record { capacity = ltb-false due_limit _ p.0; blocks = ltb-false due_limit _ p.1; full = length-map d.blocks _ ∙ w.full })

pub lawful_indexed : (f : ℕ) (m : Meaning) (r : Reading) → Lawful m r → Lawful (indexed f m) r
lawful_indexed f m r w = record { layered = omega arith; within = within_indexed _ f (answer m r) w.within }
