-- The index layer: each due of the agreement below, times a factor in millionths.
use Rattle.std.specs.Prelude.{ℕ, ◌+◌, ◌-◌, ◌^◌, min, Bool, cond, ◌&&◌, ◌||◌, map, Ok, Err, Result, nat_le, nat_lt}
use Rattle.arith.specs.Scaling.{whole_ppm, millionths}
use Rattle.agreements.specs.declared.dues.Dues.{Dues}
use Rattle.agreements.specs.declared.fault.Cause.TheVariants.{Ceiling}
use Rattle.agreements.specs.declared.fault.Fault.{Fault}
use Rattle.agreements.specs.Dues.{capacity_due, block_sum}
use Rattle.agreements.specs.Limits.{due_limit, index_limit, layer_limit}
use Rattle.agreements.specs.Meaning.{Answer, admitted, refused, Meaning}

-- a number outside 1 to 4,000,000 counts as 1,000,000, which leaves dues as they are
abbrev pub counted : ℕ → ℕ
counted f = cond (nat_le 1 f && nat_le f index_limit) f whole_ppm

-- a due under a factor, rounded down
abbrev pub scaled : ℕ → ℕ → ℕ
scaled f due = millionths f due

-- the greatest number of 64 bits stands for any more
abbrev pub capped : ℕ → ℕ
capped n = min n (2 ^ 64 - 1)

abbrev pub scaled_dues : ℕ → Dues → Dues
scaled_dues f d = record { capacity = scaled f d.capacity; blocks = map (scaled f) d.blocks }

-- the capacity due or the block sum passes the ceiling
abbrev pub passes : Dues → Bool
passes d = nat_lt due_limit (capacity_due d) || nat_lt due_limit (block_sum d)

-- the fault of a layer whose dues would pass the ceiling
abbrev pub over_ceiling : ℕ → Fault
over_ceiling layer = record { cause = Ceiling; layer = layer }

-- the dues under a factor, or the fault of the layer
abbrev pub index_dues : ℕ → ℕ → Dues → Result Dues Fault
index_dues layer f d =
    cond (passes (scaled_dues f d)) (Err (over_ceiling layer)) (Ok (scaled_dues f d))

-- what a layer makes of the answer below it, whose fault it hands up
abbrev pub indexed_answer : ℕ → ℕ → Answer → Answer
indexed_answer layer f (refused fault) = refused fault
indexed_answer layer f (admitted d s) =
    cond (passes (scaled_dues f d)) (refused (over_ceiling layer)) (admitted (scaled_dues f d) s)

-- the number of the layer above one: the count stops at 255
abbrev pub above : ℕ → ℕ
above layer = min layer_limit (layer + 1)

-- an agreement under a layer: the standing is the agreement's own
abbrev pub indexed : ℕ → Meaning → Meaning
indexed f m =
    record {
      layer = above m.layer;
      standing = m.standing;
      terms = λ s r. indexed_answer (above m.layer) f (m.terms s r);
    }
