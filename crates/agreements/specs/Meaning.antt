-- What an agreement means: what a reading meets at each standing.
use Rattle.std.specs.Prelude.{◌≡◌, ℕ, ◌≤◌, List, length, Ok, Err, Result}
use Rattle.metering.specs.Limits.{block_count}
use Rattle.metering.specs.declared.reading.Reading.{Reading}
use Rattle.agreements.specs.declared.dues.Dues.{Dues}
use Rattle.agreements.specs.declared.fault.Fault.{Fault}
use Rattle.agreements.specs.Dues.{capacity_due, block_sum}
use Rattle.agreements.specs.Limits.{due_limit, layer_limit}

-- what a reading meets: its dues and the standing afterwards, or the fault for which it is not admitted
pub data Answer : Type 0 where
  admitted : Dues → List ℕ → Answer
  refused : Fault → Answer

-- the layer number; the standing, the numbers that booking moves; and the terms, which answer a reading at a standing
pub record Meaning : Type 0 where
  pub layer : ℕ
  pub standing : List ℕ
  pub terms : List ℕ → Reading → Answer

-- what a reading meets at the standing that there is
abbrev pub answer : Meaning → Reading → Answer
answer m r = m.terms m.standing r

-- what the caller is told
abbrev pub outcome : Answer → Result (Unit {0}) Fault
outcome (admitted d s) = Ok tt
outcome (refused f) = Err f

-- what the caller's table then holds
abbrev pub written : Answer → Dues → Dues
written (admitted d s) before = d
written (refused f) before = before

-- the standing once the reading is booked
abbrev pub standing_after : Answer → List ℕ → List ℕ
standing_after (admitted d s) before = s
standing_after (refused f) before = before

-- the meaning once the reading is booked: the standing alone moves
abbrev pub moved : Meaning → Reading → Meaning
moved m r = record { layer = m.layer; standing = standing_after (answer m r) m.standing; terms = m.terms }

-- dues that keep the ceiling, one for each block
pub record Moderate (d : Dues) : Type 0 where
  pub capacity : capacity_due d ≤ due_limit
  pub blocks : block_sum d ≤ due_limit
  pub full : length d.blocks ≡ block_count

-- what is given keeps the ceiling
abbrev pub Within : Answer → Type 0
Within (admitted d s) = Moderate d
Within (refused f) = Unit {0}

-- what every agreement keeps, at the standing that there is
pub record Lawful (m : Meaning) (r : Reading) : Type 0 where
  pub layered : m.layer ≤ layer_limit
  pub within : Within (answer m r)
