-- What stands under the heads adds up.
use Rattle.std.proofs.Common.{◌≡◌, ℕ, zero, suc, ◌+◌, ◌-◌, ◌*◌, ◌<◌, ◌≤◌, Bool, true, false, cond, eqb, leb, List, length, get_or, set, sym, refl, ◌∙◌, inl, inr, suc-mul, zero-mul, arith, get_or-set_other, get_or-set_same}
use Rattle.std.proofs.lemmas.Bool.{cases_eq, eq-eqb, ne_eqb, cond-true}
use Rattle.std.proofs.lemmas.Bool.Decides.{nat_tests}
use Rattle.metering.specs.Limits.{block_count}
use Rattle.methodology.specs.Limits.{head_limit}
use Rattle.accounts.specs.Sums.{sum_to}
use Rattle.accounts.proofs.Sums.{sum_none, sum_next, sum_same, sum_swap, sum_split, sum_place}
use Rattle.accounts.specs.Tables.{total, part, under_to, under}

cond_le : (b : Bool) (x : ℕ) → cond b x 0 ≤ x
cond_le true x = omega arith
cond_le false x = omega arith

sum_mono : (f g : ℕ → ℕ) (n : ℕ) → ((k : ℕ) → f k ≤ g k) → sum_to f n ≤ sum_to g n
unfolding sum_to
sum_mono f g zero h = omega arith
sum_mono f g (suc n) h = omega (arith, sum_mono f g n h, h n)

-- an interval's blocks are no more than all
pub part_le : (f : ℕ → ℕ) (blocks : List ℕ) (e n : ℕ) → sum_to (part f blocks e) n ≤ sum_to (λ b. get_or blocks b 0) n
unfolding part
part_le f blocks e n = sum_mono (part f blocks e) (λ b. get_or blocks b 0) n (λ k. cond_le (eqb (f k) e) (get_or blocks k 0))

sum_plus : (f : ℕ → ℕ) (n k : ℕ) → sum_to f n ≤ sum_to f (n + k)
sum_plus f n k = omega (arith, sum_split f n k)

pub sum_upto : (f : ℕ → ℕ) (n m : ℕ) → n ≤ m → sum_to f n ≤ sum_to f m
sum_upto f n m h =
    let e : n + (m - n) ≡ m = omega arith in
    rw e at (sum_plus f n (m - n))

-- before any block
pub under_none : (r : ℕ) (f : ℕ → ℕ) (first others : ℕ) (blocks : List ℕ) (k : ℕ) → under_to r f first others blocks 0 k ≡ cond (eqb k 0) first (cond (leb k r) others 0)
unfolding under_to sum_to
under_none r f first others blocks k = refl

-- at an interval stand its blocks
pub under_at : (r : ℕ) (f : ℕ → ℕ) (first others : ℕ) (blocks : List ℕ) (n e : ℕ) → 1 ≤ e → under_to r f first others blocks n (r + e) ≡ sum_to (part f blocks e) n
unfolding under_to
under_at r f first others blocks n e h =
    let z : eqb (r + e) 0 ≡ false = ne_eqb (r + e) 0 (omega arith) in
    let lo : leb (r + e) r ≡ false = grind (arith, nat_tests) in
    let same : r + e - r ≡ e = omega arith in
    simp (z, lo, same)

-- one block more goes to the head of its interval, and to no other
pub under_more : (r : ℕ) (f : ℕ → ℕ) (first others : ℕ) (blocks all : List ℕ) (i : ℕ) → length all ≡ head_limit → 1 ≤ f i → r + f i < head_limit → ((k : ℕ) → k < head_limit → get_or all k 0 ≡ under_to r f first others blocks i k) → (k : ℕ) → k < head_limit → get_or (set all (r + f i) (get_or all (r + f i) 0 + get_or blocks i 0)) k 0 ≡ under_to r f first others blocks (i + 1) k
unfolding under_to part
under_more r f first others blocks all i len low high inv k h =
    elim (cases_eq k (r + f i)) [
      | inl e ↦
          (let z : eqb k 0 ≡ false = ne_eqb k 0 (omega arith) in
          let lo : leb k r ≡ false = grind (arith, nat_tests) in
          let same : eqb (f i) (k - r) ≡ true = eq-eqb (f i) (k - r) (omega arith) in
          let new : get_or (set all (r + f i) (get_or all (r + f i) 0 + get_or blocks i 0)) k 0 ≡ get_or all (r + f i) 0 + get_or blocks i 0 = rw e (get_or-set_same all (r + f i) (get_or all (r + f i) 0 + get_or blocks i 0) 0 (omega arith)) in
          let old : get_or all (r + f i) 0 ≡ sum_to (part f blocks (k - r)) i = rw (sym e) (simp (z, lo) at (inv k h)) in
          simp (z, lo) (omega (arith, new, old, sum_next (part f blocks (k - r)) i, cond-true (eqb (f i) (k - r)) (get_or blocks i 0) 0 same)))
      | inr n ↦
          (let new = get_or-set_other all (r + f i) k (get_or all (r + f i) 0 + get_or blocks i 0) 0 n in
          let o = inv k h in
          let nx = sum_next (part f blocks (k - r)) i in
          elim (cases_eq k 0) [
            | inl z ↦ (let zz : eqb k 0 ≡ true = eq-eqb k 0 z in let oo = simp zz at o in simp zz (new ∙ oo))
            | inr z ↦ grind (arith, nat_tests)
          ])
    ]

sum_const : (a n : ℕ) → sum_to (λ k. a) n ≡ n * a
unfolding sum_to
sum_const a zero = omega (arith, zero-mul a)
sum_const a (suc n) = omega (arith, sum_const a n, suc-mul n a)

at_first : (r : ℕ) (f : ℕ → ℕ) (first others : ℕ) (blocks : List ℕ) → under r f first others blocks 0 ≡ first
unfolding under_to
at_first r f first others blocks = refl

at_other : (r : ℕ) (f : ℕ → ℕ) (first others : ℕ) (blocks : List ℕ) (j : ℕ) → j < r → under r f first others blocks (1 + j) ≡ others
unfolding under_to
at_other r f first others blocks j h =
    let z : eqb (1 + j) 0 ≡ false = ne_eqb (1 + j) 0 (omega arith) in
    let lo : leb (1 + j) r ≡ true = grind (arith, nat_tests) in
    simp (z, lo)

at_interval : (r : ℕ) (f : ℕ → ℕ) (first others : ℕ) (blocks : List ℕ) (j : ℕ) → under r f first others blocks (1 + r + j) ≡ sum_to (part f blocks (suc j)) block_count
at_interval r f first others blocks j =
    let e : 1 + r + j ≡ r + suc j = omega arith in
    rw e (under_at r f first others blocks block_count (suc j) (omega arith))

-- each block lies in one interval
blocks_all : (e : ℕ) (f : ℕ → ℕ) (blocks : List ℕ) → ((b : ℕ) → b < block_count → (1 ≤ f b) × (f b ≤ e)) → sum_to (λ j. sum_to (part f blocks (suc j)) block_count) e ≡ total blocks
unfolding total part
blocks_all e f blocks within =
    sum_swap (λ j. part f blocks (suc j)) block_count e ∙ sum_same (λ b. sum_to (λ j. part f blocks (suc j) b) e) (λ b. get_or blocks b 0) block_count (λ b h. sum_place (f b) e (get_or blocks b 0) (within b h).0 (within b h).1)

-- the demand heads and the intervals together: the first, the others as often as there are revenues, all blocks
pub under_all : (r e : ℕ) (f : ℕ → ℕ) (first others : ℕ) (blocks : List ℕ) → ((b : ℕ) → b < block_count → (1 ≤ f b) × (f b ≤ e)) → sum_to (under r f first others blocks) (1 + r + e) ≡ first + r * others + total blocks
under_all r e f first others blocks within =
    let u = under r f first others blocks in
    let one = sum_next u 0 in
    let two = sum_split u 1 r in
    let three = sum_split u (1 + r) e in
    let four = sum_same (λ j. u (1 + j)) (λ j. others) r (at_other r f first others blocks) in
    let five = sum_same (λ j. u (1 + r + j)) (λ j. sum_to (part f blocks (suc j)) block_count) e (λ j h. at_interval r f first others blocks j) in
    omega (arith, one, two, three, four, five, sum_none u, at_first r f first others blocks, sum_const others r, blocks_all e f blocks within)

pub under_le : (r : ℕ) (f : ℕ → ℕ) (first others : ℕ) (blocks : List ℕ) (bound k : ℕ) → first ≤ bound → others ≤ bound → total blocks ≤ bound → under r f first others blocks k ≤ bound
unfolding under_to total
under_le r f first others blocks bound k p q t = let l = part_le f blocks (k - r) block_count in grind (arith, nat_tests)
