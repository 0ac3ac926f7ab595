-- A head's adjustment, and its tests as one.
use Rattle.std.proofs.Common.{◌≡◌, ℕ, zero, suc, ◌^◌, ◌<◌, ◌≤◌, true, ◌&&◌, leb, ℤ, pos, negsuc, ◌+ℤ◌, ◌≤ℤ◌, nat_abs, Bool, Ok, refl, sym, ap, ◌∙◌, le_trans, arith, w64, SFits, to_z, of_z}
use lib.Signed.{le_z}
use mir.Syntax.{w128}
use Rattle.std.specs.Int.{FitsUnsigned}
use Rattle.std.proofs.lemmas.Int.{ints, to_z-of_z}
use Rattle.std.proofs.lemmas.Bool.{and_parts, leb-true, false≢true, cond_both}
use Rattle.arith.specs.Division.{floor}
use Rattle.arith.specs.Interest.{adjustment_of}
use Rattle.arith.specs.Money.{demand_rate_limit, energy_rate_limit}
use Rattle.arith.specs.Scaling.{more_by_signed}
use Rattle.methodology.specs.declared.shape.Shape.{Shape}
use Rattle.tariffs.specs.declared.filing.Filing.{Filing}
use Rattle.tariffs.specs.Publishing.{demand_head, limit_at, base_rate, per_unit, adjustment_at, published_rate, energy_fits, keeps, rate_fits}

-- over some quantity an adjustment has its two parts
pub adjusted_parts : (total : ℤ) (quantity ppm : ℕ) (parts : ℤ × ℤ) → 0 < quantity → adjustment_of total quantity ppm ≡ Ok parts → (parts.0 ≡ floor total quantity) × (parts.1 ≡ more_by_signed ppm (floor total quantity))
adjusted_parts total zero ppm parts some is = absurd (omega arith)
adjusted_parts total (suc n) ppm parts some is =
    let e : parts ≡ (floor total (suc n), more_by_signed ppm (floor total (suc n))) = cc in rw e (refl, refl)

-- the sum of a base rate and an adjustment, as it is computed
abbrev pub sum_of : ℤ → ℤ → ℤ
sum_of base adjustment = to_z w128 (of_z w128 (to_z w128 (of_z w128 base) +ℤ to_z w128 (of_z w128 adjustment)))

-- a head's figures, as they are computed, tell its tests and its published rate
pub record Tells (shape : Shape) (filing : Filing) (differences : ℤ) (number base : ℕ) (wide each adjustment : ℤ) : Type 0 where
  pub tests : (published : ℕ) → pos published ≡ sum_of wide adjustment → (energy_fits shape filing number && keeps (limit_at shape number) base (to_z w64 (of_z w64 each)) (pos published)) ≡ rate_fits shape filing differences number
  pub sum : sum_of wide adjustment ≡ published_rate shape filing differences number

pub figures_tell : (shape : Shape) (filing : Filing) (differences : ℤ) (number base : ℕ) (wide each adjustment : ℤ) → base < 2 ^ 64 → wide ≡ pos base → SFits w64 differences → SFits w64 each → nat_abs adjustment ≤ 2 ^ 64 → base ≡ base_rate shape filing number → each ≡ per_unit shape filing (to_z w64 (of_z w64 differences)) number → adjustment ≡ adjustment_at shape filing (to_z w64 (of_z w64 differences)) number → Tells shape filing differences number base wide each adjustment
unfolding rate_fits published_rate
figures_tell shape filing differences number base wide each adjustment small widened given fits size eb ee ea =
    let ed = to_z-of_z w64 differences given in
    let sum : sum_of wide adjustment ≡ pos base +ℤ adjustment = omega (arith, ints) in
    let tests : (energy_fits shape filing number && keeps (limit_at shape number) base (to_z w64 (of_z w64 each)) (sum_of wide adjustment)) ≡ rate_fits shape filing differences number = rw (to_z-of_z w64 each fits, sum, eb, ee, ea, ed) refl in
    record {
      tests = λ published is. ap (λ z. energy_fits shape filing number && keeps (limit_at shape number) base (to_z w64 (of_z w64 each)) z) is ∙ tests;
      sum = rw (sum, eb, ea, ed) refl;
    }

-- what is said of a number that is the sum
pub tested : {shape : Shape} {filing : Filing} {differences : ℤ} {number base : ℕ} {wide each adjustment : ℤ} → Tells shape filing differences number base wide each adjustment → (published : ℕ) {said answer : Bool} → pos published ≡ sum_of wide adjustment → said ≡ (energy_fits shape filing number && keeps (limit_at shape number) base (to_z w64 (of_z w64 each)) (pos published)) → said ≡ answer → rate_fits shape filing differences number ≡ answer
tested t published is says was = sym (t.tests published is) ∙ sym says ∙ was

-- a number that is the size of z is z, unless z lies below 0
pub told_by : (z : ℤ) (n : ℕ) → pos 0 ≤ℤ z → n ≡ nat_abs z → pos n ≡ z
told_by z n low same = omega (arith, ints)

-- z is a number from 0 to the limit
pub record UpFromZero (limit : ℕ) (z : ℤ) : Type 0 where
  pub same : pos (nat_abs z) ≡ z
  pub most : nat_abs z ≤ limit

between_zero : (limit : ℕ) (z : ℤ) → le_z (pos 0) z ≡ true → le_z z (pos limit) ≡ true → UpFromZero limit z
between_zero limit (pos n) low high = record { same = refl; most = leb-true n limit high }
between_zero limit (negsuc n) low high = absurd (false≢true low)

-- such a rate has 64 bits at most
pub fits_unsigned : (z : ℤ) → UpFromZero demand_rate_limit z → FitsUnsigned w64 z
fits_unsigned z up = (omega (arith, ints, up.same), omega (arith, ints, up.same, up.most))

most_at : (shape : Shape) (number : ℕ) → limit_at shape number ≤ demand_rate_limit
most_at shape number =
    cond_both (demand_head shape number) demand_rate_limit energy_rate_limit (λ limit. limit ≤ demand_rate_limit) (λ _. omega arith) (λ _. omega arith)

-- a head that passes its tests has rates within the limits
pub rates_kept : (shape : Shape) (filing : Filing) (differences : ℤ) (number : ℕ) → rate_fits shape filing differences number ≡ true → (base_rate shape filing number ≤ demand_rate_limit) × UpFromZero demand_rate_limit (published_rate shape filing differences number)
unfolding rate_fits
rates_kept shape filing differences number e =
    let limit = limit_at shape number in
    let base = leb (base_rate shape filing number) limit in
    let each = leb (nat_abs (per_unit shape filing differences number)) limit in
    let published = published_rate shape filing differences number in
    let low = le_z (pos 0) published in
    let high = le_z published (pos limit) in
    let all = and_parts (energy_fits shape filing number) (base && each && low && high) e in
    let last = and_parts (base && each && low) high all.1 in
    let third = and_parts (base && each) low last.0 in
    let first = and_parts base each third.0 in
    let most = most_at shape number in
    let small = between_zero limit published third.1 last.1 in (
      le_trans (leb-true (base_rate shape filing number) limit first.0) most,
      record { same = small.same; most = le_trans small.most most },
    )
