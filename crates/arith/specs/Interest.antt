-- A sum of differences per unit, with interest.
use Rattle.std.specs.Prelude.{◌≡◌, ℕ, zero, suc, ◌*◌, ◌≤◌, ℤ, negsuc, Ok, Err, Result, unsigned_abs}
use Rattle.arith.specs.declared.quantity.NoQuantity.{NoQuantity}
use Rattle.arith.specs.Division.{floor}
use Rattle.arith.specs.Scaling.{whole_ppm, more_by_signed}

-- The floor of total / quantity, and that with so many ppm on top.
abbrev pub adjustment_of : ℤ → ℕ → ℕ → Result (ℤ × ℤ) NoQuantity
adjustment_of total zero ppm = Err (record {})
adjustment_of total (suc n) ppm = Ok (floor total (suc n), more_by_signed ppm (floor total (suc n)))

-- Interest of no more than the whole at most doubles what there is per unit.
abbrev pub AtMostDoubled : ℕ → ℤ × ℤ → Type 0
AtMostDoubled ppm p = ppm ≤ whole_ppm → unsigned_abs p.1 ≤ 2 * unsigned_abs p.0

-- -140,011 over 114 with 100,000 ppm: -1,229, then -1,352. Rounded towards zero it would be -1,228, then -1,350.
abbrev pub WorkedAdjustment : Type 0
WorkedAdjustment = adjustment_of (negsuc 140010) 114 100000 ≡ Ok (negsuc 1228, negsuc 1351)
