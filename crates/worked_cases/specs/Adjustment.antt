-- The worked case of an adjustment, by the definitions.
use Rattle.std.specs.Prelude.{◌≡◌, ℕ, negsuc}
use Rattle.methodology.specs.declared.shape.Shape.{Shape}
use Rattle.tariffs.specs.declared.filing.Filing.{Filing}
use Rattle.tariffs.specs.Publishing.{forecast, adjustment_at}

-- differences of -140,011 over a quantity of 114, with 100,000 ppm of interest, adjust any head's rate by -1,352 (the size of `negsuc n` is n + 1)
abbrev pub WorkedAdjustment : Type 0
WorkedAdjustment =
    (shape : Shape) (filing : Filing) (number : ℕ) → forecast shape filing number ≡ 114 → filing.interest ≡ 100000 → adjustment_at shape filing (negsuc 140010) number ≡ negsuc 1351
