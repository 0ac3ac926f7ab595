-- What is said of a tariff that is filed well, and of its heads.
use Rattle.std.specs.Prelude.{◌≡◌, ℕ, Bool, false, ◌&&◌, ℤ, Ok, Err, Result}
use Rattle.methodology.specs.declared.shape.Shape.{Shape}
use Rattle.tariffs.specs.declared.filed.Filed.{Filed}
use Rattle.tariffs.specs.declared.filed_head.FiledHead.{FiledHead}
use Rattle.tariffs.specs.declared.filing.Filing.{Filing}
use Rattle.tariffs.specs.declared.refusal.TariffFault.{TariffFault}
use Rattle.tariffs.specs.declared.refusal.TariffFault.TheVariants.{Misfiled}
use Rattle.tariffs.specs.Filing.{filing_fits}
use Rattle.tariffs.specs.Publishing.{limit_at, energy_fits, keeps}

-- a filing that fits is the tariff's, and no other is
abbrev pub Files : Shape → Filing → Result Filed TariffFault → Type 0
Files shape filing (Ok filed) = (filed.shape ≡ shape) × (filed.filing ≡ filing)
Files shape filing (Err fault) = (fault ≡ Misfiled) × (filing_fits shape filing ≡ false)

-- a figure of the head, by what is filed
abbrev pub of_head {ℓ} : {A : Type ℓ} → (Shape → Filing → ℕ → A) → FiledHead → A
of_head f h = f h.filed.now.shape h.filed.now.filing h.number

-- the same by its differences of an earlier period too
abbrev pub with_differences {ℓ} : {A : Type ℓ} → (Shape → Filing → ℤ → ℕ → A) → ℤ → FiledHead → A
with_differences f differences h = f h.filed.now.shape h.filed.now.filing differences h.number

-- a base rate, differences per unit and a published rate pass the head's tests
abbrev pub passes_tests : FiledHead → ℕ → ℤ → ℤ → Bool
passes_tests h base each published = of_head energy_fits h && keeps (limit_at h.filed.now.shape h.number) base each published
