-- The rates of each head, and what publishing a tariff answers. Heads are counted from 1; a table has head 1 at index 0.
use Rattle.std.specs.Prelude.{◌≡◌, ℕ, ◌+◌, ◌-◌, ◌*◌, ◌/◌, ◌<◌, ◌≤◌, Bool, true, false, cond, ◌&&◌, List, ℤ, pos, ◌+ℤ◌, Ok, Err, Result, ◌==◌, int_le, nat_le, slice_index, slice_index_or, unsigned_abs}
use Rattle.arith.specs.Division.{floor}
use Rattle.arith.specs.Money.{cent, energy_rate_limit}
use Rattle.arith.specs.Scaling.{more_by, more_by_signed, thousandths}
use Rattle.methodology.specs.Heads.{heads_of, head_at, by_demand, rate_limit}
use Rattle.methodology.specs.Meaning.{UpTo}
use Rattle.methodology.specs.declared.shape.Shape.{Shape}
use Rattle.rates.specs.declared.head_rates.HeadRates.{HeadRates}
use Rattle.rates.specs.declared.published.Rates.{Rates}
use Rattle.rates.specs.Heads.{unset, rates_at}
use Rattle.tariffs.specs.declared.filing.Filing.{Filing}
use Rattle.tariffs.specs.declared.refusal.TariffFault.{TariffFault}
use Rattle.tariffs.specs.declared.refusal.TariffFault.TheVariants.{Misfiled, OutOfRange}
use Rattle.tariffs.specs.Filing.{filing_fits}

-- a cost in cents over a quantity, grains per unit
abbrev pub per_cost : ℕ → ℕ → ℕ
per_cost cents quantity = cent * cents / quantity

-- the number of the first interval's head
abbrev pub first_interval : Shape → ℕ
first_interval shape = 2 + shape.revenues

-- what is filed for the head of an interval
abbrev pub at_interval : Shape → List ℕ → ℕ → ℕ
at_interval shape figures number = slice_index figures (number - first_interval shape)

abbrev pub demand_head : Shape → ℕ → Bool
demand_head shape number = by_demand (head_at shape number)

abbrev pub limit_at : Shape → ℕ → ℕ
limit_at shape number = rate_limit (head_at shape number)

-- generation energy: what a kWh that is sent in costs, grains
unfoldable pub generation_energy : Filing → ℕ
generation_energy filing = per_cost filing.energy_cost filing.sent

-- the filed loss factor of an interval, ppm; a demand head has none
unfoldable pub filed_factor : Shape → Filing → ℕ → ℕ
filed_factor shape filing number = cond (demand_head shape number) 0 (at_interval shape filing.factors.figures number)

-- the coefficient of an interval, thousandths
abbrev pub coefficient_of : Shape → Filing → ℕ → ℕ
coefficient_of shape filing number = at_interval shape filing.coefficients.figures number

-- a demand head's cost over the peaks; an interval's share of generation energy, with its losses, then with its coefficient
unfoldable pub base_rate : Shape → Filing → ℕ → ℕ
base_rate shape filing number =
    cond (demand_head shape number)
    (per_cost (slice_index filing.costs.figures (number - 1)) filing.peaks)
    (thousandths (coefficient_of shape filing number) (more_by (filed_factor shape filing number) (generation_energy filing)))

-- the quantity that the head is forecast to bill, kW or kWh
unfoldable pub forecast : Shape → Filing → ℕ → ℕ
forecast shape filing number =
    cond (demand_head shape number) filing.peaks (at_interval shape filing.delivered.figures number)

-- the differences of an earlier period, grains, per unit of the forecast
unfoldable pub per_unit : Shape → Filing → ℤ → ℕ → ℤ
per_unit shape filing differences number = floor differences (forecast shape filing number)

-- the same with interest
unfoldable pub adjustment_at : Shape → Filing → ℤ → ℕ → ℤ
adjustment_at shape filing differences number = more_by_signed filing.interest (per_unit shape filing differences number)

unfoldable pub published_rate : Shape → Filing → ℤ → ℕ → ℤ
published_rate shape filing differences number = pos (base_rate shape filing number) +ℤ adjustment_at shape filing differences number

-- generation energy is tested with the first interval
unfoldable pub energy_fits : Shape → Filing → ℕ → Bool
energy_fits shape filing number = cond (number == first_interval shape) (nat_le (generation_energy filing) energy_rate_limit) true

-- a base rate, the differences per unit and a published rate keep a limit
abbrev pub keeps : ℕ → ℕ → ℤ → ℤ → Bool
keeps limit base each published = nat_le base limit && nat_le (unsigned_abs each) limit && int_le (pos 0) published && int_le published (pos limit)

-- all tests of a head
unfoldable pub rate_fits : Shape → Filing → ℤ → ℕ → Bool
rate_fits shape filing differences number =
    energy_fits shape filing number
    && keeps (limit_at shape number) (base_rate shape filing number) (per_unit shape filing differences number) (published_rate shape filing differences number)

-- what a head that passes its tests is billed
pub record Rated (shape : Shape) (filing : Filing) (differences : ℤ) (number : ℕ) (rates : HeadRates) : Type 0 where
  pub fitting : rate_fits shape filing differences number ≡ true
  pub published_is : pos rates.published ≡ published_rate shape filing differences number
  pub base_is : rates.base ≡ base_rate shape filing number
  pub factor_is : rates.factor ≡ filed_factor shape filing number

-- a head's rates and loss factor, or its fault where one of its tests fails
abbrev pub RatesHead : Shape → Filing → ℤ → ℕ → Result HeadRates TariffFault → Type 0
RatesHead shape filing differences number (Ok rates) = Rated shape filing differences number rates
RatesHead shape filing differences number (Err fault) = (fault ≡ OutOfRange number) × (rate_fits shape filing differences number ≡ false)

-- the differences of a head
abbrev pub earlier_at : List ℤ → ℕ → ℤ
earlier_at earlier number = slice_index_or earlier (number - 1) (pos 0)

abbrev pub fits_at : Shape → Filing → List ℤ → ℕ → Bool
fits_at shape filing earlier number = rate_fits shape filing (earlier_at earlier number) number

-- the lowest head one of whose tests fails
pub record FirstMisfit (shape : Shape) (filing : Filing) (earlier : List ℤ) (number : ℕ) : Type 0 where
  pub counted : UpTo (heads_of shape) number
  pub here : fits_at shape filing earlier number ≡ false
  pub before : (lower : ℕ) → 1 ≤ lower → lower < number → fits_at shape filing earlier lower ≡ true

-- every head has its rates, and the rows past the last head hold 0
pub record Published (shape : Shape) (filing : Filing) (earlier : List ℤ) (rates : Rates) : Type 0 where
  pub heads : rates.shape ≡ shape
  pub rated : (number : ℕ) → UpTo (heads_of shape) number → Rated shape filing (earlier_at earlier number) number (rates_at rates (number - 1))
  pub past : (place : ℕ) → heads_of shape ≤ place → rates_at rates place ≡ unset

-- what publishing answers
abbrev pub Publishes : Shape → Filing → List ℤ → Result Rates TariffFault → Type 0
Publishes shape filing earlier (Ok rates) = (filing_fits shape filing ≡ true) × Published shape filing earlier rates
Publishes shape filing earlier (Err Misfiled) = filing_fits shape filing ≡ false
Publishes shape filing earlier (Err (OutOfRange number)) = (filing_fits shape filing ≡ true) × FirstMisfit shape filing earlier number
