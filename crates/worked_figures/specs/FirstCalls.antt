-- The figures of the first month: what is filed and measured.
use Rattle.std.specs.Prelude.{◌≡◌, ℕ, ◌<◌, List, [], ◌∷◌, Ok, Err, Result, length, replicate, slice_index, slice_set}
use Rattle.metering.specs.Limits.{block_count, kind_number}
use Rattle.metering.specs.Refusals.{figures_code, verdict}
use Rattle.metering.specs.Makes.{figures_check}
use Rattle.metering.specs.declared.figures.Figures.{Figures}
use Rattle.metering.specs.declared.figures.FiguresRefusal.{FiguresRefusal}
use Rattle.metering.specs.declared.kind.Kind.{Kind}
use Rattle.metering.specs.declared.kind.Kind.TheVariants.{Generator, Licensee}
use Rattle.metering.specs.declared.reading.Reading.{Reading}
use Rattle.methodology.specs.Limits.{head_limit}
use Rattle.agreements.specs.Meaning.{Meaning}
use Rattle.agreements.specs.TwoParts.{two_part}
use Rattle.tariffs.specs.declared.row.Row.{Row}
use Rattle.tariffs.specs.declared.filing.Filing.{Filing}

-- one two-part agreement: 100 kW at 20,000, energy at 50,000
abbrev pub first_row : List Meaning
first_row = two_part 100 20000 50000 ∷ []

-- a row with these figures, and 0 behind them
pub record Lists (figures : List ℕ) (row : Row) : Type 0 where
  pub count_is : row.count ≡ length figures
  pub figure_is : (k : ℕ) → k < head_limit → slice_index row.figures k ≡ slice_index figures k

-- revenues, in cents
abbrev pub FirstYear : Row → Type 0
FirstYear = Lists (1000 ∷ 100 ∷ [])

pub record FirstTariff (f : Filing) : Type 0 where
  pub costs : Lists (1080 ∷ 486 ∷ 49 ∷ []) f.costs
  pub peaks : f.peaks ≡ 540
  pub energy_cost : f.energy_cost ≡ 2100
  pub sent : f.sent ≡ 420
  pub delivered : Lists (168 ∷ 114 ∷ 108 ∷ []) f.delivered
  pub factors : Lists (40000 ∷ 0 ∷ 0 ∷ []) f.factors
  pub coefficients : Lists (1000 ∷ 1200 ∷ 1000 ∷ []) f.coefficients
  pub interest : f.interest ≡ 0

-- kWh in blocks 2, 12 and 38
abbrev pub in_blocks : ℕ → ℕ → ℕ → List ℕ
in_blocks a b c = slice_set (slice_set (slice_set (replicate block_count 0) 2 a) 12 b) 38 c

-- what a meter measured
pub record Measures (kind : Kind) (number demand : ℕ) (energies : List ℕ) (r : Reading) : Type 0 where
  pub kind_is : r.kind ≡ kind
  pub number_is : r.number ≡ number
  pub demand_is : r.demand ≡ demand
  pub energies_are : r.blocks ≡ energies

-- the figures of a meter, in any numbers
abbrev pub figures_of : Kind → ℕ → ℕ → List ℕ → Figures
figures_of kind number demand energies = record { kind = kind_number kind; number = number; demand = demand; blocks = energies }

-- a reading of what a meter measured, or the refusal of its figures
abbrev pub Accepts : Kind → ℕ → ℕ → List ℕ → Result Reading FiguresRefusal → Type 0
Accepts kind number demand energies (Ok r) = Measures kind number demand energies r
Accepts kind number demand energies (Err why) = verdict {A = Unit {0}} figures_code (Err why) ≡ figures_check (figures_of kind number demand energies)

-- of three energies: by night, in the morning and in the evening
abbrev pub Measured : Kind → ℕ → ℕ → List ℕ → Result Reading FiguresRefusal → Type 0
Measured kind number demand energies r =
    Accepts kind number demand (in_blocks (slice_index energies 0) (slice_index energies 1) (slice_index energies 2)) r

-- the generator's month, and the licensee's
abbrev pub FirstSent : Reading → Type 0
FirstSent = Measures Generator 1 100 (in_blocks 20 30 20)

abbrev pub FirstTaken : Reading → Type 0
FirstTaken = Measures Licensee 1 90 (in_blocks 18 28 19)

-- all that the calls are given
pub record FirstFigures (year : Row) (tariff : Filing) (sent taken : Reading) : Type 0 where
  pub revenues : FirstYear year
  pub filing : FirstTariff tariff
  pub station : FirstSent sent
  pub licensee : FirstTaken taken
