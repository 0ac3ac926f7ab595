-- The first tariff's rates, by the rules.
use Rattle.std.proofs.Common.{◌≡◌, ℕ, zero, suc, ◌+◌, ◌-◌, ◌<◌, ◌≤◌, true, List, get_or, ℤ, pos, Ok, Err, sym, ap, ◌∙◌, lit<, arith}
use Rattle.std.proofs.Math.ListN.{get_or-map}
use Rattle.std.proofs.lemmas.Bool.{true≢false}
use Rattle.std.proofs.lemmas.Int.{ints}
use Rattle.methodology.specs.Markets.{three_shape}
use Rattle.rates.specs.declared.published.Rates.{Rates}
use Rattle.rates.specs.Heads.{rates_at}
use Rattle.tariffs.specs.declared.filing.Filing.{Filing}
use Rattle.tariffs.specs.declared.refusal.TariffFault.{TariffFault}
use Rattle.tariffs.specs.declared.refusal.TariffFault.TheVariants.{Misfiled, OutOfRange}
use Rattle.tariffs.specs.Rows.{row_fits, each_between}
use Rattle.tariffs.specs.Filing.{filing_fits, rows_fit, singles_fit}
use Rattle.tariffs.specs.Publishing.{generation_energy, filed_factor, base_rate, forecast, per_unit, adjustment_at, published_rate, energy_fits, rate_fits, earlier_at, fits_at, Publishes}
use Rattle.accounts.specs.declared.account.Account.{Account}
use Rattle.accounts.specs.declared.books.Books.{Books}
use Rattle.accounts.specs.Books.{no_account, earlier, Unused}
use Rattle.worked_figures.specs.FirstCalls.{FirstTariff}
use Rattle.worked_cases.proofs.Figures.{six, rate_at}

-- books without money have no differences
pub no_differences : (b : Books) → Unused b → (k : ℕ) → k < 6 → earlier_at (earlier b) (k + 1) ≡ pos 0
no_differences b unused k h =
    ap (λ n. get_or (earlier b) n (pos 0)) (omega arith) ∙ get_or-map (λ (a : Account). a.before) b.accounts k no_account ∙ unused.befores k h

module _ (f : Filing) (t : FirstTariff f) where
  pub fits : filing_fits three_shape f ≡ true
  unfolding filing_fits rows_fit singles_fit row_fits each_between
  fits =
      simp (t.costs.count_is, t.costs.figure_is 0 (lit< tt), t.costs.figure_is 1 (lit< tt), t.costs.figure_is 2 (lit< tt), t.delivered.count_is, t.delivered.figure_is 0 (lit< tt), t.delivered.figure_is 1 (lit< tt), t.delivered.figure_is 2 (lit< tt), t.factors.count_is, t.factors.figure_is 0 (lit< tt), t.factors.figure_is 1 (lit< tt), t.factors.figure_is 2 (lit< tt), t.coefficients.count_is, t.coefficients.figure_is 0 (lit< tt), t.coefficients.figure_is 1 (lit< tt), t.coefficients.figure_is 2 (lit< tt), t.peaks, t.energy_cost, t.sent, t.interest)

  -- a head's rate, and its tests
  record Rated (k : ℕ) : Type 0 where
    rate_is : published_rate three_shape f (pos 0) (k + 1) ≡ pos (rate_at k)
    fitting : rate_fits three_shape f (pos 0) (k + 1) ≡ true

  rated_demand : (k : ℕ) → k < 3 → Rated k
  unfolding published_rate base_rate filed_factor forecast per_unit adjustment_at energy_fits rate_fits generation_energy
  rated_demand zero h = record { rate_is = simp (t.costs.figure_is 0 (lit< tt), t.peaks, t.interest); fitting = simp (t.costs.figure_is 0 (lit< tt), t.peaks, t.interest) }
  rated_demand (suc zero) h = record { rate_is = simp (t.costs.figure_is 1 (lit< tt), t.peaks, t.interest); fitting = simp (t.costs.figure_is 1 (lit< tt), t.peaks, t.interest) }
  rated_demand (suc (suc zero)) h = record { rate_is = simp (t.costs.figure_is 2 (lit< tt), t.peaks, t.interest); fitting = simp (t.costs.figure_is 2 (lit< tt), t.peaks, t.interest) }
  rated_demand (suc (suc (suc k))) h = absurd (omega arith)

  rated_3 : Rated 3
  unfolding published_rate base_rate filed_factor forecast per_unit adjustment_at energy_fits rate_fits generation_energy
  rated_3 = record { rate_is = simp (t.energy_cost, t.sent, t.interest, t.delivered.figure_is 0 (lit< tt), t.factors.figure_is 0 (lit< tt), t.coefficients.figure_is 0 (lit< tt)); fitting = simp (t.energy_cost, t.sent, t.interest, t.delivered.figure_is 0 (lit< tt), t.factors.figure_is 0 (lit< tt), t.coefficients.figure_is 0 (lit< tt)) }

  rated_4 : Rated 4
  unfolding published_rate base_rate filed_factor forecast per_unit adjustment_at energy_fits rate_fits generation_energy
  rated_4 = record { rate_is = simp (t.energy_cost, t.sent, t.interest, t.delivered.figure_is 1 (lit< tt), t.factors.figure_is 1 (lit< tt), t.coefficients.figure_is 1 (lit< tt)); fitting = simp (t.energy_cost, t.sent, t.interest, t.delivered.figure_is 1 (lit< tt), t.factors.figure_is 1 (lit< tt), t.coefficients.figure_is 1 (lit< tt)) }

  rated_5 : Rated 5
  unfolding published_rate base_rate filed_factor forecast per_unit adjustment_at energy_fits rate_fits generation_energy
  rated_5 = record { rate_is = simp (t.energy_cost, t.sent, t.interest, t.delivered.figure_is 2 (lit< tt), t.factors.figure_is 2 (lit< tt), t.coefficients.figure_is 2 (lit< tt)); fitting = simp (t.energy_cost, t.sent, t.interest, t.delivered.figure_is 2 (lit< tt), t.factors.figure_is 2 (lit< tt), t.coefficients.figure_is 2 (lit< tt)) }

  rated : (k : ℕ) → k < 6 → Rated k
  rated = six Rated (rated_demand 0 (lit< tt)) (rated_demand 1 (lit< tt)) (rated_demand 2 (lit< tt)) rated_3 rated_4 rated_5

  module _ (es : List ℤ) (none : (k : ℕ) → k < 6 → earlier_at es (k + 1) ≡ pos 0) where
    head_fits : (k : ℕ) → k < 6 → fits_at three_shape f es (k + 1) ≡ true
    head_fits k h = ap (λ z. rate_fits three_shape f z (k + 1)) (none k h) ∙ (rated k h).fitting

    -- the tariff is not refused
    pub not_faulty : (fault : TariffFault) → Publishes three_shape f es (Err fault) → ⊥
    not_faulty Misfiled p = true≢false (sym fits ∙ p)
    not_faulty (OutOfRange n) p =
        let low : 1 ≤ n = p.1.counted.0 in
        let high : n ≤ 6 = p.1.counted.1 in
        let same : n - 1 + 1 ≡ n = omega arith in
        true≢false (sym (head_fits (n - 1) (omega arith)) ∙ ap (λ m. fits_at three_shape f es m) same ∙ p.1.here)

    -- and these are its rates
    pub rates_are : (rates : Rates) → Publishes three_shape f es (Ok rates) → (k : ℕ) → k < 6 → (rates_at rates k).published ≡ rate_at k
    rates_are rates p k h =
        let here = p.1.rated (k + 1) (omega arith, omega arith) in
        let place : k + 1 - 1 ≡ k = omega arith in
        let rate : pos (rates_at rates k).published ≡ pos (rate_at k) =
        ap (λ n. pos (rates_at rates n).published) (sym place) ∙ here.published_is ∙ ap (λ z. published_rate three_shape f z (k + 1)) (none k h) ∙ (rated k h).rate_is in
        omega (arith, ints)
