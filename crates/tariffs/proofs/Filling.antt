-- The rates that are filled in head by head.
use Rattle.std.proofs.Common.{◌≡◌, ℕ, ◌+◌, ◌-◌, ◌<◌, ◌≤◌, List, length, get_or, set, ℤ, pos, arith, below_more, length-set, ◌∙◌}
use Rattle.std.proofs.lemmas.List.{get_or-set_same, get_or-set_other}
use Rattle.methodology.specs.Heads.{heads_of}
use Rattle.methodology.specs.Limits.{head_limit}
use Rattle.methodology.specs.declared.shape.Shape.{Shape}
use Rattle.rates.specs.declared.head_rates.HeadRates.{HeadRates}
use Rattle.rates.specs.declared.published.Rates.{Rates}
use Rattle.rates.specs.Heads.{unset}
use Rattle.tariffs.specs.declared.filing.Filing.{Filing}
use Rattle.tariffs.specs.Publishing.{Rated, Published}

module _ (shape : Shape) (filing : Filing) (earlier : List ℤ) where
  abbrev RatedPlace : ℕ → HeadRates → Type 0
  RatedPlace k rates = Rated shape filing (get_or earlier k (pos 0)) (k + 1) rates

  -- the first k places hold the rates of their heads, and the others none
  pub record RatedTo (k : ℕ) (heads : List HeadRates) : Type 0 where
    pub sized : length heads ≡ head_limit
    pub below : (j : ℕ) → j < k → RatedPlace j (get_or heads j unset)
    pub past : (j : ℕ) → k ≤ j → get_or heads j unset ≡ unset

  pub rated_more : (k : ℕ) (rates : HeadRates) (heads : List HeadRates) → k < head_limit → RatedTo k heads → RatedPlace k rates → RatedTo (k + 1) (set heads k rates)
  rated_more k rates heads h to is =
      let here : get_or (set heads k rates) k unset ≡ rates = get_or-set_same heads k rates unset (omega (arith, to.sized)) in
      record {
        sized = length-set heads k rates ∙ to.sized;
        below = below_more (λ j. RatedPlace j (get_or (set heads k rates) j unset)) k (λ j before. rw (get_or-set_other heads k j rates unset (λ e. omega arith)) (to.below j before)) (rw here is);
        past = λ j after. rw (get_or-set_other heads k j rates unset (λ e. omega arith)) (to.past j (omega arith));
      }

  -- once all heads are rated, the rates are those that are to be published
  pub rated_all : (rates : Rates) → rates.shape ≡ shape → RatedTo (heads_of shape) rates.heads → Published shape filing earlier rates
  rated_all rates same to =
      record {
        heads = same;
        rated = λ number counted.
            let back : number - 1 + 1 ≡ number = omega arith in
            rw back at (to.below (number - 1) (omega arith));
        past = to.past;
      }
