use Rattle.std.proofs.Common.{◌≡◌, ℕ, ◌<◌, ◌≤◌, cond, ltb, get_or, sym, ◌∙◌, arith, rules}
use Rattle.std.proofs.lemmas.Bool.{ltb-true, cond_both}
use Rattle.methodology.specs.Limits.{revenue_limit}
use Rattle.rates.specs.Limits.{yearly_limit}
use Rattle.tariffs.proofs.Ranges.{row_at}
use Rattle.tariffs.proofs.year.file_year.Goals as goal

pub invariant_of-result : goal.invariant_of-result
invariant_of-result c =
    let row = c.args.filed.now in
    let revenues = c.args.shape.revenues in
    let fits = sym c.fits.ensures ∙ c.if-not-fits.false in
    let at : (j : ℕ) → j < revenue_limit → get_or c.from_fn.result j 0 ≡ cond (ltb j revenues) (get_or row.figures j 0) 0 = λ j h. search rules in
    record {
      full = search rules;
      modest = λ j h. rw (at j h) (cond_both (ltb j revenues) (get_or row.figures j 0) 0 (λ n. n ≤ yearly_limit) (λ t. (row_at 0 yearly_limit revenues row fits j (ltb-true j revenues t)).1) (λ _. omega arith));
    }
