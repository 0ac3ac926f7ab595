use Rattle.std.proofs.Common.{◌≡◌, ℕ, ◌+◌, ◌-◌, ◌<◌, ◌≤◌, Bool, true, false, Some, None, Option, MatchOption, arith, rules}
use Rattle.std.proofs.lemmas.Iterator.{first_from_Range}
use Rattle.closing.specs.Cases.{Told}
use Rattle.closing.proofs.head.first_head.Goals as goal

-- the number is one more than the place
counted : (said : ℕ → Bool → Type 0) (n : ℕ) (place head : Option ℕ) → MatchOption place ((k : ℕ) → 0 ≤ k → k < n → said k false) (λ i. (0 ≤ i) × (i < n) × said i true × ((k : ℕ) → 0 ≤ k → k < i → said k false)) → MatchOption place (head ≡ None) (λ i. head ≡ Some (i + 1)) → Told said n head
counted said n None head first e = rw e (record { first = λ k p. first k (omega arith) p })
counted said n (Some i) head first e =
    let same : (i + 1) - 1 ≡ i = omega arith in
    rw e (record { first = rw same (omega arith, omega (arith, first.1), first.2, λ k p. first.3 k (omega arith) (omega (arith, p))) })

pub returns : goal.returns
returns g c =
    let said = goal.F-post g c.args.test in
    let first = first_from_Range _ _ _ _ (λ k. said k true) (λ k. said k false) c.find.ensures.ran (λ k q told. search rules) (λ k q told. search rules) in
    counted said c.args.heads c.find.result c.map.result first (search rules)
