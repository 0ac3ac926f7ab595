-- How many words a field takes.
use Rattle.std.proofs.Common.{◌≡◌, ℕ, ◌+◌, Bool, true, false, eqb, ltb, List, [], ◌∷◌, ◌++◌, length, Ok, Err, Result, sym, refl, ap, ◌∙◌, inl, inr, ◌⊎◌, arith, length-append, slice_index}
use Rattle.std.specs.Str.{bytes_eq}
use Rattle.std.specs.Str.Parse.{digits_value}
use Rattle.std.proofs.lemmas.Bool.{cond-true, cond-false, eqb-true}
use Rattle.tariffs.specs.declared.row.Row.{Row}
use Rattle.words.specs.Figures.{is_figure}
use Rattle.journal.specs.declared.expected.Expected.{Expected}
use Rattle.journal.specs.declared.expected.Expected.TheVariants.{Field, Count, Most}
use Rattle.journal.specs.declared.name.Name.{Name}
use Rattle.journal.specs.Chain.{◌>>=◌, must}
use Rattle.journal.specs.Names.{name_text}
use Rattle.journal.specs.Fields.{Words, run, largest, named, figures, field, single, row_of}

either : (b : Bool) → (b ≡ true) ⊎ (b ≡ false)
either true = inl refl
either false = inr refl

same : {A : Type 0} (x y : A) → ◌≡◌ {A = Result A Expected} (Ok x) (Ok y) → x ≡ y
same x y h = cc

same_rest : {A : Type 0} (x y : A) (a b : Words) → ◌≡◌ {A = Result (A × Words) Expected} (Ok (x, a)) (Ok (y, b)) → a ≡ b
same_rest x y a b h = ap (λ p. p.1) (same (x, a) (y, b) h)

-- both steps of what was read were
both : {A B : Type 0} (said : Result A Expected) (more : A → Result B Expected) (y : B) → said >>= more ≡ Ok y → (x : A) × (said ≡ Ok x) × (more x ≡ Ok y)
both (Ok x) more y h = (x, refl, h)
both (Err e) more y h = cc

-- and the test held
held : {A : Type 0} (b : Bool) (e : Expected) (said : Result A Expected) (y : A) → must b e said ≡ Ok y → (b ≡ true) × (said ≡ Ok y)
held true e said y h = (refl, h)
held false e said y h = cc

-- a run takes the words before those that it leaves, and gives a figure for each
run_takes : (name : Name) (so_far : List ℕ) (ws : Words) (fs : List ℕ) (rest : Words) → run name so_far ws ≡ Ok (fs, rest) → (taken : Words) × (ws ≡ taken ++ rest) × (length fs ≡ length so_far + length taken)
unfolding run
run_takes name so_far [] fs rest h =
    let e : (so_far, []) ≡ (fs, rest) = same {A = List ℕ × Words} (so_far, []) (fs, rest) h in
    ([], ap (λ p. p.1) e, omega (arith, ap (λ p. length p.0) e))
run_takes name so_far (w ∷ ws) fs rest h =
    elim (either (is_figure w)) [
      | inl digits ↦
          (let p = held (ltb (digits_value 10 w) 18446744073709551616) (Most name largest) _ _ (sym (cond-true _ _ _ digits) ∙ h) in
          let q = run_takes name (so_far ++ (digits_value 10 w ∷ [])) ws fs rest p.1 in
          (w ∷ q.0, ap (λ l. w ∷ l) q.1, omega (arith, q.2, length-append so_far (digits_value 10 w ∷ []))))
      | inr other ↦
          (let e : (so_far, w ∷ ws) ≡ (fs, rest) = same {A = List ℕ × Words} (so_far, w ∷ ws) (fs, rest) (sym (cond-false _ _ _ other) ∙ h) in
          ([], ap (λ p. p.1) e, omega (arith, ap (λ p. length p.0) e)))
    ]

one : (taken : Words) (rest : Words) → length taken ≡ 1 → (v : List ℕ) × (taken ++ rest ≡ v ∷ rest)
one [] rest h = absurd (omega arith)
one (v ∷ []) rest h = (v, refl)
one (v ∷ u ∷ ws) rest h = absurd (omega arith)

-- one figure is one word
one_figure : (name : Name) (ws : Words) (fs : List ℕ) (behind : Words) (row : Row) (rest : Words) → run name [] ws ≡ Ok (fs, behind) → must {A = Row × Words} (eqb (length fs) 1) (Count name 1 (length fs)) (Ok (row_of fs, behind)) ≡ Ok (row, rest) → (v : List ℕ) × (ws ≡ v ∷ rest)
one_figure name ws fs behind row rest read counted =
    let q = held (eqb (length fs) 1) (Count name 1 (length fs)) (Ok (row_of fs, behind)) (row, rest) counted in
    let t = run_takes name [] ws fs behind read in
    let few : length fs ≡ 1 = eqb-true (length fs) 1 q.0 in
    let o = one t.0 behind (omega (arith, t.2, few)) in
    (o.0, t.1 ∙ o.1 ∙ ap (λ l. o.0 ∷ l) (same_rest (row_of fs) row behind rest q.1))

figures_take : (name : Name) (ws : Words) (row : Row) (rest : Words) → figures name 1 ws ≡ Ok (row, rest) → (v : List ℕ) × (ws ≡ v ∷ rest)
unfolding figures
figures_take name ws row rest h = let p = both (run name [] ws) _ (row, rest) h in one_figure name ws p.0.0 p.0.1 row rest p.1 p.2

named_takes : (name : Name) (ws rest : Words) → named name ws ≡ Ok rest → (w : List ℕ) × (ws ≡ w ∷ rest)
unfolding named
named_takes name [] rest h = cc
named_takes name (w ∷ ws) rest h =
    let p = held (bytes_eq w (name_text name)) (Field name) (Ok ws) rest h in
    (w, ap (λ l. w ∷ l) (same ws rest p.1))

-- a field of one figure is two words
one_field : (name : Name) (ws : Words) (row : Row) (rest : Words) → field name 1 ws ≡ Ok (row, rest) → (w : List ℕ) × (v : List ℕ) × (ws ≡ w ∷ v ∷ rest)
unfolding field
one_field name ws row rest h =
    let m = both (named name ws) (figures name 1) (row, rest) h in
    let w = named_takes name ws m.0 m.1 in
    let v = figures_take name m.0 row rest m.2 in
    (w.0, v.0, w.1 ∙ ap (λ l. w.0 ∷ l) v.1)

-- and so is the figure that is read of it
pub single_takes : (name : Name) (ws : Words) (n : ℕ) (rest : Words) → single name ws ≡ Ok (n, rest) → (w : List ℕ) × (v : List ℕ) × (ws ≡ w ∷ v ∷ rest)
unfolding single
single_takes name ws n rest h =
    let p = both (field name 1 ws) _ (n, rest) h in
    one_field name ws p.0.0 rest (p.1 ∙ ap (λ l. Ok (p.0.0, l)) (same_rest (slice_index p.0.0.figures 0) n p.0.1 rest p.2))
