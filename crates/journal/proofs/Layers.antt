-- Index layers, one after another.
use Rattle.std.proofs.Common.{◌≡◌, ℕ, ◌+◌, ◌<◌, List, [], ◌∷◌, ◌++◌, length, Ok, Err, sym, refl, ap, ◌∙◌, arith}
use Rattle.journal.specs.declared.expected.Expected.{Expected}
use Rattle.journal.specs.declared.name.Name.TheVariants.{Index}
use Rattle.journal.specs.Chain.{◌>>=◌}
use Rattle.journal.specs.Fields.{Words, single}
use Rattle.journal.specs.Places.{layers}
use Rattle.journal.proofs.Taken.{single_takes}

-- a layer that cannot be read ends the reading
pub layers_stop : (below : List ℕ) (ws : Words) (e : Expected) → 0 < length ws → single Index ws ≡ Err e → layers below ws ≡ Err e
unfolding layers
layers_stop below [] e some h = absurd (omega arith)
layers_stop below (w ∷ []) e some h = ap (λ s. s >>= λ _. Ok below) h
layers_stop below (w ∷ v ∷ ws) e some h = ap (λ s. s >>= λ (factor, _). layers (below ++ (factor ∷ [])) ws) h

layer_goes : (below w v : List ℕ) (ws : Words) (n : ℕ) (rest : Words) → single Index (w ∷ v ∷ ws) ≡ Ok (n, rest) → layers below (w ∷ v ∷ ws) ≡ layers (below ++ (n ∷ [])) ws
unfolding layers
layer_goes below w v ws n rest h = ap (λ s. s >>= λ (factor, _). layers (below ++ (factor ∷ [])) ws) h

-- a layer that is read is put above the others
pub layers_go : (below : List ℕ) (ws : Words) (n : ℕ) (rest : Words) → single Index ws ≡ Ok (n, rest) → layers below ws ≡ layers (below ++ (n ∷ [])) rest
layers_go below ws n rest h =
    let t = single_takes Index ws n rest h in
    ap (layers below) t.2 ∙ layer_goes below t.0 t.1 rest n rest (ap (single Index) (sym t.2) ∙ h)

-- and takes two words
pub layer_shorter : (ws : Words) (n : ℕ) (rest : Words) → single Index ws ≡ Ok (n, rest) → length rest + 2 ≡ length ws
layer_shorter ws n rest h = let t = single_takes Index ws n rest h in omega (arith, ap length t.2)

pub layers_end : (below : List ℕ) → layers below [] ≡ Ok below
unfolding layers
layers_end below = refl
