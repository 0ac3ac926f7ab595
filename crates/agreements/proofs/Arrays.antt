-- What an array's `map` makes.
use Rattle.std.proofs.Common.{◌≡◌, ℕ, zero, suc, ◌+◌, ◌<◌, List, length, map, slice_index, sym, ap, subst, ◌∙◌, arith}
use denote.Param.Members.{Mut}
use Rattle.std.specs.Fn.{Called}
use Rattle.std.specs.Array.{MapsFrom, IsMapOf}
use Rattle.agreements.specs.lemmas.Rows.{map_from_places}

-- each call gives h of the element and leaves the closure as it was
module _ {F : Type 0} (g : Mut F (ℕ × Unit {0}) ℕ) (h : ℕ → ℕ) (f : F) (call : (x y : ℕ) (q : F) → Called g f (x, tt) y q → (q ≡ f) × (y ≡ h x)) (xs ys : List ℕ) where
  from_place : (i n k j : ℕ) → i + k ≡ j → MapsFrom g f xs ys i n → k < n → slice_index ys j ≡ h (slice_index xs j)
  from_place i zero k j e m l = absurd (omega arith)
  from_place i (suc n) zero j e m l =
      let here : i ≡ j = omega arith in
      subst (λ j. slice_index ys j ≡ h (slice_index xs j)) here (m.4.1 0 ∙ (call m.1 m.2 m.0 m.5).1 ∙ ap h (sym (m.3.1 0)))
  from_place i (suc n) (suc k) j e m l =
      from_place (i + 1) n k j (omega arith) (subst (λ q. MapsFrom g q xs ys (i + 1) n) (call m.1 m.2 m.0 m.5).0 m.6) (omega arith)

  pub mapped : (n : ℕ) → IsMapOf g f xs ys n → length xs ≡ n → ys ≡ map h xs
  mapped n m long = map_from_places h ys xs n m.long long (λ k l. from_place 0 n k k (omega arith) m.each l)
