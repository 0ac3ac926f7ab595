-- Orders in hand.
use Rattle.std.proofs.Common.{◌≡◌, ℕ, ◌+◌, cond, eqb, List, [], ◌∷◌, ◌++◌, sym, refl, subst, ⊎_elim, arith}
use Rattle.std.proofs.lemmas.Bool.{cases_eq, eq-eqb, ne_eqb, cond-true, cond-false}
use Rattle.orders.specs.declared.order.PayOrder.{PayOrder}
use Rattle.ledger.specs.Runs.{Among, first, later}
use Rattle.ledger.specs.Accepted.{cents_at, in_hand}

-- what holds at one place and at every other
pub by_place : (P : ℕ → Type 0) (q : ℕ) → P q → ((p : ℕ) → (p ≡ q → ⊥) → P p) → (p : ℕ) → P p
by_place P q here there p = ⊎_elim (λ e. subst P (sym e) here) (there p) (cases_eq p q)

pub here : {X : Type 0} (q : ℕ) (a b : X) → cond (eqb q q) a b ≡ a
here q a b = cond-true (eqb q q) a b (eq-eqb q q refl)

pub elsewhere : {X : Type 0} (q p : ℕ) (a b : X) → (p ≡ q → ⊥) → cond (eqb q p) a b ≡ b
elsewhere q p a b ne = cond-false (eqb q p) a b (ne_eqb q p (λ e. ne (sym e)))

pub cents_here : (o : PayOrder) → cents_at o.place o ≡ o.cents
cents_here o = here o.place o.cents 0

pub cents_there : (o : PayOrder) (p : ℕ) → (p ≡ o.place → ⊥) → cents_at p o ≡ 0
cents_there o p ne = elsewhere o.place p o.cents 0 ne

-- one order more
pub in_hand_more : (p : ℕ) (os : List PayOrder) (o : PayOrder) → in_hand p (os ++ o ∷ []) ≡ in_hand p os + cents_at p o
in_hand_more p [] o = omega arith
in_hand_more p (q ∷ os) o = let more = in_hand_more p os o in omega arith

-- an order taken from those in hand takes its cents from its place
pub in_hand_less : {o : PayOrder} {os rest : List PayOrder} → Among o os rest → (p : ℕ) → in_hand p os ≡ cents_at p o + in_hand p rest
in_hand_less first p = refl
in_hand_less (later {q} a) p = let less = in_hand_less a p in omega arith

-- every order of a list bears a serial
abbrev pub Bear : ℕ → List PayOrder → Type 0
Bear serial [] = Unit {0}
Bear serial (o ∷ os) = (o.serial ≡ serial) × Bear serial os

pub bear_more : (serial : ℕ) (os : List PayOrder) (o : PayOrder) → o.serial ≡ serial → Bear serial os → Bear serial (os ++ o ∷ [])
bear_more serial [] o e b = (e, tt)
bear_more serial (q ∷ os) o e b = (b.0, bear_more serial os o e b.1)

pub bear_rest : (serial : ℕ) {o : PayOrder} {os rest : List PayOrder} → Among o os rest → Bear serial os → Bear serial rest
bear_rest serial first b = b.1
bear_rest serial (later a) b = (b.0, bear_rest serial a b.1)

pub bear_of : (serial : ℕ) {o : PayOrder} {os rest : List PayOrder} → Among o os rest → Bear serial os → o.serial ≡ serial
bear_of serial first b = b.0
bear_of serial (later a) b = bear_of serial a b.1
