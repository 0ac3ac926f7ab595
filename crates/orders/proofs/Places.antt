-- The money of a till, place by place.
use Rattle.std.proofs.Common.{◌≡◌, ◌==◌, nat_le, ℕ, ◌+◌, ◌-◌, ◌*◌, ◌<◌, ◌≤◌, ◌≢◌, false, true, is_ok, Ok, Err, Result, List, length, get_or, set, replicate, sym, refl, ap, ◌∙◌, inl, inr, ⊎_elim, arith, get_or-set_other, get_or-set_same}
use Rattle.std.proofs.lemmas.List.{get_or_past, get_or-replicate, get_or_default}
use Rattle.std.proofs.lemmas.Bool.{cases_lt, le-leb, leb-true, and_parts, and_from, false≢true}
use lib.ListN.{length-replicate}
use Rattle.metering.specs.Limits.{place_limit}
use Rattle.orders.specs.declared.money.Money.{Money}
use Rattle.orders.specs.declared.order.PayOrder.{PayOrder}
use Rattle.orders.specs.declared.order.Paid.{Paid}
use Rattle.orders.specs.declared.till.Till.{Till}
use Rattle.orders.specs.declared.till.CreditRefusal.{CreditRefusal}
use Rattle.orders.specs.declared.till.CreditRefusal.TheVariants.{NoPlace, TooMuch}
use Rattle.arith.specs.Money.{cent}
use Rattle.orders.specs.Limits.{money_limit}
use Rattle.orders.specs.Tills.{no_money, money_at, stands, ordered_at, is_place, Puts, New, Credits, Releases}

-- where there is no such place there is no money
pub beyond : (t : Till) (p : ℕ) → 1 ≤ p → is_place p ≡ false → (stands t p ≡ 0) × (ordered_at t p ≡ 0)
unfolding stands ordered_at
beyond t p some none =
    let long : place_limit < p = ⊎_elim (λ (h : place_limit < p). h) (λ (h : p ≤ place_limit). absurd (false≢true (sym none ∙ and_from _ _ (le-leb 1 p some) (le-leb p place_limit h)))) (cases_lt place_limit p) in
    let past : money_at t p ≡ no_money = get_or_past t.money (p - 1) no_money (let full = t.full in omega arith) in
    (ap (λ (m : Money). m.standing) past, ap (λ (m : Money). m.on_orders) past)

-- what stands in the table at a place
pub money_there : (t : Till) (p i : ℕ) (m : Money) → i + 1 ≡ p → p ≤ place_limit → ((get_or t.money i m).standing ≡ stands t p) × ((get_or t.money i m).on_orders ≡ ordered_at t p)
unfolding stands ordered_at
money_there t p i m at high =
    let e : i ≡ p - 1 = omega arith in
    let same = get_or_default t.money i m no_money (let full = t.full in omega arith) ∙ ap (λ k. get_or t.money k no_money) e in
    (ap (λ (m : Money). m.standing) same, ap (λ (m : Money). m.on_orders) same)

-- the money of a place keeps its limit
money_within : (t : Till) (p : ℕ) → stands t p + cent * ordered_at t p ≤ money_limit
unfolding stands ordered_at
money_within t p = (money_at t p).within

all_alike : (n k : ℕ) (m : Money) → (P : Money → Type 0) → P m → P no_money → P (get_or (replicate n m) k no_money)
all_alike n k m P here past =
    elim (cases_lt k n) [ inl h ↦ rw (get_or-replicate n k m no_money h) here | inr h ↦ rw (get_or_past (replicate n m) k no_money (rw (length-replicate {A = Money} n m) h)) past ]

-- a till whose places all have nothing
pub nothing_yet : (t : Till) (m : Money) → t.money ≡ replicate place_limit m → m.standing ≡ 0 → m.on_orders ≡ 0 → New t.serial t
unfolding stands ordered_at
nothing_yet t m is stood ordered =
    record {
      serial_is = refl;
      none_stands = λ p. ap (λ (ms : List Money). (get_or ms (p - 1) no_money).standing) is ∙ all_alike place_limit (p - 1) m (λ x. x.standing ≡ 0) stood refl;
      none_on_orders = λ p. ap (λ (ms : List Money). (get_or ms (p - 1) no_money).on_orders) is ∙ all_alike place_limit (p - 1) m (λ x. x.on_orders ≡ 0) ordered refl;
    }

-- other money at a place
pub puts : (t t' : Till) (p i : ℕ) (m : Money) → i + 1 ≡ p → p ≤ place_limit → t'.serial ≡ t.serial → t'.money ≡ set t.money i m → Puts t p m.standing m.on_orders t'
unfolding stands ordered_at
puts t t' p i m at high serial put =
    let e : i ≡ p - 1 = omega arith in
    let money = put ∙ ap (λ k. set t.money k m) e in
    let within : p - 1 < length t.money = let full = t.full in omega arith in
    let here : money_at t' p ≡ m = ap (λ (ms : List Money). get_or ms (p - 1) no_money) money ∙ get_or-set_same t.money (p - 1) m no_money within in
    let there : (q : ℕ) → 1 ≤ q → (q ≡ p → ⊥) → money_at t' q ≡ money_at t q = λ q some ne. let other : q - 1 ≢ p - 1 = λ e. ne (omega (arith, e)) in ap (λ (ms : List Money). get_or ms (q - 1) no_money) money ∙ get_or-set_other t.money (p - 1) (q - 1) m no_money other in
    record {
      serial_is = serial;
      standing_is = ap (λ (m : Money). m.standing) here;
      ordered_is = ap (λ (m : Money). m.on_orders) here;
      others_stand = λ q some ne. ap (λ (m : Money). m.standing) (there q some ne);
      others_on_orders = λ q some ne. ap (λ (m : Money). m.on_orders) (there q some ne);
    }

-- the cents of an order that was released can stand at its place again
pub held_fits : (t t' t'' : Till) (o : PayOrder) (paid : Paid) (k n : ℕ) (r : Result (Unit {0}) CreditRefusal) → Releases t o (Ok paid) t' → k ≡ cent → n ≡ paid.cents → Credits t' paid.place (k * n) r t'' → is_ok r ≡ true
held_fits t t' t'' o paid k n (Ok u) m each cents c = refl
held_fits t t' t'' o paid k n (Err NoPlace) m each cents c =
    let p = ap (λ (x : Paid). x.place) m.1 in
    let there = o.placed in
    absurd (false≢true (sym c.0 ∙ and_from _ _ (le-leb 1 paid.place (omega arith)) (le-leb paid.place place_limit (omega arith))))
held_fits t t' t'' o paid k n (Err TooMuch) m each cents c =
    let p = ap (λ (x : Paid). x.place) m.1 in
    let grains : k * n ≡ cent * o.cents = ap (λ x. x * n) each ∙ ap (λ x. cent * x) (cents ∙ ap (λ (x : Paid). x.cents) m.1) in
    let standing = ap (stands t') p ∙ m.2.standing_is in
    let ordered = ap (ordered_at t') p ∙ m.2.ordered_is in
    let within = money_within t o.place in
    let some : o.cents ≤ ordered_at t o.place = leb-true _ _ (and_parts (o.serial == t.serial) (nat_le o.cents (ordered_at t o.place)) m.0).1 in
    absurd (false≢true (sym c.1 ∙ le-leb (k * n + (stands t' paid.place + cent * ordered_at t' paid.place)) money_limit (omega (arith, grains, standing, ordered, within, some))))
