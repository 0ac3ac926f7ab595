-- Orders under numbers, taken out and put back.
use Rattle.std.proofs.Common.{◌≡◌, ℕ, zero, suc, ◌+◌, ◌-◌, ◌<◌, ◌≤◌, ◌||◌, leb, ◌⊎◌, List, [], ◌∷◌, ◌++◌, length, get_or, set, is_some, Some, None, Ok, Err, Option, Result, unwrap_or, sym, refl, ap, ◌∙◌, subst, inl, inr, ⊎_elim, arith}
use Rattle.std.proofs.lemmas.Bool.{le-leb, lt-leb, cond-true, cond-false, cases_lt, false≢true}
use Rattle.std.proofs.lemmas.List.{get_or_past, get_or_default}
use Rattle.std.specs.List.{list_any}
use Rattle.orders.specs.declared.order.PayOrder.{PayOrder}
use Rattle.orders.specs.declared.order.Returned.{Returned}
use Rattle.ledger.specs.Views.{View}
use Rattle.history.specs.declared.spending.Spending.{Spending}
use Rattle.history.specs.declared.spending.Spending.TheVariants.{Release, Hold}
use Rattle.history.specs.declared.answer.Answer.{Answer}
use Rattle.history.specs.Presenting.{Spends, PutsBack, PresentsAt, After, Presentation}
use Rattle.ledger.specs.Runs.{Among, first, later}
use Rattle.history.specs.Bearing.{slot_bears, any_bears}
use Rattle.history.specs.Slots.{slot, without, in_slots}

abbrev Slots : Type 0
Slots = List (Option PayOrder)

pub none_not_some : {o : PayOrder} → ◌≡◌ {A = Option PayOrder} None (Some o) → ⊥
none_not_some e = false≢true (ap is_some e)

pub some_same : {o q : PayOrder} → ◌≡◌ {A = Option PayOrder} (Some o) (Some q) → o ≡ q
some_same {o} e = ap (λ x. unwrap_or x o) e

-- the same by the place in the list, which counts from 0
there_within : (slots : Slots) (i : ℕ) (o : PayOrder) → get_or slots i None ≡ Some o → i < length slots
there_within [] i o h = absurd (none_not_some h)
there_within (x ∷ slots) zero o h = omega arith
there_within (x ∷ slots) (suc i) o h = let below = there_within slots i o h in omega arith

emptied : (slots : Slots) (i : ℕ) → get_or (set slots i None) i None ≡ None
emptied [] i = refl
emptied (x ∷ slots) zero = refl
emptied (x ∷ slots) (suc i) = emptied slots i

nothing_lost : (slots : Slots) (i : ℕ) → get_or slots i None ≡ None → set slots i None ≡ slots
nothing_lost [] i h = refl
nothing_lost (x ∷ slots) zero h = ap (λ y. y ∷ slots) (sym h)
nothing_lost (x ∷ slots) (suc i) h = ap (λ ys. x ∷ ys) (nothing_lost slots i h)

there_already : (slots : Slots) (i : ℕ) (o : PayOrder) → get_or slots i None ≡ Some o → set slots i (Some o) ≡ slots
there_already [] i o h = refl
there_already (x ∷ slots) zero o h = ap (λ y. y ∷ slots) (sym h)
there_already (x ∷ slots) (suc i) o h = ap (λ ys. x ∷ ys) (there_already slots i o h)

as_long : (slots : Slots) (i : ℕ) (x : Option PayOrder) → length (set slots i x) ≡ length slots
as_long [] i x = refl
as_long (y ∷ slots) zero x = refl
as_long (y ∷ slots) (suc i) x = ap suc (as_long slots i x)

among_at : (slots : Slots) (i : ℕ) (o : PayOrder) → get_or slots i None ≡ Some o → Among o (in_slots slots) (in_slots (set slots i None))
among_at [] i o h = absurd (none_not_some h)
among_at (x ∷ slots) zero o h = subst (λ y. Among o (in_slots (y ∷ slots)) (in_slots slots)) (sym h) first
among_at (None ∷ slots) (suc i) o h = among_at slots i o h
among_at (Some q ∷ slots) (suc i) o h = later (among_at slots i o h)

-- no order has a number that is 0 or past the end
pub nobody : (slots : Slots) (number : ℕ) → (number ≡ 0) ⊎ (length slots < number) → slot slots number ≡ None
nobody slots number (inl e) = cond-false (leb 1 number) _ _ (lt-leb 1 number (omega arith))
nobody slots number (inr h) =
    cond-true (leb 1 number) _ _ (le-leb 1 number (omega arith)) ∙ get_or_past slots (number - 1) None (omega arith)

pub slot_is : (slots : Slots) (number : ℕ) → 1 ≤ number → slot slots number ≡ get_or slots (number - 1) None
slot_is slots number some = cond-true (leb 1 number) _ _ (le-leb 1 number some)

pub without_is : (slots : Slots) (number : ℕ) → 1 ≤ number → without slots number ≡ set slots (number - 1) None
without_is slots number some = cond-true (leb 1 number) _ _ (le-leb 1 number some)

-- a number with an order is in the list
pub numbered : (slots : Slots) (number : ℕ) (o : PayOrder) → slot slots number ≡ Some o → (1 ≤ number) × (number ≤ length slots) × (get_or slots (number - 1) None ≡ Some o)
numbered slots number o h =
    ⊎_elim
    (λ (none : number < 1). absurd (none_not_some (sym (nobody slots number (inl (omega arith))) ∙ h)))
    (λ (some : 1 ≤ number).
    let there = sym (slot_is slots number some) ∙ h in
    let within = there_within slots (number - 1) o there in
    (some, omega arith, there))
    (cases_lt number 1)

-- taking out where nothing is changes nothing
pub without_none : (slots : Slots) (number : ℕ) → slot slots number ≡ None → without slots number ≡ slots
without_none slots number h =
    ⊎_elim
    (λ (none : number < 1). cond-false (leb 1 number) _ _ (lt-leb 1 number none))
    (λ (some : 1 ≤ number). without_is slots number some ∙ nothing_lost slots (number - 1) (sym (slot_is slots number some) ∙ h))
    (cases_lt number 1)

-- an order that is taken out leaves its number free
pub taken_slot : (slots : Slots) (number : ℕ) → 1 ≤ number → slot (without slots number) number ≡ None
taken_slot slots number some =
    slot_is (without slots number) number some ∙ ap (λ xs. get_or xs (number - 1) None) (without_is slots number some) ∙ emptied slots (number - 1)

pub without_long : (slots : Slots) (number : ℕ) → 1 ≤ number → length (without slots number) ≡ length slots
without_long slots number some = ap length (without_is slots number some) ∙ as_long slots (number - 1) None

-- the order with a number, by its place in the list, which counts from 0
at_number : (slots : Slots) (i number : ℕ) (x : Option PayOrder) → i + 1 ≡ number → number ≤ length slots → x ≡ get_or slots i x → slot slots number ≡ x
at_number slots i number x at within is =
    let e : number - 1 ≡ i = omega arith in
    slot_is slots number (omega arith) ∙ ap (λ k. get_or slots k None) e ∙ get_or_default slots i None x (omega arith) ∙ sym is

emptied_at : (slots : Slots) (i number : ℕ) → i + 1 ≡ number → set slots i None ≡ without slots number
emptied_at slots i number at =
    let e : i ≡ number - 1 = omega arith in
    ap (λ k. set slots k None) e ∙ sym (without_is slots number (omega arith))

after_it : (slots slots' : Slots) (i number : ℕ) (o : PayOrder) (x' : Option PayOrder) (r : Result Answer Returned) (a : Answer) → i + 1 ≡ number → get_or slots i None ≡ Some o → slots' ≡ set slots i x' → PutsBack o r a x' → After slots number r a slots'
after_it slots slots' i number o x' (Ok told) a at there put (same, gone) = (same, put ∙ ap (λ y. set slots i y) gone ∙ emptied_at slots i number at)
after_it slots slots' i number o x' (Err back) a at there put (same, again) = (same, put ∙ ap (λ y. set slots i y) again ∙ there_already slots i o there)

-- an order presented from its slot is presented by its number
pub presented : (how : Spending) (slots slots' : Slots) (i number : ℕ) (x x' : Option PayOrder) (v w : View) (a : Answer) → i + 1 ≡ number → number ≤ length slots → x ≡ get_or slots i x → slots' ≡ set slots i x' → PresentsAt how x v a x' w → Presentation how number slots v a slots' w
presented how slots slots' i number None x' v w a at within is put (absent, gone, same) =
    let nothing = at_number slots i number None at within is in
    inl record { nowhere = nothing; told = absent; same_slots = put ∙ ap (λ y. set slots i y) gone ∙ emptied_at slots i number at ∙ without_none slots number nothing; same_house = same }
presented how slots slots' i number (Some o) x' v w a at within is put (r, spent, back) =
    let here : get_or slots i None ≡ Some o = get_or_default slots i None (Some o) (omega arith) ∙ sym is in
    inr (o, r, record { there = at_number slots i number (Some o) at within is; spent = spent; after = after_it slots slots' i number o x' r a at here put back })

-- the order with a number is among those that are there, and the others stay
pub among_slots : (slots : Slots) (number : ℕ) (o : PayOrder) → slot slots number ≡ Some o → Among o (in_slots slots) (in_slots (without slots number))
among_slots slots number o h =
    let there = numbered slots number o h in
    subst (λ rest. Among o (in_slots slots) (in_slots rest)) (sym (without_is slots number there.0)) (among_at slots (number - 1) o there.2)

-- one order more
pub slots_more : (slots : Slots) (o : PayOrder) → in_slots (slots ++ (Some o ∷ [])) ≡ in_slots slots ++ o ∷ []
slots_more [] o = refl
slots_more (None ∷ slots) o = slots_more slots o
slots_more (Some q ∷ slots) o = ap (λ os. q ∷ os) (slots_more slots o)

-- an order that comes back is the one that was presented
pub returned_order : (how : Spending) (v : View) (o : PayOrder) (back : Returned) (w : View) → Spends how v o (Err back) w → back.order ≡ o
returned_order Release v o back w h = h.released.order_is
returned_order Hold v o back w h = h.held.order_is

pub slots_no_more : (slots : Slots) → in_slots (slots ++ (None ∷ [])) ≡ in_slots slots
slots_no_more [] = refl
slots_no_more (None ∷ slots) = slots_no_more slots
slots_no_more (Some q ∷ slots) = ap (λ os. q ∷ os) (slots_no_more slots)

pub none_left : (slots : Slots) → length slots ≤ 0 → slots ≡ []
none_left [] h = refl
none_left (x ∷ slots) h = absurd (omega arith)

-- whether some order bears a serial, in the words of std
pub any_bears_list : (serial : ℕ) (slots : Slots) → list_any (slot_bears serial) slots ≡ any_bears serial slots
any_bears_list serial [] = refl
any_bears_list serial (x ∷ slots) = ap (λ b. slot_bears serial x || b) (any_bears_list serial slots)
