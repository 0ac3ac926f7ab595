-- What a pay desk answers for an order, and what the till then shows.
use Rattle.std.specs.Prelude.{◌≡◌, ℕ, ◌+◌, ◌-◌, ◌*◌, ◌/◌, ◌%◌, ◌<◌, ◌≤◌, ◌==◌, ◌&&◌, Bool, true, false, nat_le, Ok, Err, Result}
use Rattle.orders.specs.declared.order.PayOrder.{PayOrder}
use Rattle.orders.specs.declared.order.Paid.{Paid}
use Rattle.orders.specs.declared.order.Returned.{Returned}
use Rattle.arith.specs.Money.{cent}
use Rattle.orders.specs.Refusals.{returned_number}
use Rattle.orders.specs.Tills.{stands, ordered_at, mine, Puts}
use Rattle.ledger.specs.declared.refusal.Refusal.{Refusal}
use Rattle.ledger.specs.Views.{View, till_of, with_till}
use Rattle.ledger.specs.Verdicts.{refused}
use Rattle.ledger.specs.Calls.{draw_verdict}
use Rattle.pay_desk.specs.declared.desk.Settled.{Settled}
use Rattle.pay_desk.specs.declared.desk.Settled.TheVariants.{Released, Held, TurnedAway}

-- the money of one place has moved, and nothing else in the house
pub record Moved (v : View) (p standing ordered : ℕ) (w : View) : Type 0 where
  pub money : Puts (till_of v) p standing ordered (till_of w)
  pub left : w ≡ with_till v (till_of w)

-- the order's cents leave the house
abbrev pub Pays : View → PayOrder → View → Type 0
Pays v o w = Moved v o.place (stands (till_of v) o.place) (ordered_at (till_of v) o.place - o.cents) w

-- the order's cents stand at its place again
abbrev pub Keeps : View → PayOrder → View → Type 0
Keeps v o w = Moved v o.place (stands (till_of v) o.place + cent * o.cents) (ordered_at (till_of v) o.place - o.cents) w

-- what is told of an order are its place and its cents
abbrev pub Of : PayOrder → Paid → Type 0
Of o paid = (paid.place ≡ o.place) × (paid.cents ≡ o.cents)

-- an order of the house's own is put off, and another is handed back
abbrev pub PutsOff : View → PayOrder → Result Settled Returned → View → Type 0
PutsOff v o (Ok (Held paid)) w = (mine (till_of v) o ≡ true) × Of o paid × Keeps v o w
PutsOff v o (Ok (Released paid)) w = ⊥
PutsOff v o (Ok (TurnedAway number paid)) w = ⊥
PutsOff v o (Err back) w = (mine (till_of v) o ≡ false) × (back.order ≡ o) × (w ≡ v)

-- an order is presented at a desk: paid there, or else kept by its owner, or else handed back
abbrev pub PresentsAtDesk : View → View → PayOrder → Result Settled Returned → View → View → Type 0
PresentsAtDesk desk owner o (Ok (Released paid)) desk' owner' =
    (mine (till_of desk) o ≡ true) × Of o paid × Pays desk o desk' × (owner' ≡ owner)
PresentsAtDesk desk owner o (Ok (Held paid)) desk' owner' = ⊥
PresentsAtDesk desk owner o (Ok (TurnedAway number paid)) desk' owner' =
    (mine (till_of desk) o ≡ false) × (mine (till_of owner) o ≡ true)
    × (number ≡ returned_number) × Of o paid × (desk' ≡ desk) × Keeps owner o owner'
PresentsAtDesk desk owner o (Err back) desk' owner' =
    (mine (till_of desk) o ≡ false) × (mine (till_of owner) o ≡ false)
    × (back.order ≡ o) × (desk' ≡ desk) × (owner' ≡ owner)

-- the whole cents that stand at a place, and the grains besides
abbrev pub whole_cents : View → ℕ → ℕ
whole_cents v p = stands (till_of v) p / cent

abbrev pub rest : View → ℕ → ℕ
rest v p = stands (till_of v) p % cent

-- so many cents at most are paid; more of them stand as if none had been drawn
abbrev pub Settles : ℕ → View → ℕ → Result Settled Refusal → View → Type 0
Settles most v p (Ok (Released paid)) w =
    (paid.place ≡ p) × (paid.cents ≡ whole_cents v p) × (paid.cents ≤ most) × Moved v p (rest v p) (ordered_at (till_of v) p) w
Settles most v p (Ok (Held paid)) w =
    (paid.place ≡ p) × (paid.cents ≡ whole_cents v p) × (most < paid.cents)
    × Moved v p (stands (till_of v) p) (ordered_at (till_of v) p) w
Settles most v p (Ok (TurnedAway number paid)) w = ⊥
Settles most v p (Err why) w = (draw_verdict v p ≡ refused why) × (w ≡ v)

-- the desk would take in an order on all that stands at its owner's place
abbrev pub known : View → View → ℕ → Bool
known desk owner p = (till_of owner).serial == (till_of desk).serial && nat_le (whole_cents owner p) (ordered_at (till_of desk) p)

-- an order is drawn by its owner, and presented at a desk
abbrev pub Elsewhere : View → View → ℕ → Result Settled Refusal → View → View → Type 0
Elsewhere desk owner p (Ok (Released paid)) desk' owner' =
    (known desk owner p ≡ true) × (paid.place ≡ p) × (paid.cents ≡ whole_cents owner p)
    × Moved desk p (stands (till_of desk) p) (ordered_at (till_of desk) p - paid.cents) desk'
    × Moved owner p (rest owner p) (ordered_at (till_of owner) p + paid.cents) owner'
Elsewhere desk owner p (Ok (Held paid)) desk' owner' = ⊥
Elsewhere desk owner p (Ok (TurnedAway number paid)) desk' owner' =
    (known desk owner p ≡ false) × (number ≡ returned_number) × (paid.place ≡ p) × (paid.cents ≡ whole_cents owner p)
    × (desk' ≡ desk) × Moved owner p (stands (till_of owner) p) (ordered_at (till_of owner) p) owner'
Elsewhere desk owner p (Err why) desk' owner' =
    (draw_verdict owner p ≡ refused why) × (desk' ≡ desk) × (owner' ≡ owner)
