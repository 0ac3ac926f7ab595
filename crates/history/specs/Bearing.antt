-- The serials that orders bear.
use Rattle.std.specs.Prelude.{◌≡◌, ℕ, Bool, true, false, ◌&&◌, ◌||◌, List, [], ◌∷◌, Some, None, Option, ◌==◌}
use Rattle.orders.specs.declared.order.PayOrder.{PayOrder}

-- an order is there that bears the serial
abbrev pub slot_bears : ℕ → Option PayOrder → Bool
slot_bears serial None = false
slot_bears serial (Some o) = o.serial == serial

-- some order of a list bears it
abbrev pub any_bears : ℕ → List (Option PayOrder) → Bool
any_bears serial [] = false
any_bears serial (x ∷ slots) = slot_bears serial x || any_bears serial slots

-- every order bears it
abbrev pub all_bear : ℕ → List PayOrder → Bool
all_bear serial [] = true
all_bear serial (o ∷ os) = o.serial == serial && all_bear serial os

-- none does: they are of other houses
abbrev pub Foreign : ℕ → List (Option PayOrder) → Type 0
Foreign serial slots = any_bears serial slots ≡ false
