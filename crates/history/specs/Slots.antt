-- Orders under numbers: each in a slot.
use Rattle.std.specs.Prelude.{◌≡◌, ℕ, ◌-◌, ◌<◌, ◌≤◌, cond, List, [], ◌∷◌, ◌++◌, length, Some, None, Ok, Err, vec_items, vec_capacity, Option, Result, nat_le, slice_index_or, slice_set, MatchOption, ◌≢◌}
use Rattle.std.specs.Option.{option_to_list}
use Rattle.orders.specs.declared.order.PayOrder.{PayOrder}
use Rattle.history.specs.declared.order_list.Orders.{Orders}

abbrev pub slots_of : Orders → List (Option PayOrder)
slots_of o = vec_items o.slots

abbrev pub room_in : Orders → ℕ
room_in o = vec_capacity o.slots

-- the order with a number, counted from 1, if it is there
abbrev pub slot : List (Option PayOrder) → ℕ → Option PayOrder
slot slots number = cond (nat_le 1 number) (slice_index_or slots (number - 1) None) None

-- the same orders without that one
abbrev pub without : List (Option PayOrder) → ℕ → List (Option PayOrder)
without slots number = cond (nat_le 1 number) (slice_set slots (number - 1) None) slots

-- the orders that are there
abbrev pub in_slots : List (Option PayOrder) → List PayOrder
in_slots [] = []
in_slots (None ∷ slots) = in_slots slots
in_slots (Some o ∷ slots) = o ∷ in_slots slots

-- these slots are left, in the room that there was
abbrev pub Leaves : Orders → List (Option PayOrder) → Orders → Type 0
Leaves before slots after = (slots_of after ≡ slots) × (room_in after ≡ room_in before)

-- an order more under the next number, or back where there is no room
abbrev pub Adds : Orders → PayOrder → Result (Unit {0}) PayOrder → Orders → Type 0
Adds before o (Ok _) after = (length (slots_of before) < room_in before) × (slots_of after ≡ slots_of before ++ (Some o ∷ [])) × (room_in after ≡ room_in before)
Adds before o (Err back) after = (room_in before ≤ length (slots_of before)) × (back ≡ o) × (after ≡ before)

-- the last order is taken out, if there is one, and the others stay
abbrev pub TakesLast : Orders → Option PayOrder → Orders → Type 0
TakesLast before taken after = in_slots (slots_of before) ≡ in_slots (slots_of after) ++ option_to_list taken

-- and the list is shorter, or has come to its end
abbrev pub Shortens : Orders → Option PayOrder → Orders → Type 0
Shortens before taken after =
    MatchOption taken (slots_of after ≡ []) (λ _. length (slots_of after) < length (slots_of before))

-- a list without numbers is let go, and another comes back
abbrev pub Ends : Orders → Result (Unit {0}) Orders → Type 0
Ends o (Ok _) = slots_of o ≡ []
Ends o (Err back) = (back ≡ o) × (slots_of o ≢ [])
