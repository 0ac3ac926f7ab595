-- The numbers of a till's refusals.
use Rattle.std.specs.Prelude.{ℕ}
use Rattle.orders.specs.declared.till.DrawRefusal.{DrawRefusal}
use Rattle.orders.specs.declared.till.DrawRefusal.TheVariants as draw
use Rattle.orders.specs.declared.till.CreditRefusal.{CreditRefusal}
use Rattle.orders.specs.declared.till.CreditRefusal.TheVariants as credit

-- there is no such place
abbrev pub no_place_number : ℕ
no_place_number = 8

abbrev pub draw_number : DrawRefusal → ℕ
draw_number draw.NoPlace = no_place_number
draw_number draw.UnderACent = 21

abbrev pub credit_number : CreditRefusal → ℕ
credit_number credit.NoPlace = no_place_number
credit_number credit.TooMuch = 11

-- an order is not taken in
abbrev pub returned_number : ℕ
returned_number = 22
