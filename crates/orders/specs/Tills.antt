-- What a till holds at each place, and what its calls answer and leave.
use Rattle.std.specs.Prelude.{◌≡◌, ℕ, ◌+◌, ◌-◌, ◌*◌, ◌/◌, ◌%◌, ◌<◌, ◌≤◌, Bool, true, false, ◌&&◌, Ok, Err, Result, ◌==◌, ◌≢◌, nat_le, slice_index_or}
use Rattle.std.proofs.Common.{lit≤}
use Rattle.metering.specs.Limits.{place_limit}
use Rattle.orders.specs.declared.money.Money.{Money}
use Rattle.orders.specs.declared.order.PayOrder.{PayOrder}
use Rattle.orders.specs.declared.order.Paid.{Paid}
use Rattle.orders.specs.declared.order.Returned.{Returned}
use Rattle.orders.specs.declared.till.Till.{Till}
use Rattle.orders.specs.declared.till.DrawRefusal.{DrawRefusal}
use Rattle.orders.specs.declared.till.DrawRefusal.TheVariants as draw
use Rattle.orders.specs.declared.till.CreditRefusal.{CreditRefusal}
use Rattle.orders.specs.declared.till.CreditRefusal.TheVariants as credit
use Rattle.arith.specs.Money.{cent}
use Rattle.orders.specs.Limits.{money_limit}

-- what is read past the end of the list of places
abbrev pub no_money : Money
no_money = record { standing = 0; on_orders = 0; within = lit≤ tt }

abbrev pub money_at : Till → ℕ → Money
money_at t p = slice_index_or t.money (p - 1) no_money

-- grains standing at place p, which counts from 1, and cents on its orders
unfoldable pub stands : Till → ℕ → ℕ
stands t p = (money_at t p).standing

unfoldable pub ordered_at : Till → ℕ → ℕ
ordered_at t p = (money_at t p).on_orders

abbrev pub is_place : ℕ → Bool
is_place p = nat_le 1 p && nat_le p place_limit

-- m is what place p has
abbrev pub MoneyAt : Till → ℕ → Money → Type 0
MoneyAt t p m = (m.standing ≡ stands t p) × (m.on_orders ≡ ordered_at t p)

abbrev pub NoMoney : Money → Type 0
NoMoney m = (m.standing ≡ 0) × (m.on_orders ≡ 0)

-- so many grains more keep the limit
abbrev pub room : Till → ℕ → ℕ → Bool
room t p grains = nat_le (grains + (stands t p + cent * ordered_at t p)) money_limit

-- a till with no money in it
pub record New (serial : ℕ) (t : Till) : Type 0 where
  pub serial_is : t.serial ≡ serial
  pub none_stands : (p : ℕ) → stands t p ≡ 0
  pub none_on_orders : (p : ℕ) → ordered_at t p ≡ 0

-- other figures at place p, and every other place as it was
pub record Puts (t : Till) (p standing ordered : ℕ) (t' : Till) : Type 0 where
  pub serial_is : t'.serial ≡ t.serial
  pub standing_is : stands t' p ≡ standing
  pub ordered_is : ordered_at t' p ≡ ordered
  pub others_stand : (q : ℕ) → 1 ≤ q → (q ≢ p) → stands t' q ≡ stands t q
  pub others_on_orders : (q : ℕ) → 1 ≤ q → (q ≢ p) → ordered_at t' q ≡ ordered_at t q

-- grains come to a place
abbrev pub Credits : Till → ℕ → ℕ → Result (Unit {0}) CreditRefusal → Till → Type 0
Credits t p grains (Ok _) t' = (is_place p ≡ true) × (room t p grains ≡ true) × Puts t p (stands t p + grains) (ordered_at t p) t'
Credits t p grains (Err credit.NoPlace) t' = (is_place p ≡ false) × (t' ≡ t)
Credits t p grains (Err credit.TooMuch) t' = (is_place p ≡ true) × (room t p grains ≡ false) × (t' ≡ t)

-- an order takes all whole cents that stand at the place
pub record Drawn (t : Till) (p : ℕ) (o : PayOrder) (t' : Till) : Type 0 where
  pub serial_of : o.serial ≡ t.serial
  pub place_of : o.place ≡ p
  pub cents_of : o.cents ≡ stands t p / cent
  pub left : Puts t p (stands t p % cent) (ordered_at t p + o.cents) t'

abbrev pub Draws : Till → ℕ → Result PayOrder DrawRefusal → Till → Type 0
Draws t p (Ok o) t' = (is_place p ≡ true) × (cent ≤ stands t p) × Drawn t p o t'
Draws t p (Err draw.NoPlace) t' = (is_place p ≡ false) × (t' ≡ t)
Draws t p (Err draw.UnderACent) t' = (is_place p ≡ true) × (stands t p < cent) × (t' ≡ t)

-- an order that the till may take in: it bears its serial, and its place has as much on orders
abbrev pub mine : Till → PayOrder → Bool
mine t o = o.serial == t.serial && nat_le o.cents (ordered_at t o.place)

-- an order that is not the till's comes back as it was
pub record Returns (t : Till) (o : PayOrder) (r : Returned) (t' : Till) : Type 0 where
  pub not_mine : mine t o ≡ false
  pub order_is : r.order ≡ o
  pub same : t' ≡ t

-- the order's cents are paid
abbrev pub Releases : Till → PayOrder → Result Paid Returned → Till → Type 0
Releases t o (Ok paid) t' =
    (mine t o ≡ true) × (paid ≡ record { place = o.place; cents = o.cents })
    × Puts t o.place (stands t o.place) (ordered_at t o.place - o.cents) t'
Releases t o (Err r) t' = Returns t o r t'

-- the order's cents stand at the place again
abbrev pub Holds : Till → PayOrder → Result (Unit {0}) Returned → Till → Type 0
Holds t o (Ok _) t' =
    (mine t o ≡ true) × Puts t o.place (stands t o.place + cent * o.cents) (ordered_at t o.place - o.cents) t'
Holds t o (Err r) t' = Returns t o r t'
