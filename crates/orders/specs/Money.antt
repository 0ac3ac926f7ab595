-- How much money a place has.
use Rattle.std.specs.Prelude.{◌≡◌, ℕ, ◌+◌, ◌*◌}
use Rattle.arith.specs.Money.{cent}
use Rattle.orders.specs.declared.money.Money.{Money}

-- all grains, those on orders too
abbrev pub held_in : Money → ℕ
held_in m = m.standing + cent * m.on_orders

-- so many grains more standing, and as much on orders
abbrev pub MoreStanding : Money → ℕ → Money → Type 0
MoreStanding m grains m' = (m'.standing ≡ m.standing + grains) × (m'.on_orders ≡ m.on_orders)
