-- A statement's figures by the sums over the answers, and by what books and till hold.
use Rattle.std.specs.Prelude.{◌≡◌, ℕ, ◌+◌, ◌-◌, ◌*◌, ◌<◌, List, slice_index_or}
use Rattle.std.proofs.Common.{lit≤}
use Rattle.accounts.specs.declared.books.Books.{Books}
use Rattle.settlement.specs.Law.{fractions_in, balances_in, carries_in}
use Rattle.orders.specs.declared.till.Till.{Till}
use Rattle.arith.specs.Money.{cent}
use Rattle.metering.specs.Limits.{place_limit}
use Rattle.orders.specs.Tills.{stands, ordered_at}
use Rattle.statement.specs.declared.account.AccountTotals.{AccountTotals}
use Rattle.statement.specs.declared.money.PlaceMoney.{PlaceMoney}
use Rattle.statement.specs.declared.tally.Tally.{Tally}
use Rattle.statement.specs.Tallies.{place_at}

pub record Sums (t : Tally) (b : Books) (heads : ℕ) (a : AccountTotals) : Type 0 where
  pub bills : a.bills ≡ cent * t.bills
  pub fractions : a.fractions ≡ fractions_in b
  pub balances : a.balances ≡ balances_in heads b
  pub carries : a.carries ≡ carries_in heads b
  pub margins : a.margins ≡ t.margins
  pub dues : a.dues ≡ t.dues
  pub revenues : a.revenues ≡ cent * t.shares

pub record Holds (t : Tally) (till : Till) (p : ℕ) (m : PlaceMoney) : Type 0 where
  pub released : m.released ≡ cent * (place_at t (p - 1)).released
  pub in_hand : m.in_hand ≡ cent * ordered_at till p
  pub standing : m.standing ≡ stands till p
  pub terms : m.terms ≡ (place_at t (p - 1)).given

abbrev pub no_money : PlaceMoney
no_money = record { released = 0; in_hand = 0; standing = 0; terms = 0; modest = lit≤ tt }

-- the money of every place, place 1 first
abbrev pub HoldsEach : Tally → Till → List PlaceMoney → Type 0
HoldsEach t till places =
    (before : ℕ) → before < place_limit → Holds t till (before + 1) (slice_index_or places before no_money)
