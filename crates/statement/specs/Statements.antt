-- What a statement says: each figure by the definitions of the law over every list of calls.
use Rattle.std.specs.Prelude.{◌≡◌, ℕ, ◌+◌, ◌-◌, ◌*◌, ◌<◌, ◌≤◌, List, length, pos, Option, slice_index_or}
use Rattle.agreements.specs.Meaning.{Meaning}
use Rattle.methodology.specs.Meaning.{Meaning as Market}
use Rattle.methodology.specs.declared.shape.Shape.{Shape}
use Rattle.methodology.specs.declared.rules.Methodology.{Ghosts as MarketGhosts}
use Rattle.banks.specs.declared.bank.Bank.{Ghosts as BankGhosts}
use Rattle.banks.specs.Rows.{at_place}
use Rattle.metering.specs.Limits.{licensee_limit}
use Rattle.accounts.specs.Sums.{sum_to, sum_toℤ}
use Rattle.orders.specs.declared.order.PayOrder.{PayOrder}
use Rattle.arith.specs.Money.{cent}
use Rattle.metering.specs.Limits.{place_limit}
use Rattle.orders.specs.Tills.{stands}
use Rattle.ledger.specs.Views.{View, till_of}
use Rattle.ledger.specs.Terms.{given_at}
use Rattle.ledger.specs.Runs.{Event}
use Rattle.ledger.specs.Accepted.{accepted_at, closed_dues, allowed, billed, margins, last_balance, last_carry, last_fraction, paid_at, in_hand}
use Rattle.ledger.specs.Law.{head_number}
use Rattle.house.specs.Shown.{shows}
use Rattle.history.specs.declared.call.Call.{Call}
use Rattle.history.specs.declared.answer.Answer.{Answer}
use Rattle.history.specs.declared.performance.Performance.{Performance}
use Rattle.history.specs.Slots.{slots_of, in_slots}
use Rattle.history.specs.Histories.{Performed}
use Rattle.statement.specs.Bounds.{call_limit}
use Rattle.statement.specs.Sums.{no_money}
use Rattle.statement.specs.Totals.{covered_by, costs_by}
use Rattle.statement.specs.declared.account.AccountTotals.{AccountTotals}
use Rattle.statement.specs.declared.money.PlaceMoney.{PlaceMoney}
use Rattle.statement.specs.declared.statement.Statement.{Statement}

-- the money of a place, which counts from 1
abbrev pub money_at : Statement → ℕ → PlaceMoney
money_at s p = slice_index_or s.places (p - 1) no_money

-- the terms of the account over the closed months, in grains; both sums are the same
pub record StatesTotals (shape : Shape) (market : Market) (row : List Meaning) (es : List Event) (a : AccountTotals) : Type 0 where
  pub bills : a.bills ≡ cent * billed es
  pub fractions : a.fractions ≡ sum_to (last_fraction es) licensee_limit
  pub balances : a.balances ≡ sum_toℤ (last_balance es) (head_number shape market row)
  pub carries : a.carries ≡ sum_to (last_carry es) (head_number shape market row)
  pub margins : a.margins ≡ margins es
  pub dues : a.dues ≡ closed_dues row es
  pub revenues : a.revenues ≡ cent * allowed shape.revenues es
  pub even : covered_by a ≡ pos (costs_by a)

-- the money of a place, in grains: together it is what the terms give
pub record StatesMoney (row : List Meaning) (es : List Event) (hand : List PayOrder) (v : View) (p : ℕ) (m : PlaceMoney) : Type 0 where
  pub released : m.released ≡ cent * paid_at p es
  pub in_hand : m.in_hand ≡ cent * in_hand p hand
  pub standing : m.standing ≡ stands (till_of v) p
  pub terms : m.terms ≡ given_at (at_place row p) (accepted_at p es)
  pub settled : m.released + m.in_hand + m.standing ≡ m.terms

pub record States (shape : Shape) (market : Market) (row : List Meaning) (es : List Event) (hand : List PayOrder) (v : View) (s : Statement) : Type 0 where
  pub account : StatesTotals shape market row es s.account
  pub money : (p : ℕ) → 1 ≤ p → p ≤ place_limit → StatesMoney row es hand v p (money_at s p)

-- of calls that were performed with these answers, whatever the house was made over, the statement says what the law speaks of
abbrev pub Stated : Shape → Market → List Meaning → ℕ → List (Option PayOrder) → List Call → List Answer → List (Option PayOrder) → View → Statement → Type 0
Stated shape market row serial others cs answers hand v s =
    (y : Performed shape market row serial others cs answers hand v) → States shape market row y.events (in_slots hand) v s

-- so it says of what was performed
abbrev pub StatesPerformed : {B M : Type 0} {bank : BankGhosts B} {methodology : MarketGhosts M} → List Call → Performance B M bank methodology → Statement → Type 0
StatesPerformed {methodology = methodology} cs performed s =
    (market : Market) (row : List Meaning) (serial : ℕ) (others : List (Option PayOrder))
    → Stated methodology.shape market row serial others cs performed.answers.items (slots_of performed.hand) (shows performed.house) s

-- where there is an answer for each call and still no statement, the calls are too many
abbrev pub Unstated : List Call → List Answer → Type 0
Unstated cs answers = length answers ≡ length cs → call_limit < length cs
