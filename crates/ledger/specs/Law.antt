-- The law over every list of calls: what the money of a house comes to.
use Rattle.std.specs.Prelude.{◌≡◌, ℕ, ◌+◌, ◌*◌, ◌<◌, ◌≤◌, List, ℤ, pos, ◌+ℤ◌, Some, None, Option}
use Rattle.agreements.specs.Meaning.{Meaning}
use Rattle.banks.specs.Rows.{at_place}
use Rattle.methodology.specs.Meaning.{Meaning as Market}
use Rattle.methodology.specs.declared.shape.Shape.{Shape}
use Rattle.accounts.specs.declared.sheet.Sheet.{Sheet}
use Rattle.metering.specs.Limits.{licensee_limit}
use Rattle.accounts.specs.Sums.{sum_to, sum_toℤ}
use Rattle.accounts.specs.Rules.{rules_of, head_count}
use Rattle.accounts.specs.Books.{account_at, fraction_at}
use Rattle.orders.specs.declared.order.PayOrder.{PayOrder}
use Rattle.arith.specs.Money.{cent}
use Rattle.orders.specs.Tills.{stands}
use Rattle.ledger.specs.Views.{View, till_of, books_of}
use Rattle.ledger.specs.Terms.{given_at}
use Rattle.ledger.specs.Runs.{Event, Run}
use Rattle.ledger.specs.Accepted.{accepted_at, closed_dues, last_quantity, allowed, billed, margins, last_balance, last_carry, last_fraction, last_sheet, paid_at, in_hand}

-- what a head carries: less than its quantity in the last closed month, and nothing before one was closed
abbrev pub Carried : Option Sheet → ℕ → ℕ → Type 0
Carried None quantity carry = carry ≡ 0
Carried (Some s) quantity carry = carry < quantity

module _ (shape : Shape) (market : Market) (row : List Meaning) where
  -- how many heads the market has
  abbrev pub head_number : ℕ
  head_number = head_count (rules_of shape market)

  -- over the closed months: what the licensees are billed, their last fractions, the last balances and carries, and the margins
  abbrev pub covered : List Event → ℤ
  covered es =
      pos (cent * billed es) +ℤ pos (sum_to (last_fraction es) licensee_limit) +ℤ sum_toℤ (last_balance es) head_number +ℤ pos (sum_to (last_carry es) head_number) +ℤ margins es

  -- and what is to be paid for: the dues and the allowed revenues
  abbrev pub costs : List Event → ℤ
  costs es = pos (closed_dues row es) +ℤ pos (cent * allowed shape.revenues es)

  -- every grain of it is covered, and no more
  abbrev pub Balanced : List Event → Type 0
  Balanced es = covered es ≡ costs es

  -- at a place: money released, on orders in hand and standing is what the terms give for the accepted readings
  abbrev pub Settled : List Event → List PayOrder → View → ℕ → Type 0
  Settled es hand v p =
      cent * paid_at p es + cent * in_hand p hand + stands (till_of v) p ≡ given_at (at_place row p) (accepted_at p es)

  -- the house keeps what the last sheets show
  pub record Keeps (es : List Event) (v : View) : Type 0 where
    pub balances : (k : ℕ) → k < head_number → (account_at (books_of v) k).balance ≡ last_balance es k
    pub carries : (k : ℕ) → k < head_number → (account_at (books_of v) k).carry ≡ last_carry es k
    pub fractions : (l : ℕ) → l < licensee_limit → fraction_at (books_of v) l ≡ last_fraction es l

  -- all of it
  pub record Law (es : List Event) (hand : List PayOrder) (v : View) : Type 0 where
    pub balanced : Balanced es
    pub places : (p : ℕ) → 1 ≤ p → Settled es hand v p
    pub fractions : (l : ℕ) → l < licensee_limit → last_fraction es l < cent
    pub carries : (k : ℕ) → k < head_number → Carried (last_sheet es) (last_quantity (rules_of shape market) es k) (last_carry es k)
    pub keeps : Keeps es v

  -- for a house newly made with a serial that no other bears, after every list of calls
  abbrev pub EveryRun : ℕ → Type 0
  EveryRun serial = (es : List Event) (hand : List PayOrder) (v : View) → Run shape market row serial es hand v → Law es hand v
