-- A statement of a list that was performed says what the law speaks of.
use Rattle.std.proofs.Common.{◌≡◌, ℕ, ◌-◌, ◌*◌, ◌≤◌, List, get_or, Option, sym, ap, ◌∙◌, subst, arith}
use Rattle.std.proofs.lemmas.Int.{ints}
use Rattle.agreements.specs.Meaning.{Meaning}
use Rattle.methodology.specs.Meaning.{Meaning as Market}
use Rattle.methodology.specs.declared.shape.Shape.{Shape}
use Rattle.metering.specs.Limits.{licensee_limit}
use Rattle.accounts.specs.Sums.{sum_to, sum_toℤ}
use Rattle.accounts.specs.Books.{account_at, fraction_at}
use Rattle.accounts.proofs.Sums.{sum_same, sumℤ_same}
use Rattle.orders.specs.declared.order.PayOrder.{PayOrder}
use Rattle.arith.specs.Money.{cent}
use Rattle.metering.specs.Limits.{place_limit}
use Rattle.orders.specs.Tills.{ordered_at}
use Rattle.ledger.specs.Views.{View, till_of, books_of}
use Rattle.ledger.specs.Accepted.{last_balance, last_carry, last_fraction, in_hand}
use Rattle.ledger.specs.Law.{head_number}
use Rattle.history.specs.declared.call.Call.{Call}
use Rattle.history.specs.declared.answer.Answer.{Answer}
use Rattle.history.specs.Slots.{in_slots}
use Rattle.history.specs.Histories.{Performed}
use Rattle.statement.specs.declared.account.AccountTotals.{AccountTotals}
use Rattle.statement.specs.declared.money.PlaceMoney.{PlaceMoney}
use Rattle.statement.specs.declared.tally.Tally.{Tally}
use Rattle.statement.specs.Tallies.{nothing, tallied}
use Rattle.statement.specs.Sums.{no_money, Sums, Holds}
use Rattle.statement.specs.Statements.{States}
use Rattle.statement.proofs.Telling.{Tallied, all_told}

pub stated : (shape : Shape) (market : Market) (row : List Meaning) (serial : ℕ) (others : List (Option PayOrder)) (cs : List Call) (answers : List Answer) (hand : List (Option PayOrder)) (v : View) (revenues heads : ℕ) (t : Tally) (a : AccountTotals) (places : List PlaceMoney) → revenues ≡ shape.revenues → heads ≡ head_number shape market row → t ≡ tallied revenues cs answers nothing → Sums t (books_of v) heads a → ((p : ℕ) → 1 ≤ p → p ≤ place_limit → Holds t (till_of v) p (get_or places (p - 1) no_money)) → ((p : ℕ) → 1 ≤ p → ordered_at (till_of v) p ≡ in_hand p (in_slots hand)) → (y : Performed shape market row serial others cs answers hand v) → States shape market row y.events (in_slots hand) v (record { account = a; places = places })
stated shape market row serial others cs answers hand v revenues heads t a places revenues_are heads_are sums account money covered y =
    let es = y.events in
    let n = head_number shape market row in
    let told : Tallied shape.revenues row es t =
    subst (Tallied shape.revenues row es) (sym (sums ∙ ap (λ r. tallied r cs answers nothing) revenues_are)) (all_told shape.revenues shape.most row shape market serial others y.history) in
    let bills = account.bills ∙ ap (λ n. cent * n) told.bills in
    let fractions = account.fractions ∙ sum_same (fraction_at (books_of v)) (last_fraction es) licensee_limit y.law.keeps.fractions in
    let balances =
    account.balances ∙ ap (sum_toℤ (λ k. (account_at (books_of v) k).balance)) heads_are
    ∙ sumℤ_same (λ k. (account_at (books_of v) k).balance) (last_balance es) n y.law.keeps.balances in
    let carries =
    account.carries ∙ ap (sum_to (λ k. (account_at (books_of v) k).carry)) heads_are
    ∙ sum_same (λ k. (account_at (books_of v) k).carry) (last_carry es) n y.law.keeps.carries in
    let margins = account.margins ∙ told.margins in
    let dues = account.dues ∙ told.dues in
    let revenues = account.revenues ∙ ap (λ n. cent * n) told.shares in
    let law = y.law.balanced in
    record {
      account =
          record {
            bills = bills;
            fractions = fractions;
            balances = balances;
            carries = carries;
            margins = margins;
            dues = dues;
            revenues = revenues;
            even = omega (arith, ints);
          };
      money =
          λ p low high.
          let m = money p low high in
          let released = m.released ∙ ap (λ n. cent * n) (told.released p low high) in
          let held = m.in_hand ∙ ap (λ n. cent * n) (covered p low) in
          let terms = m.terms ∙ told.given p low high in
          let law = y.law.places p low in
          record { released = released; in_hand = held; standing = m.standing; terms = terms; settled = omega (arith, m.standing) };
    }
