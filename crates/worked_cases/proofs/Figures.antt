-- The figures of the first month's closing, by the rules.
use Rattle.std.proofs.Common.{◌≡◌, ℕ, zero, suc, ◌+◌, ◌-◌, ◌*◌, ◌/◌, ◌%◌, ◌<◌, ◌≤◌, true, false, leb, List, [], ◌∷◌, get_or, ℤ, pos, negsuc, ◌+ℤ◌, ◌-ℤ◌, ◌*ℤ◌, nat_abs, Some, None, Option, refl, ap, ◌∙◌, lit≤, lit<, arith, zero-add}
use Rattle.metering.specs.declared.reading.Reading.{Reading}
use Rattle.methodology.specs.Markets.{three_shape, three_meaning, three_intervals}
use Rattle.agreements.specs.declared.dues.Dues.{Dues}
use Rattle.rates.specs.declared.published.Rates.{Rates}
use Rattle.rates.specs.Heads.{rates_at}
use Rattle.accounts.specs.declared.books.Books.{Books}
use Rattle.accounts.specs.declared.delivery.Delivery.{Delivery}
use Rattle.accounts.specs.declared.month.Month.{Month}
use Rattle.accounts.specs.declared.sheet.HeadLine.{HeadLine}
use Rattle.accounts.specs.declared.sheet.Sheet.{Sheet}
use Rattle.accounts.specs.Sums.{sum_to, sum_toℤ, First, Never}
use Rattle.accounts.specs.Counts.{count_true, count_some}
use Rattle.accounts.specs.Rules.{Rules, rules_of}
use Rattle.accounts.specs.Tables.{part, under_to, under}
use Rattle.accounts.specs.Months.{licensee_at, taken, Took, Opened, Generated, Delivered}
use Rattle.accounts.specs.Books.{Unused}
use Rattle.accounts.specs.Sheets.{no_line, line_at, billed_at}
use Rattle.accounts.proofs.Sums.{sum_none, sum_next, sum_same, sum_zero, sum_split}
use Rattle.settlement.specs.declared.fault.CloseFault.{CloseFault}
use Rattle.settlement.specs.declared.fault.CloseFault.TheVariants.{Counts, NoQuantity, Supply, RateOverLimit, BalancePast}
use Rattle.settlement.specs.Closing.{Case, case_of, old, published, quantity, share, pool, sent, unit, rest, supply, spread, margin, actual, carry, difference, balance, owed, bill, fraction, Empty, Unsupplied, Over, Past}
use Rattle.settlement.specs.Closed.{line_of, billed_of, Closed, Refused}
use Rattle.worked_figures.specs.FirstCalls.{in_blocks, FirstSent, FirstTaken}

-- the figures of a head
record Values (c : Case) (k a r : ℕ) (b m : ℤ) : Type 0 where
  actual_is : actual c k ≡ a
  carry_is : carry c k ≡ r
  balance_is : balance c k ≡ b
  margin_is : margin c k ≡ m

demand : (c : Case) (k i s q p : ℕ) → leb k c.rules.revenues ≡ true → get_or c.month.income k 0 ≡ i → share c k ≡ s → (old c k).carry ≡ 0 → quantity c k ≡ q → published c k ≡ p → (old c k).balance ≡ pos 0 → Values c k ((i + 10000 * s + 0) / q) ((i + 10000 * s + 0) % q) (pos 0 +ℤ pos q *ℤ (pos ((i + 10000 * s + 0) / q) -ℤ pos p)) (pos 0)
unfolding actual carry spread margin pool difference balance
demand c k i s q p t ei es ec eq ep eb =
    record {
      actual_is = simp (t, ei, es, ec, eq);
      carry_is = simp (t, ei, es, ec, eq);
      balance_is = simp (t, ei, es, ec, eq, ep, eb);
      margin_is = simp t;
    }

-- where all that was sent in is allowed
interval : (c : Case) (k i s q p : ℕ) → leb k c.rules.revenues ≡ false → get_or c.month.income k 0 ≡ i → share c k ≡ 0 → (old c k).carry ≡ 0 → sent c k ≡ s → supply c k ≡ s → quantity c k ≡ q → published c k ≡ p → (old c k).balance ≡ pos 0 → Values c k (((i + 0 + 0) / s * s + (i + 0 + 0) % s) / q) (((i + 0 + 0) / s * s + (i + 0 + 0) % s) % q) (pos 0 +ℤ pos q *ℤ (pos (((i + 0 + 0) / s * s + (i + 0 + 0) % s) / q) -ℤ pos p)) (pos ((i + 0 + 0) / s) *ℤ (pos s -ℤ pos s))
unfolding actual carry spread margin pool difference balance unit rest
interval c k i s q p t ei es ec en ey eq ep eb =
    record {
      actual_is = simp (t, ei, es, ec, en, ey, eq);
      carry_is = simp (t, ei, es, ec, en, ey, eq);
      balance_is = simp (t, ei, es, ec, en, ey, eq, ep, eb);
      margin_is = simp (t, ei, es, ec, en, ey);
    }

abbrev rules : Rules
rules = rules_of three_shape three_meaning

pub six : (P : ℕ → Type 0) → P 0 → P 1 → P 2 → P 3 → P 4 → P 5 → (k : ℕ) → k < 6 → P k
six P a b c d e f zero h = a
six P a b c d e f (suc zero) h = b
six P a b c d e f (suc (suc zero)) h = c
six P a b c d e f (suc (suc (suc zero))) h = d
six P a b c d e f (suc (suc (suc (suc zero)))) h = e
six P a b c d e f (suc (suc (suc (suc (suc zero))))) h = f
six P a b c d e f (suc (suc (suc (suc (suc (suc k)))))) h = absurd (omega arith)

no_first : (P : ℕ → Type 0) (h : ℕ) → Never P 6 → First P 6 h → ⊥
no_first P h never f = never (h - 1) (let a = f.counted in let b = f.within in omega arith) f.here

some_took : (o : Option Delivery) (f : ℕ → ℕ) → Took o f → (k : ℕ) → k < 6 → taken o k ≡ f k
some_took None f t k h = absurd t
some_took (Some d) f t k h = t k h

abbrev pub rate_at : ℕ → ℕ
rate_at k = get_or (20000 ∷ 9000 ∷ 907 ∷ 52000 ∷ 60000 ∷ 50000 ∷ []) k 0

abbrev pub first_dues : Dues
first_dues = record { capacity = 2000000; blocks = in_blocks 1000000 1500000 1000000 }

-- the heads' lines
abbrev pub line : ℕ → HeadLine
line k = get_or (record { actual = 22222; published = 20000; balance = pos 199980; carry = 20 } ∷ record { actual = 9222; published = 9000; balance = pos 19980; carry = 20 } ∷ record { actual = 888; published = 907; balance = negsuc 1709; carry = 80 } ∷ record { actual = 53571; published = 52000; balance = pos 43988; carry = 12 } ∷ record { actual = 52631; published = 60000; balance = negsuc 140010; carry = 11 } ∷ record { actual = 55555; published = 50000; balance = pos 99990; carry = 10 } ∷ []) k no_line

-- what the closing's sheet shows
pub record Shown (sheet : Sheet) : Type 0 where
  pub month_is : sheet.month ≡ 1
  pub revenues_are : sheet.shape.revenues ≡ 2
  pub intervals_are : sheet.shape.intervals ≡ 3
  pub g : line_at sheet 0 ≡ line 0
  pub t : line_at sheet 1 ≡ line 1
  pub b : line_at sheet 2 ≡ line 2
  pub e1 : line_at sheet 3 ≡ line 3
  pub e2 : line_at sheet 4 ≡ line 4
  pub e3 : line_at sheet 5 ≡ line 5
  pub licensee : billed_at sheet 0 ≡ Some (record { bill = 618; fraction = 7630 })
  pub others : (l : ℕ) → 1 ≤ l → l < 8 → billed_at sheet l ≡ None
  pub margin_is : sheet.margin ≡ pos 0

-- what the closing looks at
pub record Standing (books : Books) (rates : Rates) (yearly : List ℕ) (m1 m2 m3 : Month) (sent taken : Reading) : Type 0 where
  pub unused : Unused books
  pub rated : (k : ℕ) → k < 6 → (rates_at rates k).published ≡ rate_at k
  pub year_1 : get_or yearly 0 0 ≡ 1000
  pub year_2 : get_or yearly 1 0 ≡ 100
  pub opened : Opened m1
  pub generated : Generated rules m1 sent first_dues m2
  pub delivered : Delivered rules m2 taken m3
  pub sending : FirstSent sent
  pub taking : FirstTaken taken

module _ (books : Books) (rates : Rates) (yearly : List ℕ) (m1 m2 m3 : Month) (sending taking : Reading) (s : Standing books rates yearly m1 m2 m3 sending taking) where
  abbrev x : Case
  x = case_of rules books rates yearly 1 m3

  income_is : (k : ℕ) → k < 6 → get_or m3.income k 0 ≡ under 2 three_intervals 2000000 0 (in_blocks 1000000 1500000 1000000) k
  income_is k h = ap (λ xs. get_or xs k 0) s.delivered.income ∙ s.generated.income k h ∙ ap (λ n. n + under 2 three_intervals 2000000 0 (in_blocks 1000000 1500000 1000000) k) (s.opened.income k) ∙ zero-add _

  sent_is : (k : ℕ) → k < 6 → get_or m3.sent k 0 ≡ under 2 three_intervals 0 0 (in_blocks 20 30 20) k
  sent_is k h =
      ap (λ xs. get_or xs k 0) s.delivered.sent ∙ s.generated.sent k h
      ∙ ap (λ n. n + under 2 three_intervals 0 0 sending.blocks k) (s.opened.sent k)
      ∙ zero-add _
      ∙ ap (λ es. under 2 three_intervals 0 0 es k) s.sending.energies_are

  licensee_1 : Took (licensee_at m3 0) (under 2 three_intervals 90 90 (in_blocks 18 28 19))
  licensee_1 =
      rw (s.taking.number_is, s.taking.demand_is, s.taking.energies_are) at s.delivered.here

  took : (k : ℕ) → k < 6 → taken (licensee_at m3 0) k ≡ under 2 three_intervals 90 90 (in_blocks 18 28 19) k
  took = some_took (licensee_at m3 0) (under 2 three_intervals 90 90 (in_blocks 18 28 19)) licensee_1

  absent : (l : ℕ) → 1 ≤ l → licensee_at m3 l ≡ None
  absent l h = s.delivered.others l (λ e. omega (arith, s.taking.number_is)) ∙ ap (λ xs. get_or xs l None) s.generated.licensees ∙ s.opened.licensees l

  quantity_is : (k : ℕ) → k < 6 → quantity x k ≡ under 2 three_intervals 90 90 (in_blocks 18 28 19) k
  unfolding quantity
  quantity_is k h =
      let f : ℕ → ℕ = λ l. taken (licensee_at m3 l) k in
      omega (arith, sum_split f 1 7, sum_next f 0, sum_none f, took k h, sum_same (λ j. f (1 + j)) (λ j. 0) 7 (λ j p. ap (λ y. taken y k) (absent (1 + j) (omega arith))), sum_zero 7)

  carried : (k : ℕ) → k < 6 → (old x k).carry ≡ 0
  carried = s.unused.carries

  balanced : (k : ℕ) → k < 6 → (old x k).balance ≡ pos 0
  balanced = s.unused.balances

  share_1 : share x 1 ≡ 83
  unfolding share
  share_1 = ap (λ y. 1 * y / 12 - (1 - 1) * y / 12) s.year_1

  share_2 : share x 2 ≡ 8
  unfolding share
  share_2 = ap (λ y. 1 * y / 12 - (1 - 1) * y / 12) s.year_2

  v0 : Values x 0 22222 20 (pos 199980) (pos 0)
  unfolding under_to part sum_to share
  v0 = demand x 0 2000000 0 90 20000 refl (income_is 0 (lit< tt)) refl (carried 0 (lit< tt)) (quantity_is 0 (lit< tt)) (s.rated 0 (lit< tt)) (balanced 0 (lit< tt))

  v1 : Values x 1 9222 20 (pos 19980) (pos 0)
  unfolding under_to part sum_to
  v1 = demand x 1 0 83 90 9000 refl (income_is 1 (lit< tt)) share_1 (carried 1 (lit< tt)) (quantity_is 1 (lit< tt)) (s.rated 1 (lit< tt)) (balanced 1 (lit< tt))

  v2 : Values x 2 888 80 (negsuc 1709) (pos 0)
  unfolding under_to part sum_to
  v2 = demand x 2 0 8 90 907 refl (income_is 2 (lit< tt)) share_2 (carried 2 (lit< tt)) (quantity_is 2 (lit< tt)) (s.rated 2 (lit< tt)) (balanced 2 (lit< tt))

  v3 : Values x 3 53571 12 (pos 43988) (pos 0)
  unfolding under_to part sum_to share supply
  v3 = interval x 3 1500000 30 28 52000 refl (income_is 3 (lit< tt)) refl (carried 3 (lit< tt)) (sent_is 3 (lit< tt)) (sent_is 3 (lit< tt)) (quantity_is 3 (lit< tt)) (s.rated 3 (lit< tt)) (balanced 3 (lit< tt))

  v4 : Values x 4 52631 11 (negsuc 140010) (pos 0)
  unfolding under_to part sum_to share supply
  v4 = interval x 4 1000000 20 19 60000 refl (income_is 4 (lit< tt)) refl (carried 4 (lit< tt)) (sent_is 4 (lit< tt)) (sent_is 4 (lit< tt)) (quantity_is 4 (lit< tt)) (s.rated 4 (lit< tt)) (balanced 4 (lit< tt))

  v5 : Values x 5 55555 10 (pos 99990) (pos 0)
  unfolding under_to part sum_to share supply
  v5 = interval x 5 1000000 20 18 50000 refl (income_is 5 (lit< tt)) refl (carried 5 (lit< tt)) (sent_is 5 (lit< tt)) (sent_is 5 (lit< tt)) (quantity_is 5 (lit< tt)) (s.rated 5 (lit< tt)) (balanced 5 (lit< tt))

  quantities : Never (Empty x) 6
  unfolding under_to part sum_to
  quantities =
      let no : (k n : ℕ) → quantity x k ≡ suc n → Empty x k → ⊥ = λ k n e h. omega arith in
      six (λ k. Empty x k → ⊥) (no 0 89 (quantity_is 0 (lit< tt))) (no 1 89 (quantity_is 1 (lit< tt))) (no 2 89 (quantity_is 2 (lit< tt))) (no 3 27 (quantity_is 3 (lit< tt))) (no 4 18 (quantity_is 4 (lit< tt))) (no 5 17 (quantity_is 5 (lit< tt)))

  supplies : Never (Unsupplied x) 6
  unfolding under_to part sum_to
  supplies =
      let no : (k n q : ℕ) → sent x k ≡ n → quantity x k ≡ q → q ≤ n → n ≤ 2 * q → Unsupplied x k → ⊥ = λ k n q e h a b u. u.1 (omega arith) (omega arith) in
      six (λ k. Unsupplied x k → ⊥) (λ u. absurd {A = ⊥} (omega (arith, u.0))) (λ u. absurd {A = ⊥} (omega (arith, u.0))) (λ u. absurd {A = ⊥} (omega (arith, u.0))) (no 3 30 28 (sent_is 3 (lit< tt)) (quantity_is 3 (lit< tt)) (lit≤ tt) (lit≤ tt)) (no 4 20 19 (sent_is 4 (lit< tt)) (quantity_is 4 (lit< tt)) (lit≤ tt) (lit≤ tt)) (no 5 20 18 (sent_is 5 (lit< tt)) (quantity_is 5 (lit< tt)) (lit≤ tt) (lit≤ tt))

  moderate : Never (Over x) 6
  moderate = six (λ k. Over x k → ⊥) (λ h. omega (arith, v0.actual_is)) (λ h. omega (arith, v1.actual_is)) (λ h. omega (arith, v2.actual_is)) (λ h. omega (arith, v3.actual_is)) (λ h. omega (arith, v4.actual_is)) (λ h. omega (arith, v5.actual_is))

  balances : Never (Past x) 6
  balances =
      let no : (k n : ℕ) (z : ℤ) → balance x k ≡ z → nat_abs z ≡ n → n ≤ 4000000000000000000 → Past x k → ⊥ = λ k n z e a b h. omega (arith, ap nat_abs e) in
      six (λ k. Past x k → ⊥) (no 0 199980 (pos 199980) v0.balance_is refl (lit≤ tt)) (no 1 19980 (pos 19980) v1.balance_is refl (lit≤ tt)) (no 2 1710 (negsuc 1709) v2.balance_is refl (lit≤ tt)) (no 3 43988 (pos 43988) v3.balance_is refl (lit≤ tt)) (no 4 140011 (negsuc 140010) v4.balance_is refl (lit≤ tt)) (no 5 99990 (pos 99990) v5.balance_is refl (lit≤ tt))

  -- no closing is refused that states one reading and one delivery
  pub not_refused : (f : CloseFault) → Refused x 1 1 f → ⊥
  not_refused Counts a =
      let readings = ap count_true s.delivered.read in
      let deliveries = ap (λ (ds : List (Option Delivery)). count_some ds) s.generated.licensees in
      a (omega (arith, s.generated.readings, s.opened.readings), omega (arith, s.delivered.deliveries, s.opened.deliveries))
  not_refused (NoQuantity h) a = no_first (Empty x) h quantities a.1
  not_refused (Supply h) a = no_first (Unsupplied x) h supplies a.2
  not_refused (RateOverLimit h) a = no_first (Over x) h moderate a.3
  not_refused (BalancePast h) a = no_first (Past x) h balances a.4

  line_is : (k a r : ℕ) (b m : ℤ) → Values x k a r b m → k < 6 → line_of x k ≡ record { actual = a; published = rate_at k; balance = b; carry = r }
  line_is k a r b m v h = simp (v.actual_is, v.carry_is, v.balance_is, s.rated k h)

  owed_is : owed x 0 ≡ 6187630
  unfolding owed under_to part sum_to
  owed_is =
      let f : ℕ → ℕ = λ k. published x k * taken (licensee_at m3 0) k in
      let u : ℕ → ℕ = under 2 three_intervals 90 90 (in_blocks 18 28 19) in
      ap (λ n. sum_to f 6 + n) (s.unused.fractions 0 (lit< tt)) ∙ ap (λ n. n + 0) (sum_same f (λ k. rate_at k * u k) 6 (λ k h. ap (λ n. n * taken (licensee_at m3 0) k) (s.rated k h) ∙ ap (λ n. rate_at k * n) (took k h)))

  billed_is : (y : Option Delivery) → Took y (under 2 three_intervals 90 90 (in_blocks 18 28 19)) → billed_of x 0 y ≡ Some (record { bill = 618; fraction = 7630 })
  unfolding bill fraction
  billed_is None t = absurd t
  billed_is (Some y) t = ap (λ n. Some (record { bill = n / 10000; fraction = n % 10000 })) owed_is

  -- so this is the closing's sheet
  pub shown : (sheet : Sheet) (after : Books) → Closed x sheet after → Shown sheet
  unfolding sum_toℤ
  shown sheet after h =
      record {
        month_is = h.month_is;
        revenues_are = h.revenues_are;
        intervals_are = h.intervals_are;
        g = h.line 0 (lit< tt) ∙ line_is 0 22222 20 (pos 199980) (pos 0) v0 (lit< tt);
        t = h.line 1 (lit< tt) ∙ line_is 1 9222 20 (pos 19980) (pos 0) v1 (lit< tt);
        b = h.line 2 (lit< tt) ∙ line_is 2 888 80 (negsuc 1709) (pos 0) v2 (lit< tt);
        e1 = h.line 3 (lit< tt) ∙ line_is 3 53571 12 (pos 43988) (pos 0) v3 (lit< tt);
        e2 = h.line 4 (lit< tt) ∙ line_is 4 52631 11 (negsuc 140010) (pos 0) v4 (lit< tt);
        e3 = h.line 5 (lit< tt) ∙ line_is 5 55555 10 (pos 99990) (pos 0) v5 (lit< tt);
        licensee = h.billing 0 (lit< tt) ∙ billed_is (licensee_at m3 0) licensee_1;
        others = λ l p q. h.billing l q ∙ ap (billed_of x l) (absent l p);
        margin_is = h.margin_is ∙ (simp (v0.margin_is, v1.margin_is, v2.margin_is, v3.margin_is, v4.margin_is, v5.margin_is));
      }
