-- A closing keeps all money.
use Rattle.std.proofs.Common.{◌≡◌, ℕ, zero, suc, ◌+◌, ◌-◌, ◌*◌, ◌/◌, ◌%◌, ◌<◌, Bool, true, false, cond, eqb, leb, get_or, ℤ, pos, ◌+ℤ◌, ◌-ℤ◌, ◌*ℤ◌, Some, None, Option, sym, refl, ap, ◌∙◌, mod-lt, mul_comm, mul-zero, div-add-mod', arith}
use native.Mathlib.Nat.{div-add-mod}
use Rattle.std.proofs.lemmas.Int.{ints}
use Rattle.std.proofs.lemmas.Bool.{ne_eqb}
use Rattle.std.proofs.lemmas.Bool.Decides.{nat_tests}
use Rattle.arith.specs.Money.{cent}
use Rattle.arith.specs.Months.{share as month-share}
use Rattle.metering.specs.Limits.{licensee_limit}
use Rattle.accounts.specs.declared.books.Books.{Books}
use Rattle.accounts.specs.declared.delivery.Delivery.{Delivery}
use Rattle.accounts.specs.declared.sheet.Sheet.{Sheet}
use Rattle.accounts.specs.Sums.{sum_to, sum_toℤ, Never}
use Rattle.accounts.proofs.Sums.{sum_none, sum_next, sum_same, sumℤ_same, sum_add, sum_zero, sum_scale, sum_swap, sum_split}
use Rattle.accounts.specs.Months.{licensee_at, taken, income_of}
use Rattle.accounts.specs.Books.{account_at, fraction_at}
use Rattle.settlement.specs.Closing.{Case, heads, old, published, quantity, share, pool, sent, unit, rest, supply, spread, margin, actual, carry, difference, balance, owed, bill, fraction, Empty}
use Rattle.accounts.specs.Sheets.{billed_at}
use Rattle.settlement.specs.Closed.{billed_of, fraction_of, Closed}
use Rattle.settlement.specs.Law.{fractions_in, balances_in, carries_in, bill_of, bills_on, shares_in, Conserved, Small, EveryClosing}
use Rattle.settlement.proofs.Products.{times_sub}

-- what is spread and the margin are the pool
spread_margin : (c : Case) (k : ℕ) → pos (spread c k) +ℤ margin c k ≡ pos (pool c k)
unfolding spread margin unit rest
spread_margin c k =
    let p = pool c k in
    let s = sent c k in
    let a = supply c k in
    let whole : pos (p / s * a + p % s) +ℤ pos (p / s) *ℤ (pos s -ℤ pos a) ≡ pos p = omega (arith, ints, times_sub (p / s) s a, div-add-mod' p s) in
    let P : Bool → Type 0 = λ b. pos (cond b p (p / s * a + p % s)) +ℤ cond b (pos 0) (pos (p / s) *ℤ (pos s -ℤ pos a)) ≡ pos p in
    elim (leb k c.rules.revenues) as P [ true ↦ omega (arith, ints) | false ↦ whole ]

-- one head
head_keeps : (c : Case) (k : ℕ) → balance c k +ℤ pos (carry c k) +ℤ pos (published c k * quantity c k) +ℤ margin c k ≡ (old c k).balance +ℤ pos (old c k).carry +ℤ pos (get_or c.month.income k 0) +ℤ pos (cent * share c k)
unfolding balance difference actual carry pool
head_keeps c k =
    let q = quantity c k in
    let s = spread c k in
    omega (arith, ints, spread_margin c k, times_sub q (s / q) (published c k), div-add-mod s q, mul_comm q (published c k))

-- two accounts that balance, together
step : (x1 x2 y1 y2 m1 m2 : ℤ) (c1 c2 p1 p2 d1 d2 i1 i2 s1 s2 : ℕ) → x1 +ℤ pos c1 +ℤ pos p1 +ℤ m1 ≡ y1 +ℤ pos d1 +ℤ pos i1 +ℤ pos s1 → x2 +ℤ pos c2 +ℤ pos p2 +ℤ m2 ≡ y2 +ℤ pos d2 +ℤ pos i2 +ℤ pos s2 → (x1 +ℤ x2) +ℤ pos (c1 + c2) +ℤ pos (p1 + p2) +ℤ (m1 +ℤ m2) ≡ (y1 +ℤ y2) +ℤ pos (d1 + d2) +ℤ pos (i1 + i2) +ℤ pos (s1 + s2)
step x1 x2 y1 y2 m1 m2 c1 c2 p1 p2 d1 d2 i1 i2 s1 s2 a b = omega (arith, ints)

-- the first n of many accounts that balance
steps : (x y m : ℕ → ℤ) (c p d i s : ℕ → ℕ) → ((k : ℕ) → x k +ℤ pos (c k) +ℤ pos (p k) +ℤ m k ≡ y k +ℤ pos (d k) +ℤ pos (i k) +ℤ pos (s k)) → (n : ℕ) → sum_toℤ x n +ℤ pos (sum_to c n) +ℤ pos (sum_to p n) +ℤ sum_toℤ m n ≡ sum_toℤ y n +ℤ pos (sum_to d n) +ℤ pos (sum_to i n) +ℤ pos (sum_to s n)
unfolding sum_to sum_toℤ
steps x y m c p d i s h zero = refl
steps x y m c p d i s h (suc n) =
    step (sum_toℤ x n) (x n) (sum_toℤ y n) (y n) (sum_toℤ m n) (m n) (sum_to c n) (c n) (sum_to p n) (p n) (sum_to d n) (d n) (sum_to i n) (i n) (sum_to s n) (s n) (steps x y m c p d i s h n) (h n)

-- what the heads are billed at the published rates
heads_due : Case → ℕ → ℕ
heads_due c n = sum_to (λ k. published c k * quantity c k) n

-- the first n heads
heads_keep : (c : Case) (n : ℕ) → sum_toℤ (balance c) n +ℤ pos (sum_to (carry c) n) +ℤ pos (heads_due c n) +ℤ sum_toℤ (margin c) n ≡ balances_in n c.books +ℤ pos (carries_in n c.books) +ℤ pos (sum_to (λ k. get_or c.month.income k 0) n) +ℤ pos (sum_to (λ k. cent * share c k) n)
unfolding heads_due
heads_keep c n =
    steps (balance c) (λ k. (old c k).balance) (margin c) (carry c) (λ k. published c k * quantity c k) (λ k. (old c k).carry) (λ k. get_or c.month.income k 0) (λ k. cent * share c k) (head_keeps c) n

-- the shares of the heads are the month's shares
shares_whole : (c : Case) → sum_to (share c) (heads c) ≡ shares_in c
unfolding share
shares_whole c =
    let r = c.rules.revenues in
    let e = c.rules.intervals in
    let f : ℕ → ℕ = share c in
    let g : ℕ → ℕ = λ j. month-share (get_or c.yearly j 0) c.number in
    let at-revenue : (j : ℕ) → j < r → f (1 + j) ≡ g j = λ j h.
    (let z : eqb (1 + j) 0 ≡ false = ne_eqb (1 + j) 0 (omega arith) in
    let lo : leb (1 + j) r ≡ true = grind (arith, nat_tests) in
    let m : 1 + j - 1 ≡ j = omega arith in
    simp (z, lo, m)) in
    let at_interval : (j : ℕ) → j < e → f (1 + r + j) ≡ 0 = λ j h.
    (let z : eqb (1 + r + j) 0 ≡ false = ne_eqb (1 + r + j) 0 (omega arith) in
    let lo : leb (1 + r + j) r ≡ false = grind (arith, nat_tests) in
    simp (z, lo)) in
    let first : f 0 ≡ 0 = refl in
    omega (arith, first, sum_none f, sum_next f 0, sum_split f 1 r, sum_split f (1 + r) e, sum_same (λ j. f (1 + j)) g r at-revenue, sum_same (λ j. f (1 + r + j)) (λ j. 0) e at_interval, sum_zero e)

-- what a licensee owes for the month alone
due_by : Case → ℕ → ℕ
due_by c l = sum_to (λ k. published c k * taken (licensee_at c.month l) k) (heads c)

-- the licensees' quantities are the heads'
exchanged : (c : Case) → sum_to (due_by c) licensee_limit ≡ heads_due c (heads c)
unfolding quantity due_by heads_due
exchanged c =
    sym (sum_swap (λ k l. published c k * taken (licensee_at c.month l) k) licensee_limit (heads c)) ∙ sum_same (λ k. sum_to (λ l. published c k * taken (licensee_at c.month l) k) licensee_limit) (λ k. published c k * sum_to (λ l. taken (licensee_at c.month l) k) licensee_limit) (heads c) (λ k h. sum_scale (published c k) (λ l. taken (licensee_at c.month l) k) licensee_limit)

due_none : (c : Case) (l : ℕ) → licensee_at c.month l ≡ None → due_by c l ≡ 0
unfolding due_by
due_none c l e =
    sum_same (λ k. published c k * taken (licensee_at c.month l) k) (λ k. 0) (heads c) (λ k h. ap (λ o. published c k * taken o k) e ∙ mul-zero (published c k)) ∙ sum_zero (heads c)

-- one licensee
licensee_keeps : (c : Case) (l : ℕ) (o : Option Delivery) → licensee_at c.month l ≡ o → cent * bill_of (billed_of c l o) + fraction_of c l o ≡ due_by c l + fraction_at c.books l
unfolding bill fraction owed due_by
licensee_keeps c l None e = omega (arith, due_none c l e)
licensee_keeps c l (Some d) e = div-add-mod (owed c l) cent

-- all licensees
licensees_keep : (c : Case) (s : Sheet) (b : Books) → Closed c s b → cent * bills_on s + fractions_in b ≡ sum_to (due_by c) licensee_limit + fractions_in c.books
licensees_keep c s b h =
    let bills : ℕ → ℕ = λ l. bill_of (billed_at s l) in
    let new : ℕ → ℕ = fraction_at b in
    let was : ℕ → ℕ = fraction_at c.books in
    let one : (l : ℕ) → l < licensee_limit → cent * bills l + new l ≡ due_by c l + was l = λ l p. rw (h.billing l p, h.fractions l p) (licensee_keeps c l (licensee_at c.month l) refl) in
    omega (arith, sum_same (λ l. cent * bills l + new l) (λ l. due_by c l + was l) licensee_limit one, sum_add (λ l. cent * bills l) new licensee_limit, sum_add (due_by c) was licensee_limit, sum_scale cent bills licensee_limit)

-- heads and licensees together
together : (x x' m m' y : ℤ) (c c' bills f due f0 paid d i s s' : ℕ) → x ≡ x' → c ≡ c' → m ≡ m' → bills + f ≡ due + f0 → due ≡ paid → s ≡ s' → x' +ℤ pos c' +ℤ pos paid +ℤ m' ≡ y +ℤ pos d +ℤ pos i +ℤ pos s → pos bills +ℤ pos f +ℤ x +ℤ pos c +ℤ m ≡ pos f0 +ℤ y +ℤ pos d +ℤ pos i +ℤ pos s'
together x x' m m' y c c' bills f due f0 paid d i s s' a b e g h j k = omega (arith, ints)

conserved : (c : Case) (s : Sheet) (b : Books) → Closed c s b → Conserved c s b
conserved c s b h =
    let n = heads c in
    let balances : balances_in n b ≡ sum_toℤ (balance c) n = sumℤ_same (λ k. (account_at b k).balance) (balance c) n (λ k p. (h.account k p).balance_is) in
    let carries : carries_in n b ≡ sum_to (carry c) n = sum_same (λ k. (account_at b k).carry) (carry c) n (λ k p. (h.account k p).carry_is) in
    together (balances_in n b) (sum_toℤ (balance c) n) s.margin (sum_toℤ (margin c) n) (balances_in n c.books) (carries_in n b) (sum_to (carry c) n) (cent * bills_on s) (fractions_in b) (sum_to (due_by c) licensee_limit) (fractions_in c.books) (heads_due c n) (carries_in n c.books) (income_of c.rules c.month) (sum_to (λ k. cent * share c k) n) (cent * shares_in c)
    balances carries h.margin_is (licensees_keep c s b h) (exchanged c) (sum_scale cent (share c) n ∙ ap (λ x. cent * x) (shares_whole c)) (heads_keep c n)

positive : (q : ℕ) → (q ≡ 0 → ⊥) → 0 < q
positive zero n = absurd (n refl)
positive (suc q) n = omega arith

small : (c : Case) (s : Sheet) (b : Books) → Never (Empty c) (heads c) → Closed c s b → Small c b
unfolding carry
small c s b some h =
    record {
      fractions = b.cents;
      carries = λ k p. rw (h.account k p).carry_is (mod-lt (spread c k) (positive (quantity c k) (some k p)));
    }

pub every_closing : EveryClosing
every_closing c s b some h = record { conserved = conserved c s b h; small = small c s b some h }
