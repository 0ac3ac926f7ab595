-- A month's income adds up.
use Rattle.std.proofs.Common.{◌≡◌, ℕ, zero, suc, ◌+◌, ◌-◌, ◌*◌, ◌<◌, ◌≤◌, true, false, List, length, get_or, take, set, sum, refl, ap, ◌∙◌, mul-zero, add-one, arith}
use Rattle.std.proofs.lemmas.List.{take_all}
use Rattle.std.proofs.lemmas.List.Sums.{sum_by_more}
use Rattle.metering.specs.Limits.{block_count, energy_limit, demand_limit, number_limit, place_limit, reading_limit}
use Rattle.metering.specs.declared.kind.Kind.{Kind}
use Rattle.metering.specs.declared.kind.Kind.TheVariants.{Generator, Licensee}
use Rattle.metering.specs.declared.reading.Reading.{Reading}
use Rattle.methodology.specs.Limits.{head_limit}
use Rattle.agreements.specs.Limits.{due_limit}
use Rattle.agreements.specs.Dues.{capacity_due, block_sum}
use Rattle.agreements.specs.declared.dues.Dues.{Dues}
use Rattle.accounts.specs.declared.month.Month.{Month}
use Rattle.accounts.specs.Limits.{balance_limit}
use Rattle.accounts.specs.Sums.{sum_to}
use Rattle.accounts.specs.Rules.{Rules, head_count, Regular}
use Rattle.accounts.specs.Tables.{total, under}
use Rattle.accounts.specs.Counts.{count_true}
use Rattle.accounts.specs.Months.{read_at, readings_in, income_of}
use Rattle.accounts.proofs.Sums.{sum_same, sum_add, sum_le}
use Rattle.accounts.proofs.Adding.{under_all, under_le}
use Rattle.accounts.proofs.Counting.{one_flag_more, flags_at_most}

-- the first numbers of a list
sum_taken : (xs : List ℕ) (n : ℕ) → n ≤ length xs → sum_to (λ k. get_or xs k 0) n ≡ sum (take n xs)
unfolding sum_to
sum_taken xs zero h = refl
sum_taken xs (suc n) h =
    let more = rw (add-one n) at (sum_by_more (λ (x : ℕ). x) xs n 0 (omega arith)) in
    omega (arith, sum_taken xs n (omega arith), more)

-- all blocks, as a list is summed
pub total_sum : (blocks : List ℕ) → length blocks ≡ block_count → total blocks ≡ sum blocks
unfolding total
total_sum blocks full =
    sum_taken blocks block_count (omega arith) ∙ ap sum (take_all block_count blocks (omega arith))

module _ (r : Rules) (regular : Regular r) (first : ℕ) (blocks before after : List ℕ) (each : (k : ℕ) → k < head_limit → get_or after k 0 ≡ get_or before k 0 + under r.revenues r.interval first 0 blocks k) where
  -- over the market's intervals, or over more
  grown_to : (e : ℕ) → r.intervals ≤ e → 1 + r.revenues + e ≤ head_limit → sum_to (λ k. get_or after k 0) (1 + r.revenues + e) ≡ sum_to (λ k. get_or before k 0) (1 + r.revenues + e) + first + total blocks
  grown_to e wide few =
      let n = 1 + r.revenues + e in
      let old : ℕ → ℕ = λ k. get_or before k 0 in
      let new : ℕ → ℕ = under r.revenues r.interval first 0 blocks in
      let a = sum_same (λ k. get_or after k 0) (λ k. old k + new k) n (λ k h. each k (omega arith)) in
      let b = sum_add old new n in
      let all = under_all r.revenues e r.interval first 0 blocks (λ b h. ((regular.placed b h).0, omega (arith, (regular.placed b h).1))) in
      omega (arith, a, b, all, mul-zero r.revenues)

  -- every grain comes in
  pub grown_heads : sum_to (λ k. get_or after k 0) (head_count r) ≡ sum_to (λ k. get_or before k 0) (head_count r) + first + total blocks
  grown_heads = grown_to r.intervals (omega arith) regular.few

  pub grown_table : sum_to (λ k. get_or after k 0) head_limit ≡ sum_to (λ k. get_or before k 0) head_limit + first + total blocks
  grown_table =
      let e : 1 + r.revenues + (head_limit - 1 - r.revenues) ≡ head_limit = omega (arith, regular.few) in
      rw e at (grown_to (head_limit - 1 - r.revenues) (omega (arith, regular.few)) (omega (arith, regular.few)))

-- a reading's energy, kWh
pub energy_within : (reading : Reading) → total reading.blocks ≤ reading_limit
unfolding total
energy_within reading = omega (arith, sum_le (λ b. get_or reading.blocks b 0) energy_limit block_count reading.each)

most : (kind : Kind) → number_limit kind ≤ place_limit
most Generator = omega arith
most Licensee = omega arith

-- a reading's number is a place's, whatever its kind
number_within : (reading : Reading) → reading.number ≤ place_limit
number_within reading = omega (arith, reading.numbered.1, most reading.kind)

-- a month is far from its limits
pub income_low : (month : Month) (k : ℕ) → k < head_limit → get_or month.income k 0 ≤ balance_limit
income_low month k h = omega (arith, month.earned k h, flags_at_most month.read, month.full)

pub sent_low : (month : Month) (k : ℕ) → k < head_limit → get_or month.sent k 0 ≤ balance_limit
sent_low month k h = omega (arith, month.supplied k h, flags_at_most month.read, month.full)

module _ (revenues : ℕ) (interval : ℕ → ℕ) where
  pub due_within : (dues : Dues) → length dues.blocks ≡ block_count → capacity_due dues ≤ due_limit → block_sum dues ≤ due_limit → (k : ℕ) → under revenues interval (capacity_due dues) 0 dues.blocks k ≤ due_limit
  due_within dues full capacity blocks k =
      under_le revenues interval (capacity_due dues) 0 dues.blocks due_limit k capacity (omega arith) (omega (arith, total_sum dues.blocks full))

  pub taken_within : (reading : Reading) (demand : ℕ) → demand ≤ demand_limit → (k : ℕ) → under revenues interval demand demand reading.blocks k ≤ reading_limit
  taken_within reading demand moderate k =
      under_le revenues interval demand demand reading.blocks reading_limit k (omega arith) (omega arith) (energy_within reading)

-- what a generator's reading makes of a month: its flag is counted, the tables keep their limits, and every grain comes in
pub record Grown (r : Rules) (month : Month) (reading : Reading) (dues : Dues) (income sent : List ℕ) : Type 0 where
  pub readings : count_true (set month.read (reading.number - 1) true) ≡ readings_in month + 1
  pub earned : (k : ℕ) → k < head_limit → get_or income k 0 ≤ count_true (set month.read (reading.number - 1) true) * due_limit
  pub within : sum_to (λ k. get_or income k 0) head_limit ≤ count_true (set month.read (reading.number - 1) true) * (2 * due_limit)
  pub supplied : (k : ℕ) → k < head_limit → get_or sent k 0 ≤ count_true (set month.read (reading.number - 1) true) * reading_limit
  pub whole : sum_to (λ k. get_or income k 0) (head_count r) ≡ income_of r month + capacity_due dues + block_sum dues

-- where its place was not read, and the dues keep the ceiling
pub grown : {r : Rules} → Regular r → (month : Month) (reading : Reading) (dues : Dues) {income sent : List ℕ} → length dues.blocks ≡ block_count → read_at month reading.number ≡ false → (capacity_due dues ≤ due_limit) × (block_sum dues ≤ due_limit) → ((k : ℕ) → k < head_limit → get_or income k 0 ≡ get_or month.income k 0 + under r.revenues r.interval (capacity_due dues) 0 dues.blocks k) → ((k : ℕ) → k < head_limit → get_or sent k 0 ≡ get_or month.sent k 0 + under r.revenues r.interval 0 0 reading.blocks k) → Grown r month reading dues income sent
grown {r} regular month reading dues {income} full unread moderate due energy =
    let more = one_flag_more month.read (reading.number - 1) (omega (arith, month.full, number_within reading, reading.numbered)) unread in
    let owed = due_within r.revenues r.interval dues full moderate.0 moderate.1 in
    let came = taken_within r.revenues r.interval reading 0 (omega arith) in
    let all = total_sum dues.blocks full in
    let table = grown_table r regular (capacity_due dues) dues.blocks month.income income due in
    let heads = grown_heads r regular (capacity_due dues) dues.blocks month.income income due in
    record {
      readings = more;
      earned = λ k h. omega (arith, more, due k h, month.earned k h, owed k);
      within = omega (arith, more, table, all, month.whole);
      supplied = λ k h. omega (arith, more, energy k h, month.supplied k h, came k);
      whole = omega (arith, heads, all);
    }
