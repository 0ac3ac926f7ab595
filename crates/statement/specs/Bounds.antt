-- How large a tally's sums may be.
use Rattle.std.specs.Prelude.{ℕ, ◌+◌, ◌^◌, ◌<◌, ◌≤◌, ℤ, unsigned_abs}
use Rattle.metering.specs.Limits.{place_limit}
use Rattle.statement.specs.declared.tally.PlaceTally.{PlaceTally}
use Rattle.statement.specs.declared.tally.Tally.{Tally}
use Rattle.statement.specs.Tallies.{place_at}

-- most calls that are added up: each adds less than 2 ^ 67 to a sum
abbrev pub call_limit : ℕ
call_limit = 2 ^ 32

abbrev pub turn : ℕ
turn = 2 ^ 67

-- neither sum of a place is larger than n
pub record Small (n : ℕ) (p : PlaceTally) : Type 0 where
  pub given : p.given ≤ n
  pub released : p.released ≤ n

-- no sum is larger than n
pub record Within (n : ℕ) (t : Tally) : Type 0 where
  pub bills : t.bills ≤ n
  pub margins : unsigned_abs t.margins ≤ n
  pub dues : t.dues + t.unsettled ≤ n
  pub shares : t.shares ≤ n
  pub places : (k : ℕ) → k < place_limit → Small n (place_at t k)

-- how large the side of the account that covers may be, whatever the signs of its balances and margins
abbrev pub size_of : (bills fractions carries : ℕ) → (balances margins : ℤ) → ℕ
size_of bills fractions carries balances margins =
    bills + fractions + carries + unsigned_abs balances + unsigned_abs margins
