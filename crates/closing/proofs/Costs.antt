-- How large a spread can be.
use Rattle.std.proofs.Common.{◌≡◌, ℕ, ◌+◌, ◌*◌, ◌/◌, ◌%◌, ◌≤◌, mul-le-mul_left, div-add-mod', mul-add, arith}

-- unit cost times energy sent in is the pool but for the rest; an allowed supply of at most twice that energy costs at most twice as much
pub record Priced (pool sent allowed unit rest : ℕ) : Type 0 where
  pub whole : unit * sent + rest ≡ pool
  pub twice : unit * allowed ≤ unit * sent + unit * sent

pub priced : (pool sent allowed unit rest : ℕ) → unit ≡ pool / sent → rest ≡ pool % sent → allowed ≤ 2 * sent → Priced pool sent allowed unit rest
priced pool sent allowed unit rest u r h =
    record {
      whole = rw (u, r) (div-add-mod' pool sent);
      twice = omega (arith, mul-le-mul_left unit h, mul-add unit sent sent);
    }
