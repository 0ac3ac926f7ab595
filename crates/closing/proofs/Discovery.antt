-- What the tests of a head say.
use Rattle.std.proofs.Common.{◌≡◌, ℕ, ◌*◌, ◌<◌, ◌≤◌, Bool, false, leb, arith}
use Rattle.std.proofs.lemmas.Bool.Decides.{nat_tests}
use Rattle.methodology.specs.Meaning.{OneToTwo}

-- energy sent in that is not out of its range is in it
pub fitting : (q s : ℕ) → ((q ≤ s → s ≤ 2 * q → ⊥) → ⊥) → OneToTwo q s
fitting q s h = grind arith

-- what is not billed by demand is an interval
pub interval : (demand : Bool) (k revenues : ℕ) → demand ≡ leb k revenues → demand ≡ false → revenues < k
interval demand k revenues e f = grind (arith, nat_tests)
