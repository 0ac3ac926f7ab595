-- Reading step by step: what the first step cannot read, no later step makes good.
use Rattle.std.specs.Prelude.{Bool, cond, Ok, Err, Result}
use Rattle.journal.specs.declared.expected.Expected.{Expected}

infixl 10 ◌>>=◌
abbrev pub ◌>>=◌ : {A B : Type 0} → Result A Expected → (A → Result B Expected) → Result B Expected
(Ok x) >>= more = more x
(Err e) >>= more = Err e

-- where the test fails, this was expected
abbrev pub must : {A : Type 0} → Bool → Expected → Result A Expected → Result A Expected
must test expected more = cond test more (Err expected)
