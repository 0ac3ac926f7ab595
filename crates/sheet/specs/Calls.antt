-- What writing a text into a buffer answers and leaves.
use Rattle.std.specs.Prelude.{◌≡◌, ℕ, cond, List, ◌++◌, length, drop, Ok, Err, Result, nat_le}
use Rattle.metering.specs.declared.short_buffer.ShortBuffer.{ShortBuffer}

-- where the buffer is as long as the text, the text's length, and in the buffer the text and then what stood there;
-- else 5, and the buffer as it was
pub record Writes (text before : List ℕ) (answer : Result ℕ ShortBuffer) (after : List ℕ) : Type 0 where
  pub told : answer ≡ cond (nat_le (length text) (length before)) (Ok (length text)) (Err (record {}))
  pub left : after ≡ cond (nat_le (length text) (length before)) (text ++ drop (length text) before) before
