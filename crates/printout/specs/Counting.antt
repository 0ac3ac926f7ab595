-- The numbers of lines and of orders.
use Rattle.std.specs.Prelude.{ℕ, ◌+◌, min}
use Rattle.history.specs.declared.answer.Answer.{Answer}
use Rattle.history.specs.declared.answer.Answer.TheVariants.{Drawn}
use Rattle.printout.specs.declared.printer.Printer.{Printer}

-- the last number of 64 bits
abbrev pub last_number : ℕ
last_number = 18446744073709551615

-- the next number; the last one has itself for its next
abbrev pub next : ℕ → ℕ
next n = min (n + 1) last_number

-- one order more where one was drawn, and at no other answer
abbrev pub orders_after : ℕ → Answer → ℕ
orders_after orders (Drawn place cents) = next orders
orders_after orders _ = orders

-- a printer after the line of an answer, and after the line of a refused file
abbrev pub after_answer : Printer → Answer → Printer
after_answer p answer = record { lines = next p.lines; orders = orders_after p.orders answer }

abbrev pub after_file : Printer → Printer
after_file p = record { lines = next p.lines; orders = p.orders }
