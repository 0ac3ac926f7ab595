-- What a house shows: its market, the meanings in its bank, and its ledger.
use Rattle.std.specs.Prelude.{List}
use Rattle.agreements.specs.Meaning.{Meaning}
use Rattle.methodology.specs.Meaning.{Meaning as Market}
use Rattle.methodology.specs.declared.shape.Shape.{Shape}
use Rattle.rates.specs.declared.published.Rates.{Rates}
use Rattle.rates.specs.declared.revenues.Revenues.{Revenues}
use Rattle.accounts.specs.declared.books.Books.{Books}
use Rattle.accounts.specs.declared.month.Month.{Month}
use Rattle.accounts.specs.Rules.{Rules, rules_of}
use Rattle.orders.specs.declared.till.Till.{Till}
use Rattle.ledger.specs.declared.stage.Half.TheVariants.{First}
use Rattle.ledger.specs.declared.stage.Stage.{Stage}
use Rattle.ledger.specs.declared.stage.Stage.TheVariants.{BeforeTariff}
use Rattle.ledger.specs.declared.ledger.Ledger.{Ledger}

-- the market's counts and meaning; the meaning of the agreement at each place, place 1 first; and what the house keeps in plain numbers
pub record View : Type 0 where
  pub shape : Shape
  pub market : Market
  pub row : List Meaning
  pub ledger : Ledger

-- the market's rules
abbrev pub rules : View → Rules
rules v = rules_of v.shape v.market

abbrev pub till_of : View → Till
till_of v = v.ledger.till

abbrev pub month_of : View → Month
month_of v = v.ledger.month

abbrev pub books_of : View → Books
books_of v = v.ledger.books

-- the same house with another ledger
abbrev pub with_ledger : View → Ledger → View
with_ledger v l = record { shape = v.shape; market = v.market; row = v.row; ledger = l }

-- a year is filed: the stage and the revenues are others
abbrev pub with_year : View → Revenues → View
with_year v revenues =
    with_ledger v (record { stage = BeforeTariff First; revenues = revenues; rates = v.ledger.rates; books = books_of v; month = month_of v; till = till_of v })

-- a tariff is published
abbrev pub with_tariff : View → Stage → Rates → Books → View
with_tariff v stage rates books =
    with_ledger v (record { stage = stage; revenues = v.ledger.revenues; rates = rates; books = books; month = month_of v; till = till_of v })

-- the open month has grown
abbrev pub with_month : View → Month → View
with_month v month =
    with_ledger v (record { stage = v.ledger.stage; revenues = v.ledger.revenues; rates = v.ledger.rates; books = books_of v; month = month; till = till_of v })

-- a month is closed
abbrev pub with_closed : View → Stage → Books → Month → View
with_closed v stage books month =
    with_ledger v (record { stage = stage; revenues = v.ledger.revenues; rates = v.ledger.rates; books = books; month = month; till = till_of v })

-- money has moved
abbrev pub with_till : View → Till → View
with_till v till =
    with_ledger v (record { stage = v.ledger.stage; revenues = v.ledger.revenues; rates = v.ledger.rates; books = books_of v; month = month_of v; till = till })

-- a reading is booked: the bank's standings, the month and the money have moved
abbrev pub with_reading : View → List Meaning → Month → Till → View
with_reading v row month till =
    record { shape = v.shape; market = v.market; row = row; ledger = (with_till (with_month v month) till).ledger }
