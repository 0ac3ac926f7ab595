-- What a house shows.
use Rattle.std.specs.Prelude.{◌≡◌, ℕ, List}
use Rattle.agreements.specs.Meaning.{Meaning}
use Rattle.banks.specs.declared.bank.Bank.{Ghosts as BankGhosts}
use Rattle.methodology.specs.Meaning.{Meaning as Market}
use Rattle.methodology.specs.declared.rules.Methodology.{Ghosts as MarketGhosts}
use Rattle.methodology.specs.declared.shape.Shape.{Shape}
use Rattle.ledger.specs.Views.{View}
use Rattle.ledger.specs.Law.{EveryRun}
use Rattle.house.specs.declared.house.House.{House}

-- by the meanings of its bank and of its methodology
abbrev pub shows : {B M : Type 0} {bank : BankGhosts B} {methodology : MarketGhosts M} → House B M bank methodology → View
shows {bank = bank} {methodology = methodology} h =
    record { shape = methodology.shape; market = methodology.meaning h.methodology; row = bank.row h.bank; ledger = h.ledger }

-- a house over this market and these agreements
pub record Over (shape : Shape) (market : Market) (row : List Meaning) (v : View) : Type 0 where
  pub shape_is : v.shape ≡ shape
  pub market_is : v.market ≡ market
  pub row_is : v.row ≡ row

module _ {B M : Type 0} {bank : BankGhosts B} {methodology : MarketGhosts M} where
  -- a house over what this bank and this methodology mean
  abbrev pub MadeOver : B → M → House B M bank methodology → Type 0
  MadeOver b m h = Over methodology.shape (methodology.meaning m) (bank.row b) (shows h)

-- the law holds after every list of calls to a house that is made over this bank and this methodology
abbrev pub EveryRunOver : {B M : Type 0} → BankGhosts B → MarketGhosts M → B → M → ℕ → Type 0
EveryRunOver bank methodology b m serial = EveryRun methodology.shape (methodology.meaning m) (bank.row b) serial
