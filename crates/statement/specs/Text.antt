-- The lines of a statement.
use Rattle.std.specs.Prelude.{ℕ, ◌+◌, List, ◌++◌, ℤ, codes, decimal}
use Rattle.std.specs.Fmt.{signed_decimal}
use Rattle.statement.specs.declared.account.AccountTotals.{AccountTotals}
use Rattle.statement.specs.declared.money.PlaceMoney.{PlaceMoney}
use Rattle.statement.specs.Totals.{covered_by, costs_by}

-- a word and a number
abbrev figure : List ℕ → ℕ → List ℕ
figure word n = word ++ decimal n

abbrev signed_figure : List ℕ → ℤ → List ℕ
signed_figure word z = word ++ signed_decimal z

-- what the licensees were billed and still owe
abbrev pub licensees_terms : AccountTotals → List ℕ
licensees_terms a = figure (codes "bills ") a.bills ++ figure (codes " fractions ") a.fractions

-- what the heads hold, and what the intervals kept
abbrev pub heads_terms : AccountTotals → List ℕ
heads_terms a =
    signed_figure (codes "balances ") a.balances ++ (figure (codes " carries ") a.carries ++ signed_figure (codes " margins ") a.margins)

-- what is to be paid for
abbrev pub costs_text : AccountTotals → List ℕ
costs_text a =
    figure (codes "dues ") a.dues ++ (figure (codes " revenues ") a.revenues ++ figure (codes " sum ") (costs_by a))

-- a line for each side
abbrev pub account_text : AccountTotals → List ℕ
account_text a =
    codes "account "
    ++ (licensees_terms a
    ++ (codes " " ++ (heads_terms a ++ (signed_figure (codes " sum ") (covered_by a) ++ (codes "\naccount " ++ costs_text a)))))

abbrev pub money_text : PlaceMoney → List ℕ
money_text m =
    figure (codes "released ") m.released
    ++ (figure (codes " in-hand ") m.in_hand
    ++ (figure (codes " standing ") m.standing
    ++ (figure (codes " sum ") (m.released + m.in_hand + m.standing)
    ++ figure (codes " terms ") m.terms)))
