-- The first month's sheet as text, and both sides of its account.
use Rattle.std.proofs.Common.{◌≡◌, ℕ, ◌+◌, ℤ, pos, Some, None, Option, refl, ap, lit≤, lit<, arith}
use Rattle.std.specs.Fmt.{digits}
use Rattle.std.proofs.lemmas.Int.{ints}
use Rattle.metering.specs.declared.reading.Reading.{Reading}
use Rattle.methodology.specs.Markets.{three_shape, three_meaning}
use Rattle.accounts.specs.declared.sheet.Billed.{Billed}
use Rattle.accounts.specs.declared.sheet.HeadLine.{HeadLine}
use Rattle.accounts.specs.declared.sheet.Sheet.{Sheet}
use Rattle.accounts.specs.Sheets.{line_at, billed_at}
use Rattle.accounts.specs.Sums.{sum_to, sum_toℤ}
use Rattle.tariffs.specs.declared.row.Row.{Row}
use Rattle.tariffs.specs.declared.filing.Filing.{Filing}
use Rattle.settlement.specs.Law.{bill_of}
use Rattle.ledger.specs.Accepted.{some_or}
use Rattle.ledger.specs.Law.{covered, costs}
use Rattle.sheet.specs.Text.{sheet_text, lines, month_line, head_line, licensee_line, margin_line}
use Rattle.worked_figures.specs.FirstCalls.{first_row, FirstFigures}
use Rattle.worked_cases.specs.FirstMonth.{first_text, accepted_calls, Printed}
use Rattle.worked_cases.proofs.Figures.{Shown, line}

module _ (sheet : Sheet) (s : Shown sheet) where
  pub text_is : sheet_text sheet ≡ first_text
  unfolding sheet_text lines month_line head_line licensee_line margin_line digits
  text_is =
      simp (s.month_is, s.revenues_are, s.intervals_are, s.g, s.t, s.b, s.e1, s.e2, s.e3, s.licensee, s.others 1 (lit≤ tt) (lit< tt), s.others 2 (lit≤ tt) (lit< tt), s.others 3 (lit≤ tt) (lit< tt), s.others 4 (lit≤ tt) (lit< tt), s.others 5 (lit≤ tt) (lit< tt), s.others 6 (lit≤ tt) (lit< tt), s.others 7 (lit≤ tt) (lit< tt), s.margin_is)

  -- what one figure of each head's line, or of each licensee's, comes to
  over_heads : (f : HeadLine → ℕ) → sum_to (λ k. f (line_at sheet k)) 6 ≡ f (line 0) + f (line 1) + f (line 2) + f (line 3) + f (line 4) + f (line 5)
  unfolding sum_to
  over_heads f = simp (ap f s.g, ap f s.t, ap f s.b, ap f s.e1, ap f s.e2, ap f s.e3) (omega arith)

  over_licensees : (f : Option Billed → ℕ) → f None ≡ 0 → sum_to (λ l. f (billed_at sheet l)) 8 ≡ f (Some (record { bill = 618; fraction = 7630 }))
  unfolding sum_to
  over_licensees f none = simp (ap f s.licensee, ap f (s.others 1 (lit≤ tt) (lit< tt)), ap f (s.others 2 (lit≤ tt) (lit< tt)), ap f (s.others 3 (lit≤ tt) (lit< tt)), ap f (s.others 4 (lit≤ tt) (lit< tt)), ap f (s.others 5 (lit≤ tt) (lit< tt)), ap f (s.others 6 (lit≤ tt) (lit< tt)), ap f (s.others 7 (lit≤ tt) (lit< tt)), none) (omega arith)

  balances_are : sum_toℤ (λ k. (line_at sheet k).balance) 6 ≡ pos 222217
  unfolding sum_toℤ
  balances_are =
      let f : HeadLine → ℤ = λ l. l.balance in
      simp (ap f s.g, ap f s.t, ap f s.b, ap f s.e1, ap f s.e2, ap f s.e3)

  module _ (year : Row) (tariff : Filing) (sent taken : Reading) (before : Sheet) (f : FirstFigures year tariff sent taken) where
    covered_is : covered three_shape three_meaning first_row (accepted_calls year tariff sent taken before sheet) ≡ pos 6410000
    covered_is =
        let bills = over_licensees bill_of refl in
        let fractions = over_licensees (λ o. some_or o 0 (λ b. b.fraction)) refl in
        let carries = over_heads (λ l. l.carry) in
        let balances = balances_are in
        let margin = s.margin_is in
        omega (arith, ints)

    costs_are : costs three_shape three_meaning first_row (accepted_calls year tariff sent taken before sheet) ≡ pos 6410000
    unfolding sum_to
    costs_are =
        simp (f.station.number_is, f.station.demand_is, f.station.energies_are, f.revenues.figure_is 0 (lit< tt), f.revenues.figure_is 1 (lit< tt), s.month_is)

    pub printed : Printed (accepted_calls year tariff sent taken before sheet) sheet
    printed = record { text = text_is; covered = covered_is; costs = costs_are }
