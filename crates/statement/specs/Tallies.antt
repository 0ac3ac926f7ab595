-- What the answers to a list of calls add up to, one call after another.
use Rattle.std.specs.Prelude.{ℕ, ◌+◌, ◌-◌, cond, ◌&&◌, List, [], ◌∷◌, replicate, pos, ◌+ℤ◌, nat_le, slice_index, slice_index_or, slice_set}
use Rattle.arith.specs.Months.{share as month-share}
use Rattle.accounts.specs.declared.sheet.Sheet.{Sheet}
use Rattle.accounts.specs.Sums.{sum_to}
use Rattle.tariffs.specs.declared.row.Row.{Row}
use Rattle.settlement.specs.Law.{bills_on}
use Rattle.metering.specs.Limits.{place_limit}
use Rattle.history.specs.declared.call.Call.{Call}
use Rattle.history.specs.declared.call.Call.TheVariants.{Year, Meter}
use Rattle.history.specs.declared.answer.Answer.{Answer}
use Rattle.history.specs.declared.answer.Answer.TheVariants.{Accepted, Metered, Closed, Paid}
use Rattle.statement.specs.declared.tally.PlaceTally.{PlaceTally}
use Rattle.statement.specs.declared.tally.Tally.{Tally}

abbrev pub no_tally : PlaceTally
no_tally = record { given = 0; released = 0 }

-- what came to the place behind so many
abbrev pub place_at : Tally → ℕ → PlaceTally
place_at t k = slice_index_or t.places k no_tally

-- before any call
abbrev pub nothing : Tally
nothing =
    record { bills = 0; margins = pos 0; unsettled = 0; dues = 0; shares = 0; yearly = replicate 3 0; places = replicate place_limit no_tally }

-- so many grains given and cents released besides
abbrev pub plus : PlaceTally → ℕ → ℕ → PlaceTally
plus p given released = record { given = p.given + given; released = p.released + released }

-- so much more at a place, which counts from 1; nothing where there is no such place
abbrev pub more_at : List PlaceTally → ℕ → ℕ → ℕ → List PlaceTally
more_at xs place given released =
    cond (nat_le 1 place && nat_le place place_limit) (slice_set xs (place - 1) (plus (slice_index_or xs (place - 1) no_tally) given released)) xs

-- the cents that yearly revenues allow in a month
abbrev pub shares_allowed : ℕ → List ℕ → ℕ → ℕ
shares_allowed revenues yearly month = sum_to (λ j. month-share (slice_index yearly j) month) revenues

-- a year is filed
abbrev pub with_year : Row → Tally → Tally
with_year given t =
    record t { yearly = slice_index given.figures 0 ∷ slice_index given.figures 1 ∷ slice_index given.figures 2 ∷ [] }

-- a reading has its dues
abbrev pub with_dues : ℕ → ℕ → Tally → Tally
with_dues place n t = record t { unsettled = t.unsettled + n; places = more_at t.places place n 0 }

-- a month is closed: its shares are those of the year in force
abbrev pub with_sheet : ℕ → Sheet → Tally → Tally
with_sheet revenues s t =
    record t { bills = t.bills + bills_on s; margins = t.margins +ℤ s.margin; unsettled = 0; dues = t.dues + t.unsettled; shares = t.shares + shares_allowed revenues t.yearly s.month }

-- an order is released
abbrev pub with_payment : ℕ → ℕ → Tally → Tally
with_payment place cents t = record t { places = more_at t.places place 0 cents }

-- an accepted call that says no more than that
abbrev pub with_accepted : Call → Tally → Tally
with_accepted (Year given) t = with_year given t
with_accepted _ t = t

-- a call whose answer tells dues
abbrev pub with_metered : Call → ℕ → Tally → Tally
with_metered (Meter given) n t = with_dues given.number n t
with_metered _ n t = t

-- after one call more
abbrev pub taken : ℕ → Call → Answer → Tally → Tally
taken revenues c Accepted t = with_accepted c t
taken revenues c (Metered n) t = with_metered c n t
taken revenues c (Closed s) t = with_sheet revenues s t
taken revenues c (Paid place cents) t = with_payment place cents t
taken revenues c _ t = t

-- after all of them
unfoldable pub tallied : ℕ → List Call → List Answer → Tally → Tally
tallied revenues [] answers t = t
tallied revenues (c ∷ cs) [] t = t
tallied revenues (c ∷ cs) (a ∷ answers) t = tallied revenues cs answers (taken revenues c a t)
