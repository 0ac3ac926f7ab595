-- The lines of a journal, read one after another.
use Rattle.std.proofs.Common.{◌≡◌, ℕ, ◌+◌, true, List, [], ◌∷◌, Ok, Err, Result, refl, sym, ap, ◌∙◌}
use Rattle.std.specs.Result.{MatchResult, is_ok}
use Rattle.words.specs.Pieces.{words, bare}
use Rattle.journal.specs.declared.expected.Expected.{Expected}
use Rattle.journal.specs.declared.unread.UnreadLine.{UnreadLine}
use Rattle.journal.specs.declared.unread.UnreadLine.TheVariants.{Lacks, NoMemory}
use Rattle.journal.specs.declared.unread.Unread.{Unread}
use Rattle.journal.specs.Lines.{Said, Turns, with_words}
use Rattle.journal.specs.Text.{Content, JournalFault, Reads, unread_at, read_on, goes_on, finished}

-- one line read
module _ (n : ℕ) (s : Said) (ls : List (List ℕ)) (line : List ℕ) (more : List (List ℕ)) (m : ℕ) (cut : ls ≡ line ∷ more) (next : m ≡ n + 1) where
  abbrev then : ℕ → Result Said Expected → Result Content JournalFault
  then k said = goes_on k said (λ t. read_on k t more)

  line_read : read_on n s ls ≡ then m (with_words s m (words (bare line)))
  unfolding read_on
  line_read = ap (read_on n s) cut ∙ sym (ap (λ k. then k (with_words s k (words (bare line)))) next)

  abbrev Turned : Result (Unit {0}) UnreadLine → Said → Type 0
  Turned r after = Turns (with_words s m (words (bare line))) r after

  line_refused : (why : UnreadLine) (after : Said) → Turned (Err why) after → Reads (read_on n s ls) (Err (unread_at m why))
  line_refused (Lacks e) after h = line_read ∙ ap (then m) h
  line_refused NoMemory after h = tt

  pub line_stops : (r : Result (Unit {0}) UnreadLine) (after : Said) (told : Unread) → Turned r after
      → MatchResult r (λ x. ◌≡◌ {A = Result (Unit {0}) Unread} (Err told) (Ok x)) (λ why. told ≡ unread_at m why) → Reads (read_on n s ls) (Err told)
  line_stops (Ok x) after told h i = cc
  line_stops (Err why) after told h i = rw i (line_refused why after h)

  pub line_goes : (r : Result (Unit {0}) UnreadLine) (t : Said) → Turned r t → is_ok r ≡ true → read_on m t more ≡ read_on n s ls
  line_goes (Ok x) t h i = sym (line_read ∙ ap (then m) h)
  line_goes (Err why) t h i = cc

pub lines_end : (n : ℕ) (s : Said) → read_on n s [] ≡ finished n s
unfolding read_on
lines_end n s = refl
