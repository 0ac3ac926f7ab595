-- Sums over a list of calls, one call more.
use Rattle.std.proofs.Common.{◌≡◌, ℕ, ◌+◌, ◌<◌, List, [], ◌∷◌, ◌++◌, length, get_or, take, sym, refl, ap, ◌∙◌, arith, length-take}
use Rattle.std.proofs.lemmas.List.{take_more}
use Rattle.history.specs.declared.call.Call.{Call}
use Rattle.history.specs.declared.answer.Answer.{Answer}
use Rattle.statement.specs.declared.tally.Tally.{Tally}
use Rattle.statement.specs.Tallies.{taken, tallied}

pub tallied_more : (revenues : ℕ) (cs : List Call) (answers : List Answer) (c : Call) (a : Answer) (t : Tally) → length cs ≡ length answers → tallied revenues (cs ++ c ∷ []) (answers ++ a ∷ []) t ≡ taken revenues c a (tallied revenues cs answers t)
unfolding tallied
tallied_more revenues [] [] c a t same = refl
tallied_more revenues [] (b ∷ answers) c a t same = absurd (omega arith)
tallied_more revenues (d ∷ cs) [] c a t same = absurd (omega arith)
tallied_more revenues (d ∷ cs) (b ∷ answers) c a t same = tallied_more revenues cs answers c a (taken revenues d b t) (omega arith)

-- the first k + 1 calls, where their lists go on so far
pub tallied_next : (revenues : ℕ) (cs : List Call) (answers : List Answer) (k : ℕ) (c : Call) (a : Answer) (t : Tally) → k < length cs → length answers ≡ length cs → c ≡ get_or cs k c → a ≡ get_or answers k a → tallied revenues (take (k + 1) cs) (take (k + 1) answers) t ≡ taken revenues c a (tallied revenues (take k cs) (take k answers) t)
tallied_next revenues cs answers k c a t low same here there =
    let calls = take_more cs k c low ∙ ap (λ x. take k cs ++ x ∷ []) (sym here) in
    let told = take_more answers k a (omega arith) ∙ ap (λ x. take k answers ++ x ∷ []) (sym there) in
    ap (λ xs. tallied revenues xs (take (k + 1) answers) t) calls
    ∙ ap (λ xs. tallied revenues (take k cs ++ c ∷ []) xs t) told
    ∙ tallied_more revenues (take k cs) (take k answers) c a t (omega (arith, length-take {A = Call}, length-take {A = Answer}))

pub tallied_none : (revenues : ℕ) (cs : List Call) (answers : List Answer) (t : Tally) → tallied revenues (take 0 cs) (take 0 answers) t ≡ t
unfolding tallied
tallied_none revenues cs answers t = refl
