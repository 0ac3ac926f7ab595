use Rattle.std.proofs.Common.{◌≡◌, ℕ, refl, subst, arith}
use Rattle.methodology.specs.Heads.{heads_of}
use Rattle.tariffs.proofs.Filling.{RatedTo, rated_all}
use Rattle.tariffs.proofs.filed.Filed.rates.Goals as goal

pub returns : goal.returns
returns c =
    let filed = c.args.self.now in
    let earlier = c.args.earlier.now in
    let heads = c.loop-place.heads in
    let ended : c.loop-place.place ≡ heads_of filed.shape = omega (arith, c.heads.ensures.value) in
    let all = subst (λ (k : ℕ). RatedTo filed.shape filed.filing earlier k heads) ended c.loop-place.invariant in
    (filed.fitting, rated_all filed.shape filed.filing earlier _ refl all)
