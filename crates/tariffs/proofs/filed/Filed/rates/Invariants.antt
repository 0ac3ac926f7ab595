use Rattle.tariffs.proofs.Filling.{RatedTo}
use Rattle.tariffs.proofs.filed.Filed.rates.Given as goal

abbrev pub invariant-loop-place : goal.invariant-loop-place
invariant-loop-place l = RatedTo l.self.shape l.self.filing l.earlier l.place l.heads
