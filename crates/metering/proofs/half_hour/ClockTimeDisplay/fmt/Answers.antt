use Rattle.std.proofs.Common.{◌≡◌, ◌*◌, ◌/◌, ◌%◌, ◌∷◌, ◌++◌, ap, ◌∙◌, arith}
use Rattle.std.specs.Fmt.{decimal, styled_decimal}
use Rattle.std.proofs.lemmas.Fmt.{decimal_digit}
use Rattle.std.proofs.lemmas.List.{append_assoc}
use Rattle.metering.proofs.Clock.{placed}
use Rattle.metering.proofs.half_hour.ClockTimeDisplay.fmt.Goals as goal

pub returns-clause-writes : goal.returns-clause-writes
returns-clause-writes g c =
    let n = c.args.self.now.0 in
    let hour = ap (λ s. styled_decimal s (n / 2)) c.laid_out.ensures ∙ placed (n / 2) (omega arith) in
    let tens : n % 2 * 30 / 10 ≡ n % 2 * 3 = omega arith in
    let none : n % 2 * 30 % 10 ≡ 0 = omega arith in
    let ones = ap decimal none ∙ decimal_digit 0 (omega arith) in
    let minutes = ap (λ s. styled_decimal s (n % 2 * 30)) c.laid_out-2.ensures ∙ placed (n % 2 * 30) (omega arith) ∙ (λ i. decimal (tens i) ++ ones i) in
    let text = (λ i. hour i ++ (58 ∷ minutes i)) ∙ append_assoc (decimal (n / 2 / 10)) (decimal (n / 2 % 10)) _ in
    rw text at c.write.ensures.writes
