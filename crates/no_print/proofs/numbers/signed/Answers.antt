use Rattle.std.proofs.Common.{◌<◌, ◌≤◌, ◌*◌, ◌^◌, arith}
use Rattle.std.proofs.lemmas.Grind.{common_steps}
use Rattle.std.proofs.lemmas.Bool.Decides.{nat_tests}
use Rattle.std.proofs.Math.Pow.{pow_mono}
use Rattle.no_print.proofs.numbers.signed.Goals as goal

pub returns-then-w-gt64 : goal.returns-then-w-gt64
returns-then-w-gt64 c =
    let wide : 2 ^ 65 ≤ 2 ^ c.args.w = pow_mono {i = 65} {j = c.args.w} (omega arith) in
    let below : 2 * c.args.n < 2 ^ c.args.w = omega arith in
    grind (arith, common_steps, nat_tests, below)
