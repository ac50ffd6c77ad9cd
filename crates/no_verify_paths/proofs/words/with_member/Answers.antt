use Rattle.std.proofs.Common.{arith, ◌%◌, ◌<◌}
use Rattle.no_verify_paths.proofs.Bits.{has_with}
use Rattle.no_verify_paths.proofs.words.with_member.Goals as goal

pub returns : goal.returns
returns c = λ i. let low : c.args.register % 64 < 64 = omega arith in has_with c.args.word (c.args.register % 64) i low
