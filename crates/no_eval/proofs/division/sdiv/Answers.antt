use Rattle.std.proofs.Common.{rules, FitsSigned, w64}
use Rattle.std.proofs.lemmas.Int.{quot_is}
use Rattle.no_eval.proofs.Quotients.{quotient_fits}
use Rattle.no_eval.proofs.division.sdiv.Goals as goal

pub returns-clause-value : goal.returns-clause-value
returns-clause-value c =
    let first : FitsSigned w64 c.signed.result = search rules in
    let second : FitsSigned w64 c.signed-2.result = search rules in
    let fits = quotient_fits c.args.w c.args.a c.args.b c.signed.result c.signed-2.result c.requires.some c.requires.most c.requires.left c.requires.right c.signed.ensures c.signed-2.ensures c.if-is_overflow.ensures first in
    let same = quot_is w64 c.signed.result c.signed-2.result first second fits in
    search rules
