use Rattle.std.proofs.Common.{nat_eq}
use Rattle.indexmap.specs.IndexMap.{get}
use Rattle.no_verify_structure.proofs.Firsts.{seen_by}
use Rattle.no_verify_structure.proofs.phis.see_pair.Goals as goal

pub returns-clause-firsts : goal.returns-clause-firsts
returns-clause-firsts c = seen_by c.args.pairs.now c.args.i c.args.pair.now c.requires.pair (get nat_eq c.args.firsts.now) _ c.requires.firsts c.in_ok-agrees.ensures.kept
