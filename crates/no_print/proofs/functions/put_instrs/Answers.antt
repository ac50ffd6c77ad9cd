use Rattle.std.proofs.Common.{refl}
use Rattle.no_print.specs.Scopes.{spelled_by}
use Rattle.no_print.specs.Instructions.{instr_pieces}
use Rattle.no_print.specs.Modules.{instrs_pieces, locals_of}
use Rattle.no_print.proofs.Lists.{list_step}
use Rattle.no_print.proofs.functions.put_instrs.Goals as goal

pub loop-i-preserved : goal.loop-i-preserved
loop-i-preserved c =
    list_step (instrs_pieces (spelled_by c.args.scope.now) (locals_of c.args.f.now)) (instr_pieces (spelled_by c.args.scope.now) (locals_of c.args.f.now)) (λ x xs. refl) _ _ _ c.args.instrs.now c.loop-i.i-index c.i-item.result
    c.loop-i-test.true c.i-item.is c.loop-i.invariant c.in_ok-put_instr.ensures
