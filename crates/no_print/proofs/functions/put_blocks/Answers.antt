use Rattle.std.proofs.Common.{◌++◌, sym, append_assoc}
use Rattle.no_ir.specs.declared.function.Block.{Block}
use Rattle.no_print.specs.Scopes.{spelled_by}
use Rattle.no_print.specs.Modules.{blocks_pieces, instrs_pieces, locals_of}
use Rattle.no_print.specs.Names.{label_line, name_at}
use Rattle.no_print.specs.Pieces.{lined}
use Rattle.no_print.proofs.Lists.{list_step}
use Rattle.no_print.proofs.functions.put_blocks.Goals as goal

pub loop-b-preserved : goal.loop-b-preserved
loop-b-preserved c =
    let s = spelled_by c.args.scope.now in
    let f = locals_of c.args.f.now in
    list_step (blocks_pieces s f) (λ (b : Block). label_line lined (name_at f.labels b.label) ++ instrs_pieces s f b.instrs)
    (λ b bs. sym (append_assoc (label_line lined (name_at f.labels b.label)) (instrs_pieces s f b.instrs) (blocks_pieces s f bs)))
    _ _ _ c.args.blocks.now c.loop-b.b-index c.b-item.result c.loop-b-test.true c.b-item.is c.loop-b.invariant c.in_ok-put_block.ensures
