use Rattle.std.proofs.Common.{List, ◌++◌, sym, ap}
use Rattle.no_ir.specs.declared.instruction.Instr.{Instr}
use Rattle.no_print.specs.Scopes.{spelled_by}
use Rattle.no_print.specs.Modules.{instrs_pieces, locals_of}
use Rattle.no_print.specs.Names.{label_line, name_at}
use Rattle.no_print.specs.Pieces.{lined}
use Rattle.no_print.proofs.Appending.{left_from, left_last, left_more}
use Rattle.no_print.proofs.functions.put_block.Goals as goal

pub returns : goal.returns
returns c =
    left_last _ _ _ _ _ c.in_ok-put_instrs.ensures (
    left_more _ _ _ _ _ _ c.in_ok-put_label_of.ensures (
    left_from _ _ _ (ap (λ (xs : List Instr). label_line lined (name_at c.args.f.now.labels c.args.b.now.label) ++ instrs_pieces (spelled_by c.args.scope.now) (locals_of c.args.f.now) xs) (sym c.as_slice.ensures))))
