use Rattle.std.proofs.Common.{ℕ, List, sym, ap}
use Rattle.no_print.specs.Instructions.{op_pieces}
use Rattle.no_ir.specs.declared.instruction.Op.TheVariants as op
use Rattle.no_ir.specs.declared.instruction.Operand.{Operand}
use Rattle.no_print.specs.Scopes.{spelled_by}
use Rattle.no_print.specs.Modules.{locals_of}
use Rattle.no_print.proofs.Appending.{left_from, left_last, left_more}
use Rattle.no_print.proofs.operations.put_gep.Goals as goal

pub returns : goal.returns
returns c =
    left_last _ _ _ _ _ c.in_ok-put_steps.ensures (
    left_more _ _ _ _ _ _ c.in_ok-put_pointer.ensures (
    left_more _ _ _ _ _ _ c.in_ok-put_comma.ensures (
    left_more _ _ _ _ _ _ c.in_ok-put_type.ensures (
    left_more _ _ _ _ _ _ c.in_ok-put_word.ensures (
    left_from _ _ _ (ap (λ (xs : List (ℕ × Operand)). op_pieces (spelled_by c.args.scope.now) (locals_of c.args.f.now) c.args.gap.now (op.Gep c.args.t.now c.args.a.now xs)) (sym c.as_slice.ensures)))))))
