use Rattle.std.proofs.Common.{ℕ, List, ◌++◌, sym, ap, ◌∙◌}
use Rattle.std.proofs.Common.{Bool}
use Rattle.std.specs.List.{list_any}
use Rattle.no_ir.specs.declared.types.Ty.{Ty}
use Rattle.no_ir.specs.declared.function.Function.{Function}
use Rattle.no_ir.specs.declared.function.GlobalVar.{GlobalVar}
use Rattle.no_print.specs.Scopes.{spelled_by}
use Rattle.no_print.specs.Modules.{each, function_pieces, global_pieces, has_inserted, layout_pieces, named_pieces, node_pieces}
use Rattle.no_print.proofs.Appending.{left_from, left_last, left_more}
use Rattle.no_print.proofs.printing.put_module.Goals as goal

pub returns : goal.returns
returns c =
    left_last _ _ _ _ _ c.in_ok-put_node.ensures (
    left_more _ _ _ _ _ _ c.in_ok-put_functions.ensures (
    left_more _ _ _ _ _ _ c.in_ok-put_globals.ensures (
    left_more _ _ _ _ _ _ c.in_ok-put_all_named.ensures (
    left_more _ _ _ _ _ _ c.in_ok-put_layout.ensures (
    left_from _ _ _ (ap (λ (x : List ℕ). layout_pieces x ++ (each (named_pieces (spelled_by c.args.scope.now)) c.args.program.now.types ++ (each (global_pieces (spelled_by c.args.scope.now)) c.args.program.now.globals ++ (each (function_pieces (spelled_by c.args.scope.now)) c.args.program.now.functions ++ node_pieces (list_any has_inserted c.args.program.now.functions))))) (sym c.as_slice.ensures)
    ∙ ap (λ (x : List (List ℕ × Ty)). layout_pieces c.as_slice.result.now ++ (each (named_pieces (spelled_by c.args.scope.now)) x ++ (each (global_pieces (spelled_by c.args.scope.now)) c.args.program.now.globals ++ (each (function_pieces (spelled_by c.args.scope.now)) c.args.program.now.functions ++ node_pieces (list_any has_inserted c.args.program.now.functions))))) (sym c.as_slice-2.ensures)
    ∙ ap (λ (x : List GlobalVar). layout_pieces c.as_slice.result.now ++ (each (named_pieces (spelled_by c.args.scope.now)) c.as_slice-2.result.now ++ (each (global_pieces (spelled_by c.args.scope.now)) x ++ (each (function_pieces (spelled_by c.args.scope.now)) c.args.program.now.functions ++ node_pieces (list_any has_inserted c.args.program.now.functions))))) (sym c.as_slice-3.ensures)
    ∙ ap (λ (x : List Function). layout_pieces c.as_slice.result.now ++ (each (named_pieces (spelled_by c.args.scope.now)) c.as_slice-2.result.now ++ (each (global_pieces (spelled_by c.args.scope.now)) c.as_slice-3.result.now ++ (each (function_pieces (spelled_by c.args.scope.now)) x ++ node_pieces (list_any has_inserted c.args.program.now.functions))))) (sym c.as_slice-4.ensures)
    ∙ ap (λ (x : Bool). layout_pieces c.as_slice.result.now ++ (each (named_pieces (spelled_by c.args.scope.now)) c.as_slice-2.result.now ++ (each (global_pieces (spelled_by c.args.scope.now)) c.as_slice-3.result.now ++ (each (function_pieces (spelled_by c.args.scope.now)) c.as_slice-4.result.now ++ node_pieces x)))) (sym (c.any_inserted.ensures ∙ ap (list_any has_inserted) c.as_slice-5.ensures))))))))
