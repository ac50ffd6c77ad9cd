use Rattle.std.proofs.Common.{ℕ, List, ◌++◌, sym, ap, codes}
use Rattle.no_ir.specs.declared.types.Ty.{Ty}
use Rattle.no_print.specs.Scopes.{spelled_by}
use Rattle.no_print.specs.Modules.{attributes, head_pieces, type_alone}
use Rattle.no_print.specs.Pieces.{glued, sign, with_commas}
use Rattle.no_print.proofs.Appending.{left_from, left_last, left_more}
use Rattle.no_print.proofs.functions.put_declared.Goals as goal

pub returns : goal.returns
returns c =
    left_last _ _ _ _ _ c.in_ok-put_attributes.ensures (
    left_more _ _ _ _ _ _ c.in_ok-put_sign-2.ensures (
    left_more _ _ _ _ _ _ c.in_ok-put_declared_params.ensures (
    left_more _ _ _ _ _ _ c.in_ok-put_sign.ensures (
    left_more _ _ _ _ _ _ c.in_ok-put_head.ensures (
    left_from _ _ _ (ap (λ (xs : List (ℕ × Ty)). head_pieces (spelled_by c.args.scope.now) (codes "declare") c.args.f.now ++ (sign glued (codes "(") ++ (with_commas (type_alone (spelled_by c.args.scope.now)) glued xs ++ (sign glued (codes ")") ++ attributes c.args.f.now)))) (sym c.as_slice.ensures)))))))
