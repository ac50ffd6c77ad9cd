use Rattle.std.proofs.Common.{ℕ, List, ◌++◌, sym, ap, ◌∙◌, codes}
use Rattle.no_print.specs.Scopes.{spelled_by}
use Rattle.no_print.specs.Constants.{const_pieces, type_at}
use Rattle.no_print.specs.Instructions.{alignment_pieces}
use Rattle.no_print.specs.Modules.{kind_word}
use Rattle.no_print.specs.Names.{global_name}
use Rattle.no_print.specs.Pieces.{lined, sign, spaced, word}
use Rattle.no_print.proofs.Appending.{left_from, left_last, left_more}
use Rattle.no_print.proofs.printing.put_global_line.Goals as goal

pub returns : goal.returns
returns c =
    left_last _ _ _ _ _ c.in_ok-put_alignment.ensures (
    left_more _ _ _ _ _ _ c.in_ok-put_const.ensures (
    left_more _ _ _ _ _ _ c.in_ok-put_type.ensures (
    left_more _ _ _ _ _ _ c.in_ok-put_word.ensures (
    left_more _ _ _ _ _ _ c.in_ok-put_sign.ensures (
    left_more _ _ _ _ _ _ c.in_ok-put_global.ensures (
    left_from _ _ _ (ap (λ (x : List ℕ). global_name lined x ++ (sign spaced (codes "=") ++ (word spaced (kind_word c.args.g.now.constant) ++ (type_at (spelled_by c.args.scope.now) spaced c.args.g.now.ty ++ (const_pieces (spelled_by c.args.scope.now) c.args.g.now.init c.args.g.now.ty spaced ++ alignment_pieces c.args.g.now.align))))) (sym c.as_slice.ensures)
    ∙ ap (λ (x : List ℕ). global_name lined c.as_slice.result.now ++ (sign spaced (codes "=") ++ (word spaced x ++ (type_at (spelled_by c.args.scope.now) spaced c.args.g.now.ty ++ (const_pieces (spelled_by c.args.scope.now) c.args.g.now.init c.args.g.now.ty spaced ++ alignment_pieces c.args.g.now.align))))) (sym c.kind_word.ensures))))))))
