use Rattle.std.proofs.Common.{List, ◌++◌, sym, ap, codes}
use Rattle.no_ir.specs.declared.function.Block.{Block}
use Rattle.no_print.specs.Scopes.{spelled_by}
use Rattle.no_print.specs.Modules.{attributes, blocks_pieces, locals_of}
use Rattle.no_print.specs.Pieces.{lined, sign, spaced}
use Rattle.no_print.proofs.Appending.{left_from, left_last, left_more}
use Rattle.no_print.proofs.functions.put_body.Goals as goal

pub returns : goal.returns
returns c =
    left_last _ _ _ _ _ c.in_ok-put_sign-2.ensures (
    left_more _ _ _ _ _ _ c.in_ok-put_blocks.ensures (
    left_more _ _ _ _ _ _ c.in_ok-put_sign.ensures (
    left_more _ _ _ _ _ _ c.in_ok-put_attributes.ensures (
    left_from _ _ _ (ap (λ (xs : List Block). attributes c.args.f.now ++ (sign spaced (codes "{") ++ (blocks_pieces (spelled_by c.args.scope.now) (locals_of c.args.f.now) xs ++ sign lined (codes "}")))) (sym c.as_slice.ensures))))))
