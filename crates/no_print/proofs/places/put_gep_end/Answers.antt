use Rattle.std.proofs.Common.{ℕ, List, ◌++◌, sym, ap, ◌∙◌, codes}
use Rattle.std.specs.Prelude.{ℤ}
use Rattle.no_print.specs.Constants.{index_pieces}
use Rattle.no_print.specs.Names.{global_name}
use Rattle.no_print.specs.Pieces.{behind_commas, glued, sign, spaced}
use Rattle.no_print.proofs.Appending.{left_from, left_last, left_more}
use Rattle.no_print.proofs.places.put_gep_end.Goals as goal

pub returns : goal.returns
returns c =
    left_last _ _ _ _ _ c.in_ok-put_sign.ensures (
    left_more _ _ _ _ _ _ c.in_ok-put_indices.ensures (
    left_more _ _ _ _ _ _ c.in_ok-put_global.ensures (
    left_from _ _ _ (ap (λ (name : List ℕ). global_name spaced name ++ (behind_commas index_pieces c.args.place.now.indices ++ sign glued (codes ")"))) (sym c.symbol_name.ensures)
    ∙ ap (λ (xs : List ℤ). global_name spaced c.symbol_name.result.now ++ (behind_commas index_pieces xs ++ sign glued (codes ")"))) (sym c.as_slice.ensures)))))
