use Rattle.std.proofs.Common.{◌<◌, ℕ, List, length, refl, sym, arith}
use Rattle.no_print.specs.Pieces.{Piece, spaced}
use Rattle.no_print.specs.Scopes.{spelled_by}
use Rattle.no_print.specs.Types.{type_pieces}
use Rattle.no_print.proofs.Appending.{left_all, left_last, left_more, three}
use Rattle.no_print.proofs.Braces.{braced_types}
use Rattle.no_print.proofs.Fields.{gap_spaced, item_at}
use Rattle.no_print.proofs.Lists.{made_end, made_step}
use Rattle.no_print.proofs.types.+types.Goals as goal

pub put_array-returns : goal.put_array-returns
put_array-returns t c =
    left_last _ _ _ _ _ c.in_ok-put_sign-2.ensures (left_more _ _ _ _ _ _ c.in_ok-put_type.ensures (left_more _ _ _ _ _ _ c.in_ok-put_word.ensures
    (left_more _ _ _ _ _ _ c.in_ok-put_decimal.ensures (left_more _ _ _ _ _ _ c.in_ok-put_sign.ensures (left_all _ _)))))

pub put_field-returns : goal.put_field-returns
put_field-returns t c =
    item_at (type_pieces (spelled_by c.args.scope.now).named c.args.field.now) c.args.k spaced spaced _ _ _ (sym (gap_spaced c.args.k)) c.in_ok-put_break.ensures c.in_ok-put_type.ensures

pub put_all_fields-loop-k-preserved : goal.put_all_fields-loop-k-preserved
put_all_fields-loop-k-preserved t c =
    made_step (λ (gap : List ℕ) (field : List ℕ → List Piece). field gap) spaced (type_pieces (spelled_by c.args.scope.now).named) _ _ _ c.args.fields.now c.loop-k.k _
    c.loop-k-test.true c.index-fields-k.is c.loop-k.invariant c.in_ok-put_field.ensures

pub put_all_fields-returns : goal.put_all_fields-returns
put_all_fields-returns t c =
    made_end (λ (gap : List ℕ) (field : List ℕ → List Piece). field gap) spaced (type_pieces (spelled_by c.args.scope.now).named) _ _ _ c.args.fields.now c.loop-k.k
    c.loop-k-test.false c.loop-k.invariant

pub put_fields-returns : goal.put_fields-returns
put_fields-returns t c =
    let some : 0 < length c.args.fields.now = omega arith in
    three _ _ _ _ _ _ _ _ c.in_ok-put_sign.ensures c.in_ok-put_all_fields.ensures c.in_ok-put_sign-2.ensures
    (braced_types (spelled_by c.args.scope.now).named c.args.gap.now c.args.fields.now some)

pub put_packed-returns : goal.put_packed-returns
put_packed-returns t c = three _ _ _ _ _ _ _ _ c.in_ok-put_sign.ensures c.in_ok-put_fields.ensures c.in_ok-put_sign-2.ensures refl
