use Rattle.std.proofs.Common.{◌<◌, ℕ, List, ◌++◌, map, length, refl, sym, ap, ◌∙◌, arith}
use Rattle.no_ir.specs.declared.types.Ty.{Ty}
use Rattle.no_print.specs.Commas.{break}
use Rattle.no_print.specs.Constants.{array_const, const_pieces, member, struct_const}
use Rattle.no_print.specs.Pieces.{Piece, glued, spaced}
use Rattle.no_print.specs.Scopes.{spelled_by}
use Rattle.no_print.proofs.Appending.{both, three}
use Rattle.no_print.proofs.Braces.{braced_fields}
use Rattle.no_print.proofs.Fields.{fields_end, fields_step, item_at}
use Rattle.no_print.proofs.Lists.{made_end, made_step}
use Rattle.no_print.proofs.constants.+constants.Goals as goal

pub put_member-returns : goal.put_member-returns
put_member-returns t c = both _ _ _ _ _ _ c.in_ok-put_type.ensures c.in_ok-put_const.ensures refl

pub put_element-returns : goal.put_element-returns
put_element-returns t c =
    let s = spelled_by c.args.scope.now in
    item_at (λ (g : List ℕ). member s g c.args.t.now (const_pieces s c.args.c.now)) c.args.k glued _ _ _ _ c.gap_at.ensures c.in_ok-put_break.ensures c.in_ok-put_member.ensures

pub put_elements-loop-k-preserved : goal.put_elements-loop-k-preserved
put_elements-loop-k-preserved t c =
    let s = spelled_by c.args.scope.now in
    made_step (λ (gap : List ℕ) (m : Ty → List ℕ → List Piece). member s gap c.args.t.now m) glued (const_pieces s) _ _ _ c.args.elements.now c.loop-k.k c.index-elements-k.result
    c.loop-k-test.true c.index-elements-k.is c.loop-k.invariant c.in_ok-put_element.ensures

pub put_elements-returns : goal.put_elements-returns
put_elements-returns t c =
    let s = spelled_by c.args.scope.now in
    made_end (λ (gap : List ℕ) (m : Ty → List ℕ → List Piece). member s gap c.args.t.now m) glued (const_pieces s) _ _ _ c.args.elements.now c.loop-k.k
    c.loop-k-test.false c.loop-k.invariant

pub put_array-returns : goal.put_array-returns
put_array-returns t c =
    let s = spelled_by c.args.scope.now in
    three _ _ _ _ _ _ _ _ c.in_ok-put_sign.ensures c.in_ok-put_elements.ensures c.in_ok-put_sign-2.ensures
    (ap (λ (u : Ty). array_const s c.args.gap.now u (map (const_pieces s) c.args.elements.now)) (sym c.element_of-element.ensures))

pub put_field-returns : goal.put_field-returns
put_field-returns t c =
    let s = spelled_by c.args.scope.now in
    both _ _ _ _ _ _ c.in_ok-put_break.ensures c.in_ok-put_member.ensures
    (ap (λ (u : Ty). break c.args.k ++ member s spaced u (const_pieces s c.args.c.now)) (sym c.first_type.ensures))

pub put_all_fields-loop-k-preserved : goal.put_all_fields-loop-k-preserved
put_all_fields-loop-k-preserved t c =
    fields_step (spelled_by c.args.scope.now) _ _ _ c.args.fields.now c.loop-k.k c.index-fields-k.result _ _ c.loop-k-test.true c.index-fields-k.is c.behind_first-rest.ensures
    c.loop-k.invariant c.in_ok-put_field.ensures

pub put_all_fields-returns : goal.put_all_fields-returns
put_all_fields-returns t c = fields_end (spelled_by c.args.scope.now) _ _ _ c.args.fields.now c.loop-k.k _ c.loop-k-test.false c.loop-k.invariant

pub put_struct-returns : goal.put_struct-returns
put_struct-returns t c =
    let s = spelled_by c.args.scope.now in
    let some : 0 < length c.args.fields.now = omega arith in
    three _ _ _ _ _ _ _ _ c.in_ok-put_sign.ensures c.in_ok-put_all_fields.ensures c.in_ok-put_sign-2.ensures
    (ap (λ (ts : List Ty). struct_const s c.args.gap.now ts (map (const_pieces s) c.args.fields.now)) (sym c.fields_of.ensures)
    ∙ braced_fields s c.args.gap.now c.args.fields.now c.fields_of.result.now some)
