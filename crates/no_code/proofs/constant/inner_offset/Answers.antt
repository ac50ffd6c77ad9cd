use Rattle.std.proofs.Common.{◌≡◌, ◌+◌, ◌%◌, ◌^◌, ℕ, true, List, ◌∷◌, map, drop, sym, ap, subst, ◌∙◌}
use Rattle.no_eval.specs.Numbers.{modulo}
use Rattle.no_ir.specs.declared.types.Ty.{Ty}
use Rattle.no_semantics.specs.Indices.{inner_leads, inner_offset}
use Rattle.no_semantics.specs.Sound.{type_fits}
use Rattle.no_semantics.proofs.Parts.{inner_more, leads_more, next_index, part_fits, resolved_fits}
use Rattle.no_code.proofs.constant.inner_offset.Goals as goal

pub index_offset-total-requires-clause-fits : goal.index_offset-total-requires-clause-fits
index_offset-total-requires-clause-fits c =
    let l = c.args.from.layout.now in
    let sizes = c.args.from.sizes.now in
    let types = c.args.from.program.now.types in
    subst (λ (t : Ty). type_fits l sizes t ≡ true) (sym c.resolved-t.ensures) (resolved_fits l sizes types c.requires.table c.loop-index.at.now c.loop-index.invariant.fits)

pub loop-index-preserved : goal.loop-index-preserved
loop-index-preserved c =
    let l = c.args.from.layout.now in
    let sizes = c.args.from.sizes.now in
    let types = c.args.from.program.now.types in
    let k = c.loop-index.index-index in
    let at = c.loop-index.at.now in
    let t = c.resolved-t.result.now in
    let i = c.wrapped-i.result in
    let others = map (modulo c.args.pointer) (drop (k + 1) c.args.indices.now) in
    let left = next_index c.args.pointer c.args.pointer i c.args.indices.now k c.loop-index-test.true (Rattle.std.proofs.Common.refl) c.wrapped-i.ensures in
    let leads : inner_leads types at (i ∷ others) ≡ true = subst (λ (is : List ℕ). inner_leads types at is ≡ true) left c.loop-index.invariant.leads in
    let fits : type_fits l sizes t ≡ true = subst (λ (t : Ty). type_fits l sizes t ≡ true) (sym c.resolved-t.ensures) (resolved_fits l sizes types c.requires.table at c.loop-index.invariant.fits) in
    record {
      fits = part_fits l sizes t i c.in-Some.next.now fits (sym c.in-Some.ensures);
      leads = leads_more types at t c.in-Some.next.now i others c.resolved-t.ensures (sym c.in-Some.ensures) leads;
      sum = inner_more l sizes types at t c.in-Some.next.now i c.loop-index.total c.index_offset-total.result others c.resolved-t.ensures (sym c.in-Some.ensures) c.index_offset-total.ensures
          ∙ ap (λ (is : List ℕ). (c.loop-index.total + inner_offset l sizes types at is) % 2 ^ 64) (sym left)
          ∙ c.loop-index.invariant.sum;
    }
