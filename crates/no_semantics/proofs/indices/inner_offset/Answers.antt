use Rattle.std.proofs.Common.{◌≡◌, ◌+◌, ◌%◌, ◌^◌, ℕ, true, List, ◌∷◌, map, drop, sym, ap, subst, ◌∙◌}
use Rattle.no_ir.specs.declared.function.Module.{Module}
use Rattle.no_eval.specs.Numbers.{modulo}
use Rattle.no_semantics.specs.Indices.{inner_leads, inner_offset, resolved}
use Rattle.no_semantics.proofs.Parts.{fits_on, offset_on, inner_more, leads_more, next_index, part_fits}
use Rattle.no_semantics.proofs.indices.inner_offset.Goals as goal

pub index_offset-total-requires-clause-fits : goal.index_offset-total-requires-clause-fits
index_offset-total-requires-clause-fits c =
    fits_on c.module-program.result.now c.args.sound.now.layout c.layout.result.now c.args.sound.now.sizes c.sizes.result.now c.loop-index.at.now c.resolved-t.result.now c.module-program.ensures.sound
    c.layout.ensures.value c.sizes.ensures c.resolved-t.ensures c.loop-index.invariant.fits

pub loop-index-preserved : goal.loop-index-preserved
loop-index-preserved c =
    let l = c.args.sound.now.layout in
    let sizes = c.args.sound.now.sizes in
    let types = c.args.sound.now.«module».types in
    let k = c.loop-index.index-index in
    let at = c.loop-index.at.now in
    let t = c.resolved-t.result.now in
    let i = c.wrapped-i.result in
    let others = map (modulo l.pointer) (drop (k + 1) c.args.indices.now) in
    let is : t ≡ resolved types at = c.resolved-t.ensures ∙ ap (λ (m : Module). resolved m.types at) c.module-program.ensures.value in
    let left = next_index c.pointer_width-width.result l.pointer i c.args.indices.now k c.loop-index-test.true c.pointer_width-width.ensures.value c.wrapped-i.ensures in
    let leads : inner_leads types at (i ∷ others) ≡ true = subst (λ (is : List ℕ). inner_leads types at is ≡ true) left c.loop-index.invariant.leads in
    let fits = fits_on c.module-program.result.now l c.layout.result.now sizes c.sizes.result.now at t c.module-program.ensures.sound c.layout.ensures.value c.sizes.ensures c.resolved-t.ensures c.loop-index.invariant.fits in
    let offset = offset_on l c.layout.result.now sizes c.sizes.result.now t i c.index_offset-total.result c.layout.ensures.value c.sizes.ensures c.index_offset-total.ensures in
    record {
      fits = part_fits l sizes t i c.in-Some.next.now (rw (← c.layout.ensures.value, ← c.sizes.ensures) fits) (sym c.in-Some.ensures);
      leads = leads_more types at t c.in-Some.next.now i others is (sym c.in-Some.ensures) leads;
      sum = inner_more l sizes types at t c.in-Some.next.now i c.loop-index.total c.index_offset-total.result others is (sym c.in-Some.ensures) offset
          ∙ ap (λ (is : List ℕ). (c.loop-index.total + inner_offset l sizes types at is) % 2 ^ 64) (sym left)
          ∙ c.loop-index.invariant.sum;
    }
