use Rattle.std.proofs.Common.{◌≡◌, ℕ, ◌*◌, ◌^◌, ◌<◌, ◌≤◌, List, inl, inr, true, refl, arith, sym, subst, ap, ◌∙◌}
use Rattle.std.proofs.lemmas.Bool.{cases_lt}
use Rattle.no_heap.specs.declared.block.Block.{Block}
use Rattle.no_heap.specs.Blocks.{set_block}
use Rattle.no_heap.specs.Fit.{rounded}
use Rattle.no_module.specs.declared.external.External.TheVariants as external
use Rattle.no_semantics.specs.Externals.{World, bounded, do_calloc}
use Rattle.no_lib.specs.declared.answer.LibAnswer.TheVariants as told
use Rattle.no_lib.specs.Answers.{seen, Means}
use Rattle.no_lib.proofs.Told.{of_two}
use Rattle.no_lib.proofs.Paged.{held_span, want_later}
use Rattle.no_lib.proofs.Cleared.{calloc_none, calloc_none_of, calloc_over_of, calloc_wants_of, calloc_done_of, none_there, none_put, too_large}
use Rattle.no_lib.proofs.clearing.calloc.Goals as goal

not_below : (a b : ℕ) → (a < b → ⊥) → b ≤ a
not_below a b n = elim (cases_lt a b) [ inl h ↦ absurd (n h) | inr h ↦ h ]

pub returns-in_default-checked_mul : goal.returns-in_default-checked_mul
returns-in_default-checked_mul g c =
    let it = c.in-Some.given in
    record {
      means = λ env. of_two do_calloc c.args.left c.in-Some.ensures
          (calloc_none it.0 it.1 c.args.left _ _ c.requires (too_large c.args.heap.now it.0 it.1 c.blocks-blocks.ensures.live (not_below (it.0 * it.1) 18446744073709551616 c.in_default-checked_mul.ensures)) refl refl refl refl refl refl);
    }

pub returns-in_default-place_for : goal.returns-in_default-place_for
returns-in_default-place_for g c =
    let it = c.in-Some.given in
    record {
      means = λ env. of_two do_calloc c.args.left c.in-Some.ensures
          (calloc_none_of c.in-Some-checked_mul.product it.0 it.1 c.args.left _ _ c.in-Some-checked_mul.ensures.1 c.requires c.in_default-place_for.ensures.value refl refl refl refl c.in_default-place_for.ensures.same refl);
    }

pub returns-then-cost-left : goal.returns-then-cost-left
returns-then-cost-left g c =
    let it = c.in-Some.given in
    let r = g.M.Memory.regions c.args.mem.now in
    let held = g.M.Memory.held c.args.mem.now in
    let own = g.M.Memory.own c.args.mem.now in
    let byte = g.M.Memory.byte c.args.mem.now in
    record {
      means = λ env. of_two do_calloc c.args.left c.in-Some.ensures
          (subst (λ (bs : List Block). Means external.Calloc (λ (w : World). bounded c.args.left (do_calloc it.0 it.1 w) w) told.Over (seen r held own byte c.args.heap.now env) (seen r held own byte bs env)) (sym c.in-Some-place_for.ensures.same)
          (calloc_over_of c.in-Some-checked_mul.product it.0 it.1 c.in-Some-place_for.place c.args.left (seen r held own byte c.args.heap.now env) c.in-Some-checked_mul.ensures.1 c.in-Some-place_for.ensures.value c.if-cost-left.true));
    }

pub returns-then-product-eq0 : goal.returns-then-product-eq0
returns-then-product-eq0 g c =
    let it = c.in-Some.given in
    let p = c.in-Some-checked_mul.product in
    let place = c.in-Some-place_for.place in
    record {
      means = λ env. of_two do_calloc c.args.left c.in-Some.ensures
          (calloc_done_of p it.0 it.1 place c.args.left _ _ c.in-Some-checked_mul.ensures.1 c.in-Some-place_for.ensures.value c.if-cost-left.false
          (none_there (g.M.Memory.held c.args.mem.now) place p c.if-product-eq0.true) refl refl refl (λ q h. h) (none_put (g.M.Memory.byte c.args.mem.now) place p c.if-product-eq0.true)
          (c.put_block.ensures ∙ ap (λ (bs : List Block). set_block bs place (rounded p)) c.in-Some-place_for.ensures.same));
    }

pub returns-in-Done : goal.returns-in-Done
returns-in-Done g c =
    let it = c.in-Some.given in
    let p = c.in-Some-checked_mul.product in
    let place = c.in-Some-place_for.place in
    let e = c.in-Done.ensures in
    record {
      means = λ env. of_two do_calloc c.args.left c.in-Some.ensures
          (calloc_done_of p it.0 it.1 place c.args.left _ _ c.in-Some-checked_mul.ensures.1 c.in-Some-place_for.ensures.value c.if-cost-left.false
          (held_span (g.M.Memory.regions c.args.mem.now) (g.M.Memory.held c.args.mem.now) true place p (omega (arith, c.if-product-eq0.false)) e.stored.0) e.regions e.held refl e.own e.stored.1
          (c.put_block-in-Done.ensures ∙ ap (λ (bs : List Block). set_block bs place (rounded p)) c.in-Some-place_for.ensures.same));
    }

pub returns-in-Missing : goal.returns-in-Missing
returns-in-Missing g c =
    let it = c.in-Some.given in
    let p = c.in-Some-checked_mul.product in
    let place = c.in-Some-place_for.place in
    let e = c.in-Missing.ensures in
    record {
      means = λ env. of_two do_calloc c.args.left c.in-Some.ensures
          (want_later external.Calloc (λ (w : World). bounded c.args.left (do_calloc it.0 it.1 w) w) c.in-Missing.page _ _
          (calloc_wants_of p it.0 it.1 place c.args.left c.in-Missing.page (seen (g.M.Memory.regions c.args.mem.now) (g.M.Memory.held c.args.mem.now) (g.M.Memory.own c.args.mem.now) (g.M.Memory.byte c.args.mem.now) c.args.heap.now env)
          c.in-Some-checked_mul.ensures.1 c.in-Some-place_for.ensures.value (omega (arith, c.if-product-eq0.false)) c.if-cost-left.false e.stored.0)
          e.regions e.held refl e.own (record { bytes = e.stored.1; blocks = c.in-Some-place_for.ensures.same; rest = refl; output = refl }));
    }
