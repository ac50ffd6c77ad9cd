use Rattle.std.proofs.Common.{◌≡◌, ◌+◌, ◌-◌, ◌<◌, ◌++◌, replicate, ℕ, List, refl, rules, sym, ap, ◌∙◌, arith, length, length-append}
use Rattle.no_ir.specs.declared.constant.Const.{the_lemmas, Const}
use Rattle.no_ir.specs.declared.types.Ty.{out-Ty}
use Rattle.no_semantics.specs.First.{constant_bytes, program_of}
use Rattle.no_layout.specs.Sizes.{type_size, type_stride}
use Rattle.no_image.specs.Fits.{elements_fit, fields_fit, init_fits}
use Rattle.std.proofs.Common.{map, subst, true}
use Rattle.no_image.proofs.Initial.{resolved_fit}
use Rattle.no_image.proofs.Emitted.{array_init, as_many, element_init, element_more, end_low, end_more, field_fits, field_init, field_more, fields_done, place_is, struct_init, type_is}
use Rattle.no_ir.specs.declared.function.Module.{Module}
use Rattle.no_semantics.specs.Indices.{resolved}
use Rattle.no_image.proofs.emit.+bytes.Goals as goal

pub emit-emit_text-requires-clause-fits : goal.emit-emit_text-requires-clause-fits
emit-emit_text-requires-clause-fits t c =
    resolved_fit c.module.result.now c.args.sound.now.layout c.args.sound.now.sizes c.args.t.now c.resolved.result.now c.module.ensures.sound c.resolved.ensures c.requires.fits

pub emit-emit_array-requires : goal.emit-emit_array-requires
emit-emit_array-requires t c =
    let m = c.args.sound.now.«module» in
    let l = c.args.sound.now.layout in
    let sizes = c.args.sound.now.sizes in
    let u = c.resolved-in-Array.result.now in
    let is : u ≡ resolved m.types c.args.t.now = c.resolved-in-Array.ensures ∙ ap (λ (n : Module). resolved n.types c.args.t.now) c.module-in-Array.ensures.value in
    let init = array_init m l sizes c.args.c.now c.in-Array.elements c.args.t.now u is c.requires.init c.in-Array.is in (
      search (rules, the_lemmas),
      (
        c.requires.addresses,
        (
          resolved_fit c.module-in-Array.result.now l sizes c.args.t.now u c.module-in-Array.ensures.sound c.resolved-in-Array.ensures c.requires.fits,
          subst (λ (cs : List Const). elements_fit (out-Ty u) (map (init_fits m l sizes) cs) ≡ true) (sym c.as_slice-in-Array.ensures) init,
        ),
      ),
    )

pub emit-emit_struct-requires : goal.emit-emit_struct-requires
emit-emit_struct-requires t c =
    let m = c.args.sound.now.«module» in
    let l = c.args.sound.now.layout in
    let sizes = c.args.sound.now.sizes in
    let u = c.resolved-in-Struct.result.now in
    let is : u ≡ resolved m.types c.args.t.now = c.resolved-in-Struct.ensures ∙ ap (λ (n : Module). resolved n.types c.args.t.now) c.module-in-Struct.ensures.value in
    let init = struct_init m l sizes c.args.c.now c.in-Struct.fields c.args.t.now u is c.requires.init c.in-Struct.is in (
      search (rules, the_lemmas),
      (
        c.requires.addresses,
        (
          resolved_fit c.module-in-Struct.result.now l sizes c.args.t.now u c.module-in-Struct.ensures.sound c.resolved-in-Struct.ensures c.requires.fits,
          subst (λ (cs : List Const). fields_fit (out-Ty u) (map (init_fits m l sizes) cs) ≡ true) (sym c.as_slice-in-Struct.ensures) init,
        ),
      ),
    )

pub emit_elements-emit-requires : goal.emit_elements-emit-requires
emit_elements-emit-requires t c =
    let fit = init_fits c.args.sound.now.«module» c.args.sound.now.layout c.args.sound.now.sizes in (
      search (rules, the_lemmas),
      (
        c.requires.addresses,
        (
          c.requires.fits,
          element_init fit c.args.t.now c.args.elements.now c.loop-element.element-index c.element-item.result c.requires.init c.loop-element-test.true c.element-item.is,
        ),
      ),
    )

pub emit_elements-loop-element-preserved : goal.emit_elements-loop-element-preserved
emit_elements-loop-element-preserved t c =
    let l = c.args.sound.now.layout in
    let sizes = c.args.sound.now.sizes in
    let stride : c.stride-stride.result ≡ type_stride l sizes c.args.t.now = c.stride-stride.ensures.stride ∙ rw (c.layout.ensures.value, c.sizes.ensures) refl in
    element_more (constant_bytes (program_of c.args.sound.now)) c.args.t.now (type_stride l sizes c.args.t.now) _ c.loop-element.out.items c.emit.new.out.items c.pad.new.out.items
    c.args.elements.now c.loop-element.element-index (c.len.result + c.stride-stride.result) c.element-item.result c.loop-element.invariant c.loop-element-test.true c.element-item.is
    (ap (λ (n : ℕ). n + c.stride-stride.result) (c.len.ensures ∙ c.loop-element.out.ok.0) ∙ ap (λ (s : ℕ). length c.loop-element.out.items + s) stride) c.in_ok-emit.ensures c.in_ok-pad.ensures

pub emit_fields-bounds-types-k : goal.emit_fields-bounds-types-k
emit_fields-bounds-types-k t c =
    let many = as_many (init_fits c.args.sound.now.«module» c.args.sound.now.layout c.args.sound.now.sizes) c.args.types.now c.args.fields.now c.requires.init in
    omega (arith, many, c.loop-k-test.true)

pub emit_fields-emit_field-requires : goal.emit_fields-emit_field-requires
emit_fields-emit_field-requires t c =
    let m = c.args.sound.now.«module» in
    let l = c.args.sound.now.layout in
    let sizes = c.args.sound.now.sizes in
    let k = c.loop-k.k in
    let many = as_many (init_fits m l sizes) c.args.types.now c.args.fields.now c.requires.init in
    let lt : k < length c.args.types.now = omega (arith, many, c.loop-k-test.true) in
    let wrote = c.loop-k.invariant.wrote in
    let base : c.len-base.result ≡ length c.args.out.now.items = c.len-base.ensures ∙ c.args.out.now.ok.0 in
    let long : length c.loop-k.out.items ≡ length c.args.out.now.items + length wrote.0 = ap length wrote.1 ∙ length-append c.args.out.now.items wrote.0 in (
      search (rules, the_lemmas),
      (
        c.requires.addresses,
        (
          field_fits l sizes c.args.t.now c.args.packed c.args.types.now c.requires.shape k c.index-types-k.result lt c.index-types-k.is c.requires.fits,
          (
            field_init (init_fits m l sizes) c.args.types.now c.args.fields.now k c.index-fields-k.result c.index-types-k.result c.requires.init c.loop-k-test.true c.index-fields-k.is c.index-types-k.is,
            (
              end_low l sizes c.args.t.now c.args.packed c.args.types.now c.requires.shape k c.index-types-k.result lt c.index-types-k.is c.loop-k.end c.requires.fits c.loop-k.invariant.end,
              omega (arith, long, base),
            ),
          ),
        ),
      ),
    )

pub emit_fields-loop-k-preserved : goal.emit_fields-loop-k-preserved
emit_fields-loop-k-preserved t c =
    let m = c.args.sound.now.«module» in
    let l = c.args.sound.now.layout in
    let sizes = c.args.sound.now.sizes in
    let p = program_of c.args.sound.now in
    let k = c.loop-k.k in
    let u = c.index-types-k.result in
    let many = as_many (init_fits m l sizes) c.args.types.now c.args.fields.now c.requires.init in
    let lt : k < length c.args.types.now = omega (arith, many, c.loop-k-test.true) in
    let wrote = c.loop-k.invariant.wrote in
    record {
      end = end_more l sizes c.args.t.now c.args.packed c.args.types.now c.requires.shape k u lt c.index-types-k.is c.loop-k.end c.in_ok-end.end c.loop-k.invariant.end c.in_ok-end.ensures.end;
      wrote = field_more p c.args.t.now _ c.loop-k.out.items c.emit_field.new.out.items c.args.out.now.items wrote.0 c.args.fields.now k c.len-base.result _ c.index-fields-k.result u
          wrote.2 wrote.1 (c.len-base.ensures ∙ c.args.out.now.ok.0) c.loop-k-test.true c.index-fields-k.is
          (place_is l sizes c.args.t.now c.args.packed c.args.types.now c.requires.shape k u lt c.index-types-k.is c.loop-k.end c.loop-k.invariant.end)
          (type_is l sizes c.args.t.now c.args.packed c.args.types.now c.requires.shape k u lt c.index-types-k.is) c.in_ok-end.ensures.bytes;
    }

pub emit_fields-returns : goal.emit_fields-returns
emit_fields-returns t c =
    let wrote = c.loop-k.invariant.wrote in
    let size : c.size.result ≡ type_size c.args.sound.now.layout c.args.sound.now.sizes c.args.t.now = c.size.ensures.size ∙ rw (c.layout.ensures.value, c.sizes.ensures) refl in
    fields_done (program_of c.args.sound.now) c.args.t.now _ c.loop-k.out.items c.pad.new.out.items c.args.out.now.items wrote.0 c.args.fields.now c.loop-k.k c.len-base.result wrote.2 wrote.1 (c.len-base.ensures ∙ c.args.out.now.ok.0)
    c.loop-k-test.false (c.in_ok-pad.ensures ∙ ap (λ (n : ℕ). c.loop-k.out.items ++ replicate (c.len-base.result + n - length c.loop-k.out.items) 0) size)
