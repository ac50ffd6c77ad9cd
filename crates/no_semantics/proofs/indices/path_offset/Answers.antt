use Rattle.std.proofs.Common.{◌≡◌, ◌+◌, ◌*◌, ◌%◌, ◌^◌, ℕ, ℤ, List, map, drop, refl, sym, ap, ◌∙◌}
use Rattle.no_eval.specs.Numbers.{modulo}
use Rattle.no_layout.specs.Sizes.{type_stride}
use Rattle.no_semantics.specs.Indices.{inner_offset, path_offset}
use Rattle.no_semantics.proofs.Parts.{known_sum, next_index, whole_rest}
use Rattle.no_semantics.proofs.indices.path_offset.Goals as goal

pub returns-in-len1-up : goal.returns-in-len1-up
returns-in-len1-up c =
    let l = c.args.sound.now.layout in
    let sizes = c.args.sound.now.sizes in
    let types = c.args.sound.now.«module».types in
    let base = c.args.base.now in
    let inner = inner_offset l sizes types base (map (modulo l.pointer) (drop 1 c.args.indices.now)) in
    let left = next_index c.pointer_width.result l.pointer c.wrapped.result c.args.indices.now 0 c.in-len1-up.len_at_least c.pointer_width.ensures.value c.wrapped.ensures in
    let stride : c.stride.result ≡ type_stride l sizes base = c.stride.ensures.stride ∙ rw (c.layout.ensures.value, c.sizes.ensures) refl in
    c.with_first.ensures
    ∙ ap (λ (s : ℕ). (c.wrapped.result * s + c.inner_offset.result) % 2 ^ 64) stride
    ∙ known_sum (c.wrapped.result * type_stride l sizes base) c.inner_offset.result inner (c.inner_offset.ensures ∙ ap (λ (zs : List ℤ). inner_offset l sizes types base (map (modulo l.pointer) zs) % 2 ^ 64) (whole_rest c.args.indices.now))
    ∙ ap (λ (is : List ℕ). path_offset l sizes types base is % 2 ^ 64) (sym left)
