use Rattle.std.proofs.Common.{◌≡◌, ◌++◌, [], ℕ, List, take, drop, map}
use Rattle.no_ir.specs.declared.types.Ty.{Ty}
use Rattle.no_layout.specs.Sizes.{fields_of, measure_of, type_stride}
use Rattle.no_semantics.specs.First.{constant_bytes, elements_bytes, fields_bytes, program_of}
use Rattle.no_image.proofs.emit.+bytes.Given as goal

abbrev pub invariant-emit_elements-loop-element : goal.invariant-emit_elements-loop-element
invariant-emit_elements-loop-element l =
    l.fn.out.items ++ elements_bytes (type_stride l.sound.layout l.sound.sizes l.t) (map (λ (f : Ty → List ℕ). f l.t) (map (constant_bytes (program_of l.sound)) l.elements))
    ≡ l.out.items ++ elements_bytes (type_stride l.sound.layout l.sound.sizes l.t) (map (λ (f : Ty → List ℕ). f l.t) (map (constant_bytes (program_of l.sound)) (drop l.element-index l.elements)))

abbrev pub invariant-emit_fields-loop-k : goal.invariant-emit_fields-loop-k
invariant-emit_fields-loop-k l = record {
  end : l.end ≡ (fields_of l.packed (map (measure_of l.sound.layout l.sound.sizes) (take l.k l.types))).size;
  wrote : (before : List ℕ) × (l.out.items ≡ l.fn.out.items ++ before)
      × (fields_bytes (program_of l.sound) l.t 0 [] (map (constant_bytes (program_of l.sound)) l.fields) ≡ fields_bytes (program_of l.sound) l.t l.k before (map (constant_bytes (program_of l.sound)) (drop l.k l.fields)));
}
