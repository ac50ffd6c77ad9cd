use Rattle.std.proofs.Common.{◌≡◌, ◌+◌, ◌%◌, ◌^◌, true, drop, map}
use Rattle.no_eval.specs.Numbers.{modulo}
use Rattle.no_semantics.specs.Indices.{inner_leads, inner_offset}
use Rattle.no_semantics.specs.Sound.{type_fits}
use Rattle.no_code.proofs.constant.inner_offset.Given as goal

abbrev pub invariant-loop-index : goal.invariant-loop-index
invariant-loop-index l = record {
  fits : type_fits l.from.layout.now l.from.sizes.now l.at ≡ true;
  leads : inner_leads l.from.program.now.types l.at (map (modulo l.pointer) (drop l.index-index l.indices)) ≡ true;
  sum : (l.total + inner_offset l.from.layout.now l.from.sizes.now l.from.program.now.types l.at (map (modulo l.pointer) (drop l.index-index l.indices))) % 2 ^ 64
      ≡ inner_offset l.from.layout.now l.from.sizes.now l.from.program.now.types l.base (map (modulo l.pointer) l.indices) % 2 ^ 64;
}
