use Rattle.std.proofs.Common.{◌≡◌, ◌+◌, ◌%◌, ◌^◌, true, drop, map}
use Rattle.no_eval.specs.Numbers.{modulo}
use Rattle.no_semantics.specs.Indices.{inner_leads, inner_offset}
use Rattle.no_semantics.specs.Sound.{type_fits}
use Rattle.no_semantics.proofs.indices.inner_offset.Given as goal

abbrev pub invariant-loop-index : goal.invariant-loop-index
invariant-loop-index l = record {
  fits : type_fits l.sound.layout l.sound.sizes l.at ≡ true;
  leads : inner_leads l.sound.«module».types l.at (map (modulo l.sound.layout.pointer) (drop l.index-index l.indices)) ≡ true;
  sum : (l.total + inner_offset l.sound.layout l.sound.sizes l.sound.«module».types l.at (map (modulo l.sound.layout.pointer) (drop l.index-index l.indices))) % 2 ^ 64
      ≡ inner_offset l.sound.layout l.sound.sizes l.sound.«module».types l.base (map (modulo l.sound.layout.pointer) l.indices) % 2 ^ 64;
}
