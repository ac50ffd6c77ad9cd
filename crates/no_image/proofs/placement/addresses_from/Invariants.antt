use Rattle.std.proofs.Common.{◌≡◌, ◌++◌, take, drop, true, false}
use Rattle.no_layout.specs.Memory.{constants_start}
use Rattle.no_semantics.specs.Image.{end_of, addresses_of, addresses_behind}
use Rattle.no_image.proofs.placement.addresses_from.Given as goal

abbrev pub invariant-loop-global : goal.invariant-loop-global
invariant-loop-global l = record {
  constants : l.constants ≡ end_of l.layout l.sizes true constants_start (take l.global-index l.globals);
  writable : l.writable ≡ end_of l.layout l.sizes false l.start (take l.global-index l.globals);
  listed : addresses_of l.layout l.sizes l.globals ≡ l.all ++ addresses_behind l.layout l.sizes l.globals (take l.global-index l.globals) (drop l.global-index l.globals);
}
