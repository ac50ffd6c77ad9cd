use Rattle.std.proofs.Common.{◌≡◌, ◌++◌, take}
use Rattle.std.specs.List.{flat_map}
use Rattle.no_verify_types.specs.Registers.{block_defined}
use Rattle.no_verify_types.proofs.registers.add_blocks.Given as goal

abbrev pub invariant-loop-block : goal.invariant-loop-block
invariant-loop-block l = l.all.items ≡ l.fn.all.items ++ flat_map block_defined (take l.block-index l.blocks)
