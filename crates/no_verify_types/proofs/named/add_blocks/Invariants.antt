use Rattle.std.proofs.Common.{◌≡◌, ◌++◌, take}
use Rattle.std.specs.List.{flat_map}
use Rattle.no_verify_types.specs.Named.{block_names}
use Rattle.no_verify_types.proofs.named.add_blocks.Given as goal

abbrev pub invariant-loop-block : goal.invariant-loop-block
invariant-loop-block l = l.names.items ≡ l.fn.names.items ++ flat_map block_names (take l.block-index l.blocks)
