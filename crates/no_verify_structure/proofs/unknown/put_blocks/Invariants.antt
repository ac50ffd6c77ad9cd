use Rattle.std.proofs.Common.{take, ℕ, ◌||◌, ◌≡◌}
use Rattle.std.specs.List.{flat_map}
use Rattle.no_verify_structure.specs.Names.{block_registers, is_in}
use Rattle.no_verify_structure.proofs.unknown.put_blocks.Given as goal

abbrev pub invariant-loop-block : goal.invariant-loop-block
invariant-loop-block l = (r : ℕ) → is_in l.registers r ≡ (is_in l.fn.registers r || is_in (flat_map block_registers (take l.block-index l.blocks)) r)
