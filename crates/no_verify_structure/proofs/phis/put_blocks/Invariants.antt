use Rattle.std.proofs.Common.{take, ◌≡◌}
use Rattle.std.specs.List.{fold}
use Rattle.no_verify_structure.specs.Edges.{with_exits}
use Rattle.no_verify_structure.proofs.phis.put_blocks.Given as goal

abbrev pub invariant-loop-block : goal.invariant-loop-block
invariant-loop-block l = l.table ≡ fold with_exits l.fn.table (take l.block-index l.blocks)
