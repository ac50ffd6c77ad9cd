use Rattle.std.proofs.Common.{◌≡◌, drop}
use Rattle.std.specs.List.{list_any}
use Rattle.no_filter.specs.Reasons.{block_volatile}
use Rattle.no_filter.proofs.reasons.is_volatile.Given as goal

abbrev pub invariant-loop-block : goal.invariant-loop-block
invariant-loop-block l = list_any (block_volatile l.program) l.function.blocks ≡ list_any (block_volatile l.program) (drop l.block-index l.block-items)
