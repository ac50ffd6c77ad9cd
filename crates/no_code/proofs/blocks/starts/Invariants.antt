use Rattle.no_code.proofs.Tables.{Begun}
use Rattle.no_code.proofs.blocks.starts.Given as goal

abbrev pub invariant-loop-block : goal.invariant-loop-block
invariant-loop-block l = Begun l.block-items l.base l.table l.at l.block-index
