use Rattle.std.proofs.Common.{◌≡◌, length}
use Rattle.no_code.proofs.Tables.{Noted}
use Rattle.no_code.proofs.blocks.labels.Given as goal

abbrev pub invariant-loop-k : goal.invariant-loop-k
invariant-loop-k l = record {
  same : l.blocks ≡ l.g.blocks;
  noted : Noted (length l.g.labels) l.blocks l.table l.k;
}

abbrev pub decreases-loop-k : goal.decreases-loop-k
decreases-loop-k l = l.k
