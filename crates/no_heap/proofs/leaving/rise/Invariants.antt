use Rattle.std.proofs.Common.{◌≡◌, drop}
use Rattle.no_heap.specs.Changes.{rises_from}
use Rattle.no_heap.proofs.leaving.rise.Given as goal

-- the rest of the entries rises as all of them do
abbrev pub invariant-loop-entry : goal.invariant-loop-entry
invariant-loop-entry l = rises_from l.low (drop l.entry-index l.entries) ≡ rises_from 0 l.entries
