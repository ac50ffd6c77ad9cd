use Rattle.std.proofs.Common.{◌≡◌, ◌≤◌, ◌-◌, length, replicate}
use Rattle.no_read_types.proofs.queue.zeros.Given as goal

abbrev pub invariant-loop-all : goal.invariant-loop-all
invariant-loop-all l = record { within : length l.all.items ≤ l.count; same : l.all.items ≡ replicate (length l.all.items) 0 }

abbrev pub decreases-loop-all : goal.decreases-loop-all
decreases-loop-all l = l.count - length l.all.items
