use Rattle.std.proofs.Common.{◌≡◌, ◌≤◌, ◌-◌, [], length, map, replicate}
use Rattle.no_read_types.proofs.watchers.Watchers.new.Given as goal

abbrev pub invariant-loop-lists : goal.invariant-loop-lists
invariant-loop-lists l = record { within : length l.lists.items ≤ l.count; same : map (λ v. v.items) l.lists.items ≡ replicate (length l.lists.items) [] }

abbrev pub decreases-loop-lists : goal.decreases-loop-lists
decreases-loop-lists l = l.count - length l.lists.items
