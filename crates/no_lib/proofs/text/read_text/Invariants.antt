use Rattle.std.proofs.Common.{◌≡◌, ◌-◌, ◌≤◌, length}
use Rattle.no_layout.specs.Memory.{read_bytes}
use Rattle.no_lib.specs.Text.{Reading}
use Rattle.no_lib.proofs.text.read_text.Given as goal

-- the bytes so far
abbrev pub invariant-loop-text : goal.invariant-loop-text
invariant-loop-text g l = record {
  within : length l.text.items ≤ l.room;
  read : Reading (g.M.Memory.held l.mem) (g.M.Memory.byte l.mem) l.at (length l.text.items);
  same : l.text.items ≡ read_bytes (g.M.Memory.byte l.mem) l.at (length l.text.items);
}

abbrev pub decreases-loop-text : goal.decreases-loop-text
decreases-loop-text g l = l.room - length l.text.items
