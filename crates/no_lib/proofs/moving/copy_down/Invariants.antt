use Rattle.std.proofs.Common.{◌≡◌, ℕ, ◌+◌, ◌-◌, ◌≤◌, true, length}
use Rattle.no_layout.specs.Memory.{read_bytes, written}
use Rattle.no_lib.proofs.moving.copy_down.Given as goal

-- all but so many bytes stand where they belong
abbrev pub invariant-loop-left : goal.invariant-loop-left
invariant-loop-left g l =
    let byte = g.M.Memory.byte in
    record {
      within : l.left ≤ l.n;
      copied : byte l.mem ≡ written (byte l.fn.mem) (l.to + l.left) (read_bytes (byte l.fn.mem) (l.from + l.left) (l.n - l.left));
      kept : (p : ℕ) → g.M.Memory.own l.fn.mem p ≡ true → g.M.Memory.own l.mem p ≡ true;
      map : g.M.Memory.regions l.mem ≡ g.M.Memory.regions l.fn.mem;
      pages : g.M.Memory.held l.mem ≡ g.M.Memory.held l.fn.mem;
      room : length l.buffer ≡ 256;
    }

abbrev pub decreases-loop-left : goal.decreases-loop-left
decreases-loop-left g l = l.left
