use Rattle.std.proofs.Common.{◌≡◌, ◌-◌, ◌≤◌, ℕ, take, true}
use Rattle.no_layout.specs.Memory.{written}
use Rattle.no_pages.specs.Table.{byte_of, dirty_of, held_of, own_of, regions_of}
use Rattle.no_pages.proofs.table.PageTable.fill.Given as goal

abbrev pub invariant-loop-done : goal.invariant-loop-done
invariant-loop-done l = record {
  within : l.done ≤ l.len;
  bytes : byte_of l.self ≡ written (byte_of l.fn.self) l.addr (take l.done l.bytes);
  kept : (p : ℕ) → own_of l.fn.self p ≡ true → own_of l.self p ≡ true;
  dirty : dirty_of l.self ≡ dirty_of l.fn.self;
  regions : regions_of l.self ≡ regions_of l.fn.self;
  held : held_of l.self ≡ held_of l.fn.self;
}

abbrev pub decreases-loop-done : goal.decreases-loop-done
decreases-loop-done l = l.len - l.done
