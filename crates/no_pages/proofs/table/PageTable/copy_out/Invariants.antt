use Rattle.std.proofs.Common.{◌≡◌, ◌-◌, ◌≤◌, take}
use Rattle.no_layout.specs.Memory.{read_bytes}
use Rattle.no_pages.specs.Table.{byte_of}
use Rattle.no_pages.proofs.table.PageTable.copy_out.Given as goal

abbrev pub invariant-loop-done : goal.invariant-loop-done
invariant-loop-done l = record { within : l.done ≤ l.len; read : take l.done l.into ≡ read_bytes (byte_of l.self) l.addr l.done }

abbrev pub decreases-loop-done : goal.decreases-loop-done
decreases-loop-done l = l.len - l.done
