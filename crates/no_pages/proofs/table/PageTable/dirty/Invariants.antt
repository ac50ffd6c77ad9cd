use Rattle.std.proofs.Common.{◌≡◌}
use Rattle.no_pages.specs.Made.{listed}
use Rattle.no_pages.specs.Table.{dirty_of}
use Rattle.no_pages.proofs.table.PageTable.dirty.Given as goal

abbrev pub invariant-loop-page : goal.invariant-loop-page
invariant-loop-page l = l.pages.items ≡ listed (dirty_of l.self) l.page
