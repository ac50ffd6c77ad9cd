use Rattle.no_pages.specs.Made.{AreFresh}
use Rattle.no_pages.proofs.table.PageTable.make.Given as goal

abbrev pub invariant-loop-page : goal.invariant-loop-page
invariant-loop-page l = AreFresh l.regions l.present l.page l.slots.items
