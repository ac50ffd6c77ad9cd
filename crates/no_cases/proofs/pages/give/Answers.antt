use Rattle.std.proofs.Common.{sym}
use Rattle.no_cases.proofs.Absent.{is_absent, is_inside}
use Rattle.no_pages.specs.Table.{held_of, regions_of}
use Rattle.no_cases.proofs.pages.give.Goals as goal

pub supply-requires-clause-absent : goal.supply-requires-clause-absent
supply-requires-clause-absent g c = is_absent (regions_of c.args.memory.now) (held_of c.args.memory.now) c.args.addr c.in-Missing.page (sym c.in-Missing.ensures)

pub supply-requires-clause-inside : goal.supply-requires-clause-inside
supply-requires-clause-inside g c = is_inside (regions_of c.args.memory.now) (held_of c.args.memory.now) c.args.addr c.in-Missing.page (sym c.in-Missing.ensures)
