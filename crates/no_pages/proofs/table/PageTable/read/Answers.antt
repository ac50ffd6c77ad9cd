use Rattle.std.proofs.Common.{false, length, sym}
use Rattle.no_layout.proofs.Accesses.{done_held}
use Rattle.no_pages.specs.Table.{held_of, regions_of}
use Rattle.no_pages.proofs.table.PageTable.read.Goals as goal

pub copy_out-requires-clause-held : goal.copy_out-requires-clause-held
copy_out-requires-clause-held c = done_held (regions_of c.args.self.now) (held_of c.args.self.now) false c.args.addr (length c.args.into.now) c.requires (sym c.in-Done.ensures)
