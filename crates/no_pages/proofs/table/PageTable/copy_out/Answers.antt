use Rattle.std.proofs.Common.{arith}
use Rattle.no_pages.specs.Table.{byte_of}
use Rattle.no_pages.proofs.Joins.{read_next}
use Rattle.no_pages.proofs.table.PageTable.copy_out.Goals as goal

pub loop-done-preserved : goal.loop-done-preserved
loop-done-preserved c = record {
  within = omega arith;
  read = read_next (byte_of c.args.self.now) c.args.addr c.loop-done.done c.min-count.result c.loop-done.into c.get_in_page.new.into (omega arith) c.loop-done.invariant.read c.get_in_page.ensures;
}
