use Rattle.std.proofs.Common.{◌∙◌, ◌+◌, ◌/◌, ◌<◌, ℕ, Bool, ap, arith}
use Rattle.no_pages.specs.Table.{byte_of, dirty_of}
use Rattle.no_pages.proofs.Joins.{set_next, mark_next}
use Rattle.no_pages.proofs.table.PageTable.set_in.Goals as goal

pub set_in_page-requires-clause-own : goal.set_in_page-requires-clause-own
set_in_page-requires-clause-own c = ap (λ (h : ℕ → Bool). h ((c.args.addr + c.loop-done.done) / 4096)) c.loop-done.invariant.own ∙ c.requires.own ((c.args.addr + c.loop-done.done) / 4096) (omega arith) (omega arith)

pub loop-done-preserved : goal.loop-done-preserved
loop-done-preserved c =
    let d = c.loop-done.done in
    let n = c.min-count.result in
    let some : 0 < n = omega arith in
    let same = c.loop-done.invariant in
    let fill = c.set_in_page.ensures in
    record {
      within = omega arith;
      bytes = set_next (byte_of c.args.self.now) (byte_of c.loop-done.self) (byte_of c.set_in_page.new.self) c.args.addr d n c.args.byte same.bytes fill.bytes;
      dirty = mark_next (dirty_of c.args.self.now) (dirty_of c.loop-done.self) (dirty_of c.set_in_page.new.self) c.args.addr d n same.dirty some fill.dirty;
      regions = fill.regions ∙ same.regions;
      held = fill.held ∙ same.held;
      own = fill.own ∙ same.own;
    }
