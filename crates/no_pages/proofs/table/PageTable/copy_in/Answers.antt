use Rattle.std.proofs.Common.{◌∙◌, ◌+◌, ◌/◌, ◌<◌, ◌≤◌, ℕ, Bool, length, ap, arith}
use Rattle.no_layout.specs.Numbers.{marked}
use Rattle.no_pages.specs.Table.{byte_of, dirty_of}
use Rattle.no_pages.proofs.Joins.{mark_next, piece_length, write_next}
use Rattle.no_pages.proofs.table.PageTable.copy_in.Goals as goal

pub put_in_page-requires-clause-own : goal.put_in_page-requires-clause-own
put_in_page-requires-clause-own c = ap (λ (h : ℕ → Bool). h ((c.args.addr + c.loop-done.done) / 4096)) c.loop-done.invariant.own ∙ c.requires.own ((c.args.addr + c.loop-done.done) / 4096) (omega arith) (omega arith)

pub loop-done-preserved : goal.loop-done-preserved
loop-done-preserved c =
    let d = c.loop-done.done in
    let n = c.min-count.result in
    let bs = c.args.bytes.now in
    let fits : d + n ≤ length bs = omega arith in
    let some : 0 < n = omega arith in
    let same = c.loop-done.invariant in
    let put = c.put_in_page.ensures in
    record {
      within = omega arith;
      bytes = write_next (byte_of c.args.self.now) (byte_of c.loop-done.self) (byte_of c.put_in_page.new.self) c.args.addr d n bs fits same.bytes put.bytes;
      dirty = mark_next (dirty_of c.args.self.now) (dirty_of c.loop-done.self) (dirty_of c.put_in_page.new.self) c.args.addr d n same.dirty some (put.dirty ∙ ap (marked (dirty_of c.loop-done.self) (c.args.addr + d)) (piece_length d n bs fits));
      regions = put.regions ∙ same.regions;
      held = put.held ∙ same.held;
      own = put.own ∙ same.own;
    }
