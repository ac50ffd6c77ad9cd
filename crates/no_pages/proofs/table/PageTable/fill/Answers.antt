use Rattle.std.proofs.Common.{◌∙◌, ◌+◌, ◌-◌, ◌/◌, ◌≤◌, ℕ, Bool, length, take, drop, ap, arith}
use Rattle.no_layout.specs.Memory.{written}
use Rattle.no_pages.specs.Table.{byte_of}
use Rattle.no_pages.proofs.Joins.{write_next}
use Rattle.no_pages.proofs.table.PageTable.fill.Goals as goal

pub take_own-requires : goal.take_own-requires
take_own-requires c =
    let at = c.from.ensures in
    ap (λ (h : ℕ → Bool). h ((c.from.result + c.loop-done.done) / 4096)) c.loop-done.invariant.held ∙ c.requires ((c.from.result + c.loop-done.done) / 4096) (omega (arith, at)) (omega (arith, at))

pub loop-done-preserved : goal.loop-done-preserved
loop-done-preserved c =
    let d = c.loop-done.done in
    let n = c.min-count.result in
    let bs = c.args.bytes.now in
    let fits : d + n ≤ length bs = omega arith in
    let same = c.loop-done.invariant in
    let own = c.in_ok-take_own.ensures in
    let lay = c.lay_in_page.ensures in
    record {
      within = omega arith;
      bytes = write_next (byte_of c.args.self.now) (byte_of c.loop-done.self) (byte_of c.lay_in_page.new.self) c.args.addr d n bs fits same.bytes (lay.bytes ∙ (λ j. written (own.bytes j) (c.from.ensures j + d) (take (d + n - d) (drop d bs))));
      kept = λ p h. ap (λ (f : ℕ → Bool). f p) lay.own ∙ own.kept p (same.kept p h);
      dirty = lay.dirty ∙ own.dirty ∙ same.dirty;
      regions = lay.regions ∙ own.regions ∙ same.regions;
      held = lay.held ∙ own.held ∙ same.held;
    }
