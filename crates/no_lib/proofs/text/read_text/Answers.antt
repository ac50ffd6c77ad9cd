use Rattle.std.proofs.Common.{◌≡◌, ℕ, ◌+◌, length, arith, sym}
use Rattle.no_lib.proofs.Spelled.{reading_pushed}
use Rattle.no_lib.proofs.text.read_text.Goals as goal

pub loop-text-preserved : goal.loop-text-preserved
loop-text-preserved g c =
    let i = c.loop-text.invariant in
    let len : c.len-in-loop-text.result ≡ length c.loop-text.text.items = omega (arith, c.len-in-loop-text.ensures) in
    reading_pushed (g.M.Memory.regions c.args.mem.now) (g.M.Memory.held c.args.mem.now) (g.M.Memory.byte c.args.mem.now) c.args.at c.args.room (c.args.at + c.len-in-loop-text.result) c.byte_at-byte.result c.loop-text.text.items c.push.new.self.items
    (omega (arith, len)) (omega (arith, c.loop-text-test.true, c.len.ensures)) i.read i.same (sym c.in-Done.ensures) c.byte_at-byte.ensures c.if-byte-eq0.false c.in-Ok.ensures.items
