use Rattle.std.proofs.Common.{◌≡◌, ℕ, ◌+◌, ◌≤◌, length, take, drop, true, false, subst, ap, ◌∙◌, arith}
use Rattle.std.proofs.lemmas.List.{length-append, length-drop, length-take-le}
use Rattle.no_layout.specs.Memory.{AreFormed, access, read_bytes, written}
use Rattle.no_lib.proofs.Copied.{up_more}
use Rattle.no_lib.proofs.Ranges.{part_done}
use Rattle.no_lib.proofs.moving.copy_up.Goals as goal

pub copy_piece-requires-clause-source : goal.copy_piece-requires-clause-source
copy_piece-requires-clause-source g c =
    let i = c.loop-done.invariant in
    let size = c.piece-size.result in
    let len : length (take size c.loop-done.buffer) ≡ size = length-take-le size c.loop-done.buffer (omega (arith, i.room, c.piece-size.ensures)) in
    ap (access (g.M.Memory.regions c.loop-done.mem) (g.M.Memory.held c.loop-done.mem) false (c.args.from + c.loop-done.done)) len
    ∙ part_done (g.M.Memory.regions c.args.mem.now) (g.M.Memory.regions c.loop-done.mem) (g.M.Memory.held c.args.mem.now) (g.M.Memory.held c.loop-done.mem) false c.args.from c.args.n (c.args.from + c.loop-done.done) size
    (subst AreFormed c.regions-regions.ensures.regions c.regions-regions.ensures.formed) i.map i.pages (omega (arith, c.piece-size.ensures, c.loop-done-test.true)) (omega arith) (omega (arith, c.piece-size.ensures, c.loop-done-test.true)) c.requires.source

pub copy_piece-requires-clause-target : goal.copy_piece-requires-clause-target
copy_piece-requires-clause-target g c =
    let i = c.loop-done.invariant in
    let size = c.piece-size.result in
    let len : length (take size c.loop-done.buffer) ≡ size = length-take-le size c.loop-done.buffer (omega (arith, i.room, c.piece-size.ensures)) in
    ap (access (g.M.Memory.regions c.loop-done.mem) (g.M.Memory.held c.loop-done.mem) true (c.args.to + c.loop-done.done)) len
    ∙ part_done (g.M.Memory.regions c.args.mem.now) (g.M.Memory.regions c.loop-done.mem) (g.M.Memory.held c.args.mem.now) (g.M.Memory.held c.loop-done.mem) true c.args.to c.args.n (c.args.to + c.loop-done.done) size
    (subst AreFormed c.regions-regions.ensures.regions c.regions-regions.ensures.formed) i.map i.pages (omega (arith, c.piece-size.ensures, c.loop-done-test.true)) (omega arith) (omega (arith, c.piece-size.ensures, c.loop-done-test.true)) c.requires.target

pub loop-done-preserved : goal.loop-done-preserved
loop-done-preserved g c =
    let i = c.loop-done.invariant in
    let size = c.piece-size.result in
    let to = c.args.to + c.loop-done.done in
    let from = c.args.from + c.loop-done.done in
    let b = g.M.Memory.byte c.loop-done.mem in
    let f = g.M.Memory.byte c.args.mem.now in
    let len : length (take size c.loop-done.buffer) ≡ size = length-take-le size c.loop-done.buffer (omega (arith, i.room, c.piece-size.ensures)) in
    record {
      within = omega (arith, c.piece-size.ensures, c.loop-done-test.true);
      copied = c.copy_piece.ensures.bytes ∙ ap (λ (k : ℕ). written b to (read_bytes b from k)) len ∙ ap (λ (h : ℕ → ℕ). written h to (read_bytes h from size)) i.copied ∙ up_more f c.args.to c.args.from c.loop-done.done size c.requires.order;
      kept = λ p h. c.copy_piece.ensures.kept p (i.kept p h);
      map = c.copy_piece.ensures.regions ∙ i.map;
      pages = c.copy_piece.ensures.held ∙ i.pages;
      room = let kept = c.copy_piece.auto.into in omega (arith, length-append c.copy_piece.new.into (drop size c.loop-done.buffer), length-drop size c.loop-done.buffer, kept, len, i.room, c.piece-size.ensures);
    }
