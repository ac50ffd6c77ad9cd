use Rattle.std.proofs.Common.{◌≡◌, ℕ, ◌+◌, ◌-◌, ◌≤◌, length, take, drop, true, false, subst, ap, ◌∙◌, arith}
use Rattle.std.proofs.lemmas.List.{length-append, length-drop, length-take-le}
use Rattle.no_layout.specs.Memory.{AreFormed, access, read_bytes, written}
use Rattle.no_lib.proofs.Copied.{down_more}
use Rattle.no_lib.proofs.Ranges.{part_done}
use Rattle.no_lib.proofs.moving.copy_down.Goals as goal

pub copy_piece-requires-clause-source : goal.copy_piece-requires-clause-source
copy_piece-requires-clause-source g c =
    let i = c.loop-left.invariant in
    let size = c.piece-size.result in
    let len : length (take size c.loop-left.buffer) ≡ size = length-take-le size c.loop-left.buffer (omega (arith, i.room, c.piece-size.ensures)) in
    ap (access (g.M.Memory.regions c.loop-left.mem) (g.M.Memory.held c.loop-left.mem) false (c.args.from + (c.loop-left.left - size))) len
    ∙ part_done (g.M.Memory.regions c.args.mem.now) (g.M.Memory.regions c.loop-left.mem) (g.M.Memory.held c.args.mem.now) (g.M.Memory.held c.loop-left.mem) false c.args.from c.args.n (c.args.from + (c.loop-left.left - size)) size
    (subst AreFormed c.regions-regions.ensures.regions c.regions-regions.ensures.formed) i.map i.pages (omega (arith, c.piece-size.ensures, c.loop-left-test.true)) (omega arith) (omega (arith, c.piece-size.ensures, c.loop-left-test.true, i.within)) c.requires.source

pub copy_piece-requires-clause-target : goal.copy_piece-requires-clause-target
copy_piece-requires-clause-target g c =
    let i = c.loop-left.invariant in
    let size = c.piece-size.result in
    let len : length (take size c.loop-left.buffer) ≡ size = length-take-le size c.loop-left.buffer (omega (arith, i.room, c.piece-size.ensures)) in
    ap (access (g.M.Memory.regions c.loop-left.mem) (g.M.Memory.held c.loop-left.mem) true (c.args.to + (c.loop-left.left - size))) len
    ∙ part_done (g.M.Memory.regions c.args.mem.now) (g.M.Memory.regions c.loop-left.mem) (g.M.Memory.held c.args.mem.now) (g.M.Memory.held c.loop-left.mem) true c.args.to c.args.n (c.args.to + (c.loop-left.left - size)) size
    (subst AreFormed c.regions-regions.ensures.regions c.regions-regions.ensures.formed) i.map i.pages (omega (arith, c.piece-size.ensures, c.loop-left-test.true)) (omega arith) (omega (arith, c.piece-size.ensures, c.loop-left-test.true, i.within)) c.requires.target

pub loop-left-preserved : goal.loop-left-preserved
loop-left-preserved g c =
    let i = c.loop-left.invariant in
    let size = c.piece-size.result in
    let less = c.loop-left.left - size in
    let to = c.args.to + less in
    let from = c.args.from + less in
    let b = g.M.Memory.byte c.loop-left.mem in
    let f = g.M.Memory.byte c.args.mem.now in
    let len : length (take size c.loop-left.buffer) ≡ size = length-take-le size c.loop-left.buffer (omega (arith, i.room, c.piece-size.ensures)) in
    let whole : c.loop-left.left ≡ less + size = omega (arith, c.piece-size.ensures, c.loop-left-test.true) in
    let rest : size + (c.args.n - c.loop-left.left) ≡ c.args.n - less = omega (arith, c.piece-size.ensures, c.loop-left-test.true, i.within) in
    record {
      within = omega (arith, i.within);
      copied = c.copy_piece.ensures.bytes ∙ ap (λ (k : ℕ). written b to (read_bytes b from k)) len
          ∙ ap (λ (h : ℕ → ℕ). written h to (read_bytes h from size)) (i.copied ∙ ap (λ (k : ℕ). written f (c.args.to + k) (read_bytes f (c.args.from + k) (c.args.n - c.loop-left.left))) whole)
          ∙ down_more f c.args.to c.args.from less size (c.args.n - c.loop-left.left) c.requires.order
          ∙ ap (λ (k : ℕ). written f to (read_bytes f from k)) rest;
      kept = λ p h. c.copy_piece.ensures.kept p (i.kept p h);
      map = c.copy_piece.ensures.regions ∙ i.map;
      pages = c.copy_piece.ensures.held ∙ i.pages;
      room = let kept = c.copy_piece.auto.into in omega (arith, length-append c.copy_piece.new.into (drop size c.loop-left.buffer), length-drop size c.loop-left.buffer, kept, len, i.room, c.piece-size.ensures);
    }
