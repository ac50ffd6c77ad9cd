use Rattle.std.proofs.Common.{◌∙◌, ap, ℕ, Bool, true, arith}
use Rattle.no_layout.proofs.Accesses.{done_held}
use Rattle.no_layout.proofs.ranges.prepare_all.Goals as goal

pub prepare-requires : goal.prepare-requires
prepare-requires g c =
    let m = g.M.Memory in
    let old = c.args.memory.now in
    ap (λ (held : ℕ → Bool). held c.loop-page.page) c.loop-page.invariant.held
    ∙ done_held (m.regions old) (m.held old) true c.args.addr c.args.len c.requires.some c.requires.allowed c.loop-page.page (omega arith) (omega arith)
