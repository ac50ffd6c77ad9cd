use Rattle.std.proofs.Common.{ℕ, ◌≤◌, ◌+◌, ◌-◌, List, length, take, drop, arith, length-take, length-drop}
use Rattle.no_ports.proofs.Adding.{adds_more}
use Rattle.no_ports.proofs.giving.give_all.Goals as goal

fits : (at len n : ℕ) (xs : List ℕ) → n ≤ length (take len (drop at xs)) → at ≤ length xs → (at + n ≤ length xs) × (n ≤ len)
fits at len n xs h k =
    (omega (arith, length-take len (drop at xs), length-drop at xs), omega (arith, length-take len (drop at xs)))

-- the piece that the sink took stands behind what was given before
pub loop-at-preserved : goal.loop-at-preserved
loop-at-preserved g c =
    let was = c.loop-at.invariant in
    let gave = c.in-Gave.ensures.gave in
    let at = c.loop-at.at in
    let len = c.loop-at.at + c.min.result - c.loop-at.at in
    let fit = fits at len c.in-Gave.n c.args.bytes.now gave.1 was.within in
    record {
      within = fit.0;
      given = adds_more _ _ _ c.args.bytes.now at len c.in-Gave.n fit.1 was.given gave.2;
      later = omega (arith, was.later, c.give.ensures.later);
    }
