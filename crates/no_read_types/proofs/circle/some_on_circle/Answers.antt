use Rattle.std.proofs.Common.{◌≡◌, false, Some, None, sym, arith}
use Rattle.std.specs.List.{find}
use Rattle.no_read_types.specs.Graph.{is_set, references_at}
use Rattle.no_read_types.proofs.FlagLaws.{clear_is, clear_falls}
use Rattle.no_read_types.proofs.CircleLaws.{walk_never_ends, walk_within, walk_goes}
use Rattle.no_read_types.proofs.circle.some_on_circle.Goals as goal

pub loop-visited-smaller : goal.loop-visited-smaller
loop-visited-smaller c =
    let visited = c.loop-visited.visited.items in
    let e : false ≡ is_set visited c.loop-visited.n = rw c.deref.ensures.value at c.loop-visited-test.ensures in
    let w = walk_within c.args.graph.now c.args.waits.now c.requires.long c.requires.stuck visited c.loop-visited.n c.loop-visited.invariant in
    let f = clear_falls visited c.loop-visited.n (clear_is visited c.loop-visited.n w (sym e)) in
    omega arith

pub loop-visited-preserved : goal.loop-visited-preserved
loop-visited-preserved c =
    let e : Some c.in-Some.next ≡ find (is_set c.args.waits.now) (references_at c.args.graph.now c.loop-visited.n) = rw c.references_at.ensures at c.in-Some.ensures in
    walk_goes c.args.graph.now c.args.waits.now c.requires.long c.requires.stuck c.loop-visited.visited.items c.loop-visited.n c.in-Some.next c.loop-visited.invariant e

pub returns-in-None : goal.returns-in-None
returns-in-None c =
    let e : None ≡ find (is_set c.args.waits.now) (references_at c.args.graph.now c.loop-visited.n) = rw c.references_at.ensures at c.in-None.ensures in
    absurd (walk_never_ends c.args.graph.now c.args.waits.now c.requires.long c.requires.stuck c.loop-visited.n c.loop-visited.invariant.here e)
