use Rattle.no_wire.proofs.Streaming.{filled_absorbed, read_absorbed}
use Rattle.no_wire.proofs.decoder.go_on.Goals as goal

pub returns-in-Not-clause-ok : goal.returns-in-Not-clause-ok
returns-in-Not-clause-ok c =
    let f = rw c.in-Not.is at c.in_ok-left.ensures.filled in
    rw c.new.ensures (filled_absorbed c.in-Not.tail c.args.rest.now.items c.args.piece.now c.fill.new.rest.items c.in_ok-left.left.now f.0 f.1)

pub returns-in_ok-fed-in-Whole-clause-ok : goal.returns-in_ok-fed-in-Whole-clause-ok
returns-in_ok-fed-in-Whole-clause-ok c =
    let f = c.in_ok-left.ensures.filled in
    let spells = rw c.as_slice.ensures.value at c.in_ok-read-in-Whole.ensures in
    let read = rw (c.in_ok-push-in-Whole.ensures.ok, c.new-out.ensures) at c.in_ok-fed-in-Whole.ensures.read in
    rw c.swap.ensures.x_after
    (read_absorbed c.in_ok-fed-in-Whole.fed.tail c.in_ok-read-in-Whole.field-0 c.args.rest.now.items c.args.piece.now c.fill.new.rest.items c.in_ok-left.left.now c.begin.new.kept.items c.in_ok-fed-in-Whole.fed.out spells f.0 read)
