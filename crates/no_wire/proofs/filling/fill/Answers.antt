use Rattle.std.proofs.Common.{◌≤◌, length, sym, arith}
use Rattle.std.proofs.lemmas.List.{take-append-drop}
use Rattle.no_wire.specs.Fronts.{IsWhole}
use Rattle.no_wire.proofs.Streaming.{filled_whole, moved_on}
use Rattle.no_wire.proofs.filling.fill.Goals as goal

pub returns-in-Whole-clause-filled : goal.returns-in-Whole-clause-filled
returns-in-Whole-clause-filled c =
    let seen = rw c.as_slice-in-loop-left.ensures.value at c.in-Whole.ensures in
    let after = c.in_ok-extend_from_slice.ensures.items in
    let len = c.split_at.ensures.front_len in
    let least = c.min-count.ensures in
    let missing = rw c.as_slice.ensures.value at c.missing.ensures in
    let whole : IsWhole c.in-Whole.kind c.extend_from_slice.new.self.items =
    filled_whole c.loop-left.rest.items c.split_at.result.0.now c.extend_from_slice.new.self.items c.missing.result c.in-Whole.len c.in-Whole.kind after
    (omega (arith, len, least)) missing seen.0 seen.1 seen.2 in
    let long : 9 ≤ length c.extend_from_slice.new.self.items = omega (arith, seen.0, seen.1) in
    (moved_on c.loop-left.rest.items c.split_at.result.0.now c.split_at.result.1.now c.loop-left.left.now _ _ after (rw (c.split_at.ensures.front, c.split_at.ensures.back) (sym (take-append-drop c.min-count.result c.loop-left.left.now))) c.loop-left.invariant.same, (long, whole))
