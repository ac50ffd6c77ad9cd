use Rattle.std.proofs.Common.{◌≡◌, ◌+◌, [], ◌∷◌, ◌++◌, length, ap, ◌∙◌, arith}
use Rattle.std.proofs.lemmas.List.{length-append, nil_from_length}
use Rattle.no_read_types.specs.Graph.{marked, fresh, count_clear}
use Rattle.no_read_types.proofs.CircleLaws.{search_starts, search_goes, search_ends, fresh_count}
use Rattle.no_read_types.proofs.circle.is_on_circle.Goals as goal

pub loop-seen-init : goal.loop-seen-init
loop-seen-init c =
    rw (c.in_ok-mark.ensures.seen, c.in_ok-mark.ensures.todo, c.new-todo.ensures.items, c.references_at.ensures) (search_starts c.args.graph.now c.args.start c.in_ok-seen.seen.items c.in_ok-seen.ensures)

pub loop-seen-smaller : goal.loop-seen-smaller
loop-seen-smaller c =
    let seen = c.loop-seen.seen.items in
    let refs = c.references_at-in-Some.result.now in
    let front = c.pop.new.self.items in
    let f : count_clear (marked seen refs) + length (fresh seen refs) ≡ count_clear seen = fresh_count seen refs in
    let l = length-append front (fresh seen refs) in
    let p : length c.loop-seen.todo.items ≡ length front + 1 = ap length c.in-Some.ensures.items ∙ length-append front (c.in-Some.n ∷ []) in
    let a : count_clear c.mark-in-Some.new.seen.items ≡ count_clear (marked seen refs) = ap count_clear c.in_ok-mark-in-Some.ensures.seen in
    let b : length c.mark-in-Some.new.todo.items ≡ length (front ++ fresh seen refs) = ap length c.in_ok-mark-in-Some.ensures.todo in
    omega arith

pub loop-seen-preserved : goal.loop-seen-preserved
loop-seen-preserved c =
    rw (c.in_ok-mark-in-Some.ensures.seen, c.in_ok-mark-in-Some.ensures.todo, c.references_at-in-Some.ensures) (search_goes c.args.graph.now c.args.start c.loop-seen.seen.items c.loop-seen.todo.items c.pop.new.self.items c.in-Some.n c.in-Some.ensures.items c.loop-seen.invariant)

pub returns-in-None : goal.returns-in-None
returns-in-None c =
    let none : c.loop-seen.todo.items ≡ [] = nil_from_length c.loop-seen.todo.items (let k = c.in-None.ensures.cases in omega (arith, k.0)) in
    search_ends c.args.graph.now c.args.start c.loop-seen.seen.items c.is_set.result (rw none at c.loop-seen.invariant) (rw c.deref.ensures.value at c.is_set.ensures)
