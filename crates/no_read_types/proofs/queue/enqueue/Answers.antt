use Rattle.std.proofs.Common.{◌≡◌, ℕ, List, take, true, false, Some, sym, ap, ◌∙◌, arith}
use Rattle.std.specs.List.{find, list_any}
use Rattle.std.specs.BTreeSet.{contains}
use Rattle.std.specs.Ordering.{nat_cmp}
use Rattle.no_read_types.specs.Graph.{is_set, references_at}
use Rattle.no_read_types.proofs.FlagLaws.{is_set_within}
use Rattle.no_read_types.proofs.QueueLaws.{find_passes, watched_queue}
use Rattle.no_read_types.proofs.queue.enqueue.Goals as goal

pub watch-requires : goal.watch-requires
watch-requires c =
    let waits = c.args.waits.now in
    let found : find (is_set waits) c.references_at.result.now ≡ Some c.in-Some.watched = sym c.advance-place.ensures.found ∙ c.in-Some.is in
    let lt = is_set_within waits c.in-Some.watched (find_passes (is_set waits) c.references_at.result.now c.in-Some.watched found) in
    omega (arith, lt, c.requires.long, c.requires.queue.1.long)

pub returns-in_ok-watch-in-Some : goal.returns-in_ok-watch-in-Some
returns-in_ok-watch-in-Some c =
    let graph = c.args.graph.now in
    let waits = c.args.waits.now in
    let queue = c.args.queue.now in
    let place = c.advance-place.result.0 in
    let here : is_set waits c.args.n ≡ true = sym c.if-not-is_set.ensures in
    let refs : c.references_at.result.now ≡ references_at graph c.args.n = c.references_at.ensures in
    let found : find (is_set waits) (references_at graph c.args.n) ≡ Some c.in-Some.watched = ap (find (is_set waits)) (sym refs) ∙ sym c.advance-place.ensures.found ∙ c.in-Some.is in
    let clear : list_any (is_set waits) (take place (references_at graph c.args.n)) ≡ false = ap (λ (xs : List ℕ). list_any (is_set waits) (take place xs)) (sym refs) ∙ c.advance-place.ensures.place in
    λ left is. rw c.in_ok-watch-in-Some.ensures (watched_queue graph waits c.requires.long (contains nat_cmp queue.ready) queue.watchers queue.places.items c.args.n left is c.in-Some.watched place here clear found)
