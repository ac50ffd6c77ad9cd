use Rattle.std.proofs.Common.{◌≡◌, ◌<◌, ℕ, List, [], ◌∷◌, ◌++◌, map, length, ap, ◌∙◌, arith}
use Rattle.std.proofs.lemmas.List.{length-map}
use Rattle.no_read_types.specs.Graph.{references_at}
use Rattle.no_read_types.proofs.WatcherLaws.{seen_items, seen_set, seen_at}
use Rattle.no_read_types.proofs.watchers.Watchers.watch.Goals as goal

pub returns : goal.returns
returns c =
    let lists = c.self.inside.lists.items in
    let lt : c.args.watched < length lists = omega (arith, c.requires, ap length c.self.view_is, length-map lists seen_items) in
    let at : c.index_mut.result.now.items ≡ references_at (map seen_items lists) c.args.watched = seen_at lists c.args.watched _ c.index_mut.result.now lt c.index_mut.ensures.value in
    rw (← c.self.view_is) (seen_set lists c.args.watched c.push.new.self _ (c.in_ok-push.ensures.items ∙ ap (λ (xs : List ℕ). xs ++ c.args.n ∷ []) at))
