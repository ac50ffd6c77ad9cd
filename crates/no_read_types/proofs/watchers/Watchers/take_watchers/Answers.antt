use Rattle.std.proofs.Common.{[], ap, ◌∙◌}
use Rattle.no_read_types.proofs.WatcherLaws.{seen_set}
use Rattle.no_read_types.proofs.watchers.Watchers.take_watchers.Goals as goal

pub returns-clause-none : goal.returns-clause-none
returns-clause-none c = rw (← c.self.view_is) (seen_set c.self.inside.lists.items c.args.watched c.replace.new.dest [] (ap (λ v. v.items) c.replace.ensures.after ∙ c.new.ensures.items))
