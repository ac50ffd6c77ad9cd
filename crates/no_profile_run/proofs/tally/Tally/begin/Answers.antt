use Rattle.std.proofs.Common.{◌≡◌, ◌+◌, ◌++◌, ◌∷◌, [], Some, refl, rules, slice_get}
use Rattle.no_profile_run.proofs.Calls.{begin_holds, depths_set}
use Rattle.no_profile_run.proofs.Sets.{here_or}
use Rattle.no_profile_run.proofs.tally.Tally.begin.Goals as goal

pub returns-clause-holds : goal.returns-clause-holds
returns-clause-holds c = λ done fs entries none h.
    let there : slice_get c.args.self.now.counters.items c.args.f ≡ Some c.index-c.result.now = search (rules, here_or) in
    let live : c.push.new.self.items ≡ c.args.self.now.live.items ++ record { function = c.args.f; since = c.args.count; time = c.in-Some-checked_add.time; pages = 0 } ∷ [] = search rules in
    begin_holds fs c.args.self.now _ entries c.args.count c.args.f c.in-Some.calls c.in-Some-checked_add.time c.index-c.result.now c.in-Some.ensures.1 c.in-Some-checked_add.ensures.1 none there refl live refl refl h

pub returns-clause-depths : goal.returns-clause-depths
returns-clause-depths c = λ done.
    let there : slice_get c.args.self.now.counters.items c.args.f ≡ Some c.index-c.result.now = search (rules, here_or) in
    depths_set c.args.self.now.counters.items c.args.f c.index-c.result.now _ there refl
