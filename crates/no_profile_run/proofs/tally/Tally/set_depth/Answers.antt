use Rattle.std.proofs.Common.{◌≡◌, Some, refl, rules, slice_get}
use Rattle.no_profile_run.proofs.Calls.{depth_holds, depth_set}
use Rattle.no_profile_run.proofs.Sets.{here_or}
use Rattle.no_profile_run.proofs.tally.Tally.set_depth.Goals as goal

pub returns-clause-holds : goal.returns-clause-holds
returns-clause-holds c = λ done fs entries count h.
    let there : slice_get c.args.self.now.counters.items c.args.f ≡ Some c.index-c.result.now = search (rules, here_or) in
    depth_holds fs c.args.self.now _ entries count c.args.f c.index-c.result.now c.args.depth there refl refl refl refl h

pub returns-clause-depths : goal.returns-clause-depths
returns-clause-depths c = λ done.
    let there : slice_get c.args.self.now.counters.items c.args.f ≡ Some c.index-c.result.now = search (rules, here_or) in
    depth_set c.args.self.now.counters.items c.args.f c.args.depth c.index-c.result.now _ there refl
