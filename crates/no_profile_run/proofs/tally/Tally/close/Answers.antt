use Rattle.std.proofs.Common.{◌≡◌, ◌+◌, ◌++◌, ◌∷◌, [], Some, refl, rules, slice_get, arith}
use Rattle.no_profile_run.proofs.Calls.{close_holds, depths_set}
use Rattle.no_profile_run.proofs.Sets.{here_or}
use Rattle.no_profile_run.proofs.tally.Tally.close.Goals as goal

pub returns-clause-holds : goal.returns-clause-holds
returns-clause-holds c = λ done fs f entries none h.
    let there : slice_get c.args.self.now.counters.items c.in-Some.call.function ≡ Some c.index-c.result.now = search (rules, here_or) in
    let live : c.args.self.now.live.items ≡ c.pop.new.self.items ++ c.in-Some.call ∷ [] = search rules in
    close_holds fs f c.args.self.now _ entries c.args.count c.in-Some-checked_sub.spent c.in-Some-checked_add.steps c.in-Some-checked_add-2.pages c.in-Some.call c.index-c.result.now none c.in-Some-checked_add.ensures.1 c.in-Some-checked_add-2.ensures.1 live there (omega arith) refl refl refl h

pub returns-clause-depths : goal.returns-clause-depths
returns-clause-depths c = λ done.
    let there : slice_get c.args.self.now.counters.items c.in-Some.call.function ≡ Some c.index-c.result.now = search (rules, here_or) in
    depths_set c.args.self.now.counters.items c.in-Some.call.function c.index-c.result.now _ there refl
