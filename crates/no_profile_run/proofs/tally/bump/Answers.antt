use Rattle.std.proofs.Common.{◌≡◌, ◌<◌, length, slice_get, Some, refl, arith, rules}
use Rattle.no_profile_run.proofs.Bumps.{all_bumped, none_bumped, one_bumped}
use Rattle.no_profile_run.proofs.Sets.{here_or}
use Rattle.no_profile_run.proofs.tally.bump.Goals as goal

pub loop-k-init : goal.loop-k-init
loop-k-init c = record { first = none_bumped c.args.stamp c.args.live.now.items; long = refl }

pub loop-k-preserved : goal.loop-k-preserved
loop-k-preserved c =
    let inside : c.loop-k.k < length c.loop-k.live.items = search rules in
    let there : slice_get c.loop-k.live.items c.loop-k.k ≡ Some c.index_mut.result.now = search (rules, here_or) in
    record {
      first = one_bumped c.args.stamp c.args.live.now.items c.loop-k.live.items c.loop-k.k _ _ there (c.if-not-bump_one.ensures refl) c.loop-k.invariant.first;
      long = search rules;
    }

pub returns-clause-bumped : goal.returns-clause-bumped
returns-clause-bumped c = λ done. all_bumped c.args.stamp _ _ c.loop-k.k (search rules) c.loop-k.invariant.first
