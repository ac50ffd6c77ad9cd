use Rattle.std.proofs.Common.{◌≡◌, ◌<◌, ℕ, true, Some, get_or, length, refl, rules, slice_get, subst, sym}
use Rattle.std.proofs.lemmas.Option.{get_or_from_slice_get}
use Rattle.no_profile_run.proofs.Sets.{here_or}
use Rattle.no_profile_run.specs.Tallied.{bumped}
use Rattle.no_profile_run.proofs.Touches.{touch_holds}
use Rattle.no_profile_run.proofs.tally.Tally.touch.Goals as goal

pub returns-clause-holds : goal.returns-clause-holds
returns-clause-holds c = λ done fs entries count h.
    let inside : c.args.page < length c.args.self.now.stamps.items = search rules in
    let ok : c.bump.result ≡ true = search rules in
    let there : slice_get c.args.self.now.stamps.items c.args.page ≡ Some c.index-stamp.result.now = search (rules, here_or) in
    let same : c.index-stamp.result.now ≡ get_or c.args.self.now.stamps.items c.args.page 0 = sym (get_or_from_slice_get c.args.self.now.stamps.items c.args.page c.index-stamp.result.now 0 there) in
    touch_holds fs c.args.self.now _ entries count c.args.page inside refl (search rules) refl c.bump.ensures.long (λ k o e. subst (λ (n : ℕ). slice_get c.bump.new.live.items k ≡ Some (bumped n o)) same (c.bump.ensures.bumped ok k o e)) h
