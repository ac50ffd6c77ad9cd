use Rattle.std.proofs.Common.{◌≡◌, true, length, rules, refl, arith}
use Rattle.no_profile_run.proofs.Calls.{all_closed, none_closed, one_closed}
use Rattle.no_profile_run.proofs.tally.Tally.finish.Goals as goal

pub calls-preserved : goal.calls-preserved
calls-preserved c =
    let ok : c.close.result ≡ true = search rules in
    one_closed c.args.self.now c.calls.self c.close.new.self c.args.count c.calls.invariant (c.close.ensures.fewer ok) (c.close.ensures.holds ok)

pub returns : goal.returns
returns c = λ done.
    let empty : length c.calls.self.live.items ≡ 0 = search rules in
    all_closed c.args.self.now c.calls.self c.args.count c.calls.invariant empty
