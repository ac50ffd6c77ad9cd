use Rattle.std.proofs.Common.{◌≡◌, ◌+◌, true, Some, refl, rules, arith, slice_get}
use Rattle.no_profile_run.proofs.Calls.{back_again, back_last}
use Rattle.no_profile_run.proofs.Sets.{here_or}
use Rattle.no_profile_run.proofs.tally.Tally.back.Goals as goal

pub returns-then-depth-gt0 : goal.returns-then-depth-gt0
returns-then-depth-gt0 c = λ done inside entries t.
    let there : slice_get c.args.self.now.counters.items c.args.f ≡ Some c.index-c.result.now = search (rules, here_or) in
    let ok : c.set_depth.result ≡ true = search rules in
    back_again inside c.args.f c.in-Some.depth c.args.count c.args.self.now c.set_depth.new.self c.index-c.result.now entries there (omega arith) (omega arith) (c.set_depth.ensures.holds ok) (c.set_depth.ensures.depths ok) t

pub returns : goal.returns
returns c = λ done inside entries t.
    let there : slice_get c.args.self.now.counters.items c.args.f ≡ Some c.index-c.result.now = search (rules, here_or) in
    let ok : c.set_depth.result ≡ true = search rules in
    back_last inside c.args.f c.in-Some.depth c.args.count c.args.self.now c.set_depth.new.self c.close.new.self c.index-c.result.now entries there (omega arith) (omega arith) (c.set_depth.ensures.holds ok) (c.set_depth.ensures.depths ok) (c.close.ensures.holds done) (c.close.ensures.depths done) t
