use Rattle.std.proofs.Common.{◌≡◌, true, Some, refl, rules, arith, slice_get}
use Rattle.no_profile_run.proofs.Calls.{call_again, call_first}
use Rattle.no_profile_run.proofs.Sets.{here_or}
use Rattle.no_profile_run.proofs.tally.Tally.call.Goals as goal

pub returns-then-c-gt0 : goal.returns-then-c-gt0
returns-then-c-gt0 c = λ done inside entries t.
    let there : slice_get c.args.self.now.counters.items c.args.f ≡ Some c.index-c.result.now = search (rules, here_or) in
    call_again inside c.args.f c.in-Some.depth c.args.count c.args.self.now c.set_depth.new.self c.index-c.result.now entries there (omega arith) c.in-Some.ensures.1 (c.set_depth.ensures.holds done) (c.set_depth.ensures.depths done) t

pub returns : goal.returns
returns c = λ done inside entries t.
    let there : slice_get c.args.self.now.counters.items c.args.f ≡ Some c.index-c.result.now = search (rules, here_or) in
    let ok : c.begin.result ≡ true = search rules in
    call_first inside c.args.f c.in-Some.depth c.args.count c.args.self.now c.begin.new.self c.set_depth-2.new.self c.index-c.result.now entries there (omega arith) c.in-Some.ensures.1 (c.begin.ensures.holds ok) (c.begin.ensures.depths ok) (c.set_depth-2.ensures.holds done) (c.set_depth-2.ensures.depths done) t
