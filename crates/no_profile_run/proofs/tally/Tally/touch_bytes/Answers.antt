use Rattle.std.proofs.Common.{◌≡◌, ◌<◌, ◌≤◌, ℕ, true, ◌+◌, ◌-◌, ◌/◌, ap, refl, rules, arith, subst, sym, ◌∙◌}
use Rattle.no_layout.specs.Memory.{page_count}
use Rattle.no_profile_run.specs.Tallied.{Holds, among, touched}
use Rattle.no_profile_run.proofs.Touches.{HasTouched, next_touched, none_touched, nothing_touched, range_touched}
use Rattle.no_profile_run.proofs.tally.Tally.touch_bytes.Goals as goal

pub returns-then-len-eq0-clause-holds : goal.returns-then-len-eq0-clause-holds
returns-then-len-eq0-clause-holds c = λ done fs entries count h. nothing_touched fs c.args.self.now entries count c.args.at c.args.len c.if-len-eq0.true h

pub loop-page-init : goal.loop-page-init
loop-page-init c =
    let first = c.args.at / 4096 in
    let zero' : first - first ≡ 0 = omega arith in
    record { told = subst (HasTouched c.args.self.now c.args.self.now first) (sym zero') (none_touched c.args.self.now first); counters = refl }

pub loop-page-preserved : goal.loop-page-preserved
loop-page-preserved c =
    let first = c.args.at / 4096 in
    let page = c.loop-page.page in
    let low : first ≤ page = search rules in
    let one : page - first + 1 ≡ page + 1 - first = omega arith in
    let here : page ≡ first + (page - first) = omega arith in
    let ok : c.touch.result ≡ true = search rules in
    record {
      told = subst (HasTouched c.args.self.now c.touch.new.self first) one (next_touched c.args.self.now c.loop-page.self c.touch.new.self first (page - first) c.loop-page.invariant.told
          (λ fs entries count h. subst (λ (p : ℕ). Holds fs c.touch.new.self (among fs (touched p) entries) count) here (c.touch.ensures.holds ok fs entries count h)));
      counters = c.touch.ensures.counters ∙ c.loop-page.invariant.counters;
    }

pub returns-clause-holds : goal.returns-clause-holds
returns-clause-holds c = λ done.
    let first = c.args.at / 4096 in
    let end = c.in-Some.end in
    let page = c.loop-page.page in
    let some : 0 < c.args.len = search rules in
    let sum : end ≡ c.args.at + c.args.len = c.in-Some.ensures.1 in
    let last : (end - 1) / 4096 ≡ (c.args.at + c.args.len - 1) / 4096 = ap (λ (n : ℕ). (n - 1) / 4096) sum in
    let ordered : first ≤ (end - 1) / 4096 + 1 = omega (arith, sum, some) in
    let all : page ≡ (end - 1) / 4096 + 1 = omega (arith, c.loop-page.auto.page-end ordered, c.loop-page-test.false) in
    range_touched c.args.self.now c.loop-page.self c.args.at c.args.len first (page - first) some refl (omega (arith, last, all)) c.loop-page.invariant.told
