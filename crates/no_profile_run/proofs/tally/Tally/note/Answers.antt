use Rattle.std.proofs.Common.{◌≡◌, true, rules, refl, arith, ap}
use Rattle.no_profile_run.proofs.Rows.{note_calls, note_returns, note_stays}
use Rattle.no_profile_run.proofs.tally.Tally.note.Goals as goal

pub returns-then-after-before : goal.returns-then-after-before
returns-then-after-before c = λ done p s bytes call t rows n h tallied.
    note_calls c.args.touch c.args.wrote c.args.before c.args.after c.args.count p s bytes call t n h rows c.args.self.now c.touch_as.new.self tallied (c.if-not-touch_as.ensures.holds refl) (ap (λ v. v.items) c.touch_as.ensures.counters) c.call.new.self (omega arith) (c.call.ensures done)

pub returns-then-after-before-2 : goal.returns-then-after-before-2
returns-then-after-before-2 c = λ done p s bytes call t rows n h tallied.
    note_returns c.args.touch c.args.wrote c.args.before c.args.after c.args.count p s bytes call t n h rows c.args.self.now c.touch_as.new.self tallied (c.if-not-touch_as.ensures.holds refl) (ap (λ v. v.items) c.touch_as.ensures.counters) c.back.new.self (omega arith) (c.back.ensures done)

pub returns : goal.returns
returns c = λ done p s bytes call t rows n h tallied.
    note_stays c.args.touch c.args.wrote c.args.before c.args.after c.args.count p s bytes call t n h rows c.args.self.now c.touch_as.new.self tallied (c.if-not-touch_as.ensures.holds refl) (ap (λ v. v.items) c.touch_as.ensures.counters) (omega arith) (omega arith)
