use Rattle.std.proofs.Common.{◌≡◌, ℕ, true, refl, subst, sym}
use Rattle.no_machine.specs.Watching.{spans_of}
use Rattle.no_machine.specs.declared.watch.Touch.{Touch}
use Rattle.no_semantics.specs.Spans.{span_of}
use Rattle.no_profile_run.specs.Moments.{pages_of}
use Rattle.no_profile_run.specs.Tallied.{Holds, among, touched_all}
use Rattle.no_profile_run.proofs.Rows.{nothing_told, pair_touched}
use Rattle.no_profile_run.proofs.tally.Tally.touch_as.Goals as goal

pub returns-in-Nothing-clause-holds : goal.returns-in-Nothing-clause-holds
returns-in-Nothing-clause-holds c = λ done fs entries count h. subst (λ (x : Touch). Holds fs c.args.self.now (among fs (touched_all (pages_of (spans_of x c.args.wrote))) entries) count) (sym c.in-Nothing.is) (nothing_told fs c.args.self.now entries count h)

pub returns-in-Bytes-clause-holds : goal.returns-in-Bytes-clause-holds
returns-in-Bytes-clause-holds c = λ done fs entries count h. subst (λ (x : Touch). Holds fs c.touch_bytes.new.self (among fs (touched_all (pages_of (spans_of x c.args.wrote))) entries) count) (sym c.in-Bytes.is) (c.touch_bytes.ensures.holds done fs entries count h)

pub returns-else-not-touch_bytes-clause-holds : goal.returns-else-not-touch_bytes-clause-holds
returns-else-not-touch_bytes-clause-holds c = λ done fs entries count h. subst (λ (x : Touch). Holds fs c.touch_bytes-in-Pair-2.new.self (among fs (touched_all (pages_of (spans_of x c.args.wrote))) entries) count) (sym c.in-Pair.is)
    (pair_touched fs c.args.self.now c.touch_bytes-in-Pair.new.self c.touch_bytes-in-Pair-2.new.self entries count (span_of c.in-Pair.from c.in-Pair.len) (span_of c.in-Pair.to c.in-Pair.len) (c.if-not-touch_bytes.ensures.holds refl) (c.touch_bytes-in-Pair-2.ensures.holds done) h)

pub returns-in-Text-clause-holds : goal.returns-in-Text-clause-holds
returns-in-Text-clause-holds c = λ done fs entries count h. subst (λ (x : Touch). Holds fs c.touch_bytes-in-Text.new.self (among fs (touched_all (pages_of (spans_of x c.args.wrote))) entries) count) (sym c.in-Text.is) (c.touch_bytes-in-Text.ensures.holds done fs entries count h)
