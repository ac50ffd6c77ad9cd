use Rattle.std.proofs.Common.{◌<◌, length, ℕ, arith, subst, sym, inl, inr}
use Rattle.no_calls.specs.Spreading.{IsFound}
use Rattle.no_calls.proofs.Finding.{more_cases, noted_next, noted_same, nothing, whole}
use Rattle.no_calls.proofs.spread.begin.Goals as goal

pub loop-start-init : goal.loop-start-init
loop-start-init c = record { noted = noted_same _ 0 c.args.found.now; there = λ k lt h. absurd (nothing k h) }

pub loop-start-preserved : goal.loop-start-preserved
loop-start-preserved c =
    let starts = c.args.starts.now in
    let i = c.loop-start.start-index in
    let within : i < length starts = omega arith in
    let before = c.loop-start.invariant in
    let now = c.in_ok-begin_at.ensures in
    record {
      noted = noted_next 0 c.args.found.now c.loop-start.found c.begin_at.new.found starts i within before.noted now.noted;
      there = λ k lt h. elim (more_cases starts i k within h) [
        | inl was ↦ let (d, e) = before.there k lt was in (d, now.noted.kept k d e)
        | inr same ↦ subst (λ (j : ℕ). IsFound c.begin_at.new.found.far.items j) (sym same) (now.there (omega (arith, before.noted.wide, same, lt)))
      ];
    }

pub returns-clause-there : goal.returns-clause-there
returns-clause-there c = λ k lt h. c.loop-start.invariant.there k lt (whole c.args.starts.now c.loop-start.start-index k (omega arith) h)
