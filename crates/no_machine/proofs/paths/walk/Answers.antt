use Rattle.std.proofs.Common.{◌+◌, ◌%◌, ◌^◌, ◌∙◌, ℕ, List, refl, sym, ap, drop, rules}
use Rattle.std.proofs.lemmas.List.{at_drop_more}
use Rattle.no_code.specs.declared.code.Step.{Step}
use Rattle.no_machine.specs.Did.{leads}
use Rattle.no_machine.proofs.paths.walk.Goals as goal

pub loop-one-preserved : goal.loop-one-preserved
loop-one-preserved c =
    let a = c.args in
    let steps = a.steps.now in
    let k = c.loop-one.one-index in
    let next = c.stepped-at.ensures (leads a.window.now a.constants.now a.pointer (drop (k + 1) steps)) (drop (k + 1) steps) refl in
    record {
      range = search rules;
      sum = next ∙ ap (λ (n : ℕ). (c.loop-one.at + n) % 2 ^ 64) (sym (at_drop_more (λ (l : List Step). leads a.window.now a.constants.now a.pointer l) steps k _ c.loop-one-test.true)) ∙ c.loop-one.invariant.sum;
    }
