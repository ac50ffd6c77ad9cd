use Rattle.std.proofs.Common.{◌≡◌, ℕ, List, true, Option, Some, rules, ap, drop, map, slice_range, subst, sym, ◌∙◌}
use Rattle.std.proofs.lemmas.List.{take_rest}
use Rattle.std.proofs.lemmas.Option.{same_Some}
use Rattle.no_module.specs.declared.external.External.{External}
use Rattle.no_machine.specs.Calling.{argument_in}
use Rattle.no_machine.specs.Watching.{IsCallTouch}
use Rattle.no_machine.proofs.watch.touched_in.Goals as goal

pub returns-clause-touch : goal.returns-clause-touch
returns-clause-touch c =
    let done : c.gather.result ≡ true = search rules in
    let gathered : c.gather.new.numbers.items ≡ map (argument_in (drop c.args.base c.args.slots.now) c.args.constants.now) c.arguments-args.result.now = c.gather.ensures done ∙ ap (λ (w : List ℕ). map (argument_in w c.args.constants.now) c.arguments-args.result.now) (take_rest c.args.slots.now c.args.base) in
    let numbers : c.as_slice.result.now ≡ map (argument_in (drop c.args.base c.args.slots.now) c.args.constants.now) (slice_range c.args.code.now.arguments c.args.from c.args.to) =
    c.as_slice.ensures.value ∙ gathered ∙ ap (map (argument_in (drop c.args.base c.args.slots.now) c.args.constants.now)) c.arguments-args.ensures in
    λ entry is.
    let found : Some c.in-Some.which ≡ entry = same_Some (Some c.in-Some.which) entry (sym c.in-Some.ensures ∙ is) in
    subst (λ (e : Option External). IsCallTouch c.touched_by.result e c.args.heap.now (map (argument_in (drop c.args.base c.args.slots.now) c.args.constants.now) (slice_range c.args.code.now.arguments c.args.from c.args.to))) found
    (subst (λ (ns : List ℕ). IsCallTouch c.touched_by.result (Some c.in-Some.which) c.args.heap.now ns) numbers c.touched_by.ensures.touch)
