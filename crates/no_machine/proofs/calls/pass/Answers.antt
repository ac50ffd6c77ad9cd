use Rattle.std.proofs.Common.{◌∙◌, ◌≤◌, List, sym, ap, map, drop, length, arith}
use Rattle.std.proofs.lemmas.List.{drop_all}
use Rattle.no_code.specs.declared.code.Argument.{Argument}
use Rattle.no_machine.specs.Calling.{argument_in, passed_to}
use Rattle.no_machine.proofs.Entering.{passed_none}
use Rattle.no_machine.proofs.calls.pass.Goals as goal

pub returns : goal.returns
returns c =
    let a = c.args in
    let k = c.loop-k.k in
    let le : length a.args.now ≤ k = omega (arith, c.loop-k-test.false) in
    sym (passed_none (drop k a.params.now) c.loop-k.free)
    ∙ ap (λ (l : List Argument). passed_to (drop k a.params.now) (map (argument_in a.window.now a.constants.now) l) c.loop-k.free) (sym (drop_all k a.args.now le))
    ∙ c.loop-k.invariant
