use Rattle.std.proofs.Common.{◌≡◌, ◌∙◌, ◌<◌, ℕ, List, length, get_or, subst, ap, arith}
use Rattle.no_ir.specs.declared.function.Function.{Function}
use Rattle.no_code.specs.Making.{PutsFunction, PutsFunctions}
use Rattle.no_code.specs.Source.{source}
use Rattle.no_code.proofs.Whole.{functions_more}
use Rattle.no_code.proofs.building.functions.Goals as goal

pub loop-f-preserved : goal.loop-f-preserved
loop-f-preserved c =
    let a = c.args in
    let s = source a.from.program.now a.from.layout.now a.from.sizes.now a.from.addresses.now in
    let g = c.index-all-f.result in
    let lt : c.loop-f.f < length a.from.program.now.functions = omega (arith, c.loop-f-test.true, c.len-f-end.ensures) in
    functions_more s a.from.program.now.functions c.loop-f.f g c.loop-f.code c.function.new.code lt
    (c.index-all-f.is ∙ ap (λ (l : List Function). get_or l c.loop-f.f g) c.as_slice-all.ensures) c.loop-f.invariant
    (subst (λ (n : ℕ). PutsFunction s n g c.loop-f.code c.function.new.code) c.in_ok-number.ensures.0 c.in_ok-function.ensures)

pub returns : goal.returns
returns c =
    let a = c.args in
    let all : c.loop-f.f ≡ length a.from.program.now.functions = omega (arith, c.loop-f.auto.f-end, c.loop-f-test.false, c.len-f-end.ensures) in
    subst (λ (n : ℕ). PutsFunctions (source a.from.program.now a.from.layout.now a.from.sizes.now a.from.addresses.now) a.from.program.now.functions n c.loop-f.code) all c.loop-f.invariant
