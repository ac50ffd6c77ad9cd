use Rattle.std.proofs.Common.{subst, List}
use Rattle.std.proofs.lemmas.List.{take_all}
use Rattle.no_ir.specs.declared.types.Ty.{Ty}
use Rattle.no_ir.specs.declared.instruction.Operand.{Operand}
use Rattle.no_code.specs.Making.{PutsArguments}
use Rattle.no_code.specs.Source.{source}
use Rattle.no_code.proofs.Passed.{arguments_more, arguments_none}
use Rattle.no_code.proofs.calls.arguments.Goals as goal

pub loop-one-init : goal.loop-one-init
loop-one-init c =
    let a = c.args in
    arguments_none (source a.from.program.now a.from.layout.now a.from.sizes.now a.from.addresses.now) a.n a.code.now a.given.now

pub loop-one-preserved : goal.loop-one-preserved
loop-one-preserved c =
    let a = c.args in
    let s = source a.from.program.now a.from.layout.now a.from.sizes.now a.from.addresses.now in
    arguments_more s a.n a.code.now c.loop-one.code c.argument.new.code c.put_argument.new.code a.given.now c.loop-one.one-index c.one-item.result c.in_ok-a.a c.loop-one-test.true c.one-item.is c.loop-one.invariant
    c.in_ok-a.ensures.0 c.in_ok-a.ensures.1 c.in_ok-put_argument.ensures

pub returns : goal.returns
returns c =
    let a = c.args in
    let s = source a.from.program.now a.from.layout.now a.from.sizes.now a.from.addresses.now in
    subst (λ (l : List (Ty × Operand)). PutsArguments s a.n a.code.now c.loop-one.code l) (take_all c.loop-one.one-index a.given.now c.loop-one-test.false) c.loop-one.invariant
