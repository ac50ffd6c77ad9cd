use Rattle.std.proofs.Common.{ℕ, List, refl, subst}
use Rattle.std.proofs.lemmas.List.{take_all}
use Rattle.no_ir.specs.declared.types.Ty.{Ty}
use Rattle.no_code.specs.Making.{PutsParameters}
use Rattle.no_code.proofs.Made.{parameters_more, parameters_none}
use Rattle.no_code.proofs.building.parameters.Goals as goal

pub loop-one-init : goal.loop-one-init
loop-one-init c = parameters_none c.args.code.now c.args.given.now

pub loop-one-preserved : goal.loop-one-preserved
loop-one-preserved c =
    parameters_more c.args.code.now c.loop-one.code c.put_argument.new.code c.args.given.now c.loop-one.one-index c.one-item.result (record { slot = c.one-item.result.0; kind = c.kind.result }) c.loop-one-test.true c.one-item.is
    c.loop-one.invariant refl c.kind.ensures c.in_ok-put_argument.ensures

pub returns : goal.returns
returns c = subst (λ (l : List (ℕ × Ty)). PutsParameters c.args.code.now c.loop-one.code l) (take_all c.loop-one.one-index c.args.given.now c.loop-one-test.false) c.loop-one.invariant
