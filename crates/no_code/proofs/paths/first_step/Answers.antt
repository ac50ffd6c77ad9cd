use Rattle.no_code.specs.Coded.{IsIndex}
use Rattle.no_code.specs.declared.code.Code.{Code}
use Rattle.no_code.specs.declared.code.Step.{Step}
use Rattle.no_code.specs.Source.{source}
use Rattle.no_code.proofs.Steps.{index_stays, steps_one}
use Rattle.no_code.proofs.paths.first_step.Goals as goal

pub returns : goal.returns
returns c =
    let a = c.args in
    let s = source a.from.program.now a.from.layout.now a.from.sizes.now a.from.addresses.now in
    steps_one a.code.now c.index_step.new.code c.put_step.new.code c.in_ok-one.one (λ (later : Code) (x : Step). IsIndex s a.n later a.t.now a.index.now x) c.in_ok-one.ensures.0
    (λ later e. index_stays s a.n c.index_step.new.code later a.t.now a.index.now c.in_ok-one.one e c.in_ok-one.ensures.1) c.in_ok-put_step.ensures
