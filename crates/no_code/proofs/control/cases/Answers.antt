use Rattle.std.proofs.Common.{ℕ, List, refl, subst}
use Rattle.std.proofs.lemmas.List.{take_all}
use Rattle.no_code.specs.Making.{PutsCases}
use Rattle.no_code.specs.Source.{source}
use Rattle.no_code.proofs.Branches.{cases_more, cases_none}
use Rattle.no_code.proofs.control.cases.Goals as goal

pub loop-one-init : goal.loop-one-init
loop-one-init c =
    let a = c.args in
    cases_none (source a.from.program.now a.from.layout.now a.from.sizes.now a.from.addresses.now) a.g.now a.frame a.code.now a.given.now

pub loop-one-preserved : goal.loop-one-preserved
loop-one-preserved c =
    let a = c.args in
    cases_more (source a.from.program.now a.from.layout.now a.from.sizes.now a.from.addresses.now) a.g.now a.frame a.code.now c.loop-one.code c.edge.new.code c.put_case.new.code a.given.now c.loop-one.one-index _
    (record { number = _; edge = c.in_ok-e.e }) c.loop-one-test.true c.loop-one.invariant c.in_ok-e.ensures.0 refl c.in_ok-e.ensures.1 c.in_ok-put_case.ensures

pub returns : goal.returns
returns c =
    let a = c.args in
    subst (λ (l : List (ℕ × ℕ)). PutsCases (source a.from.program.now a.from.layout.now a.from.sizes.now a.from.addresses.now) a.g.now a.frame a.code.now c.loop-one.code l) (take_all c.loop-one.one-index a.given.now c.loop-one-test.false) c.loop-one.invariant
