use Rattle.std.proofs.Common.{◌∙◌, ◌++◌, ◌∷◌, [], ap}
use Rattle.no_code.specs.declared.code.Kind.{Kind}
use Rattle.no_code.specs.Source.{source}
use Rattle.no_code.proofs.Passed.{call_at_stays}
use Rattle.no_code.proofs.calls.call_at.Goals as goal

pub returns : goal.returns
returns c =
    let a = c.args in
    let s = source a.from.program.now a.from.layout.now a.from.sizes.now a.from.addresses.now in
    let mid = c.slot.new.code in
    let put = c.put_argument.new.code in
    let new = c.arguments.new.code in
    call_at_stays s a.g.now a.frame a.i.now a.code.now mid put new a.t.now a.callee.now a.given.now c.in_ok-x.x c.into.result c.in_ok-start.start c.in_ok-end.end c.requires.is c.requires.names c.into.ensures
    c.in_ok-x.ensures.0 c.in_ok-x.ensures.1
    (c.in_ok-put_argument.ensures ∙ ap (λ (k : Kind). record mid { arguments = mid.arguments ++ (record { slot = c.in_ok-x.x; kind = k }) ∷ [] }) c.kind.ensures)
    c.in_ok-arguments.ensures (c.in_ok-start.ensures.0 ∙ c.len.ensures) (c.in_ok-end.ensures.0 ∙ c.len-2.ensures)
