use Rattle.std.proofs.Common.{◌∙◌}
use Rattle.no_code.specs.Source.{source}
use Rattle.no_code.proofs.Passed.{call_stays, grows_arguments}
use Rattle.no_code.proofs.calls.call_named.Goals as goal

pub returns : goal.returns
returns c =
    let a = c.args in
    let s = source a.from.program.now a.from.layout.now a.from.sizes.now a.from.addresses.now in
    let new = c.arguments.new.code in (
      grows_arguments s a.frame.registers a.code.now new a.given.now c.in_ok-arguments.ensures,
      call_stays s a.g.now a.frame a.i.now a.code.now new a.t.now a.callee.now a.given.now a.k c.into.result c.in_ok-start.start c.in_ok-end.end c.requires.is c.requires.names c.into.ensures
          c.in_ok-arguments.ensures (c.in_ok-start.ensures.0 ∙ c.len.ensures) (c.in_ok-end.ensures.0 ∙ c.len-2.ensures),
    )
