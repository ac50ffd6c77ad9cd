use Rattle.std.proofs.Common.{◌≡◌, reverse, refl, ap, ◌∙◌}
use Rattle.no_read_registers.specs.Counting.{next}
use Rattle.no_read_registers.proofs.locals.no_name.Goals as goal

pub returns : goal.returns
returns c =
    let n : c.as_slice-2.result.now ≡ reverse c.args.locals.now.counter = c.as_slice-2.ensures ∙ c.in_ok-name.ensures ∙ ap reverse c.as_slice.ensures in
    let k : c.in_ok-locals.field-0 ≡ next c.args.locals.now.counter = c.in_ok-locals.ensures ∙ ap next c.as_slice-3.ensures in
    rw (c.in_ok-number.ensures.0, c.in_ok-number.ensures.1, k, n) refl
