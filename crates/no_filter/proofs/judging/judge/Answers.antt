use Rattle.std.proofs.Common.{◌≡◌, ◌∙◌, ◌<◌, ap, arith, length, sym, List}
use Rattle.no_ir.specs.declared.function.Function.{Function}
use Rattle.no_ir.specs.declared.function.Module.{Module}
use Rattle.no_filter.proofs.Deciding.{named_within}
use Rattle.no_filter.proofs.judging.judge.Goals as goal

pub overflow_cast-number : goal.overflow_cast-number
overflow_cast-number c =
    let found = named_within c.args.name.now 0 c.as_slice-functions.result.now c.in-Some.number (sym c.number_named.ensures ∙ c.in-Some.is) in
    let within : c.in-Some.number < length c.as_slice-functions.result.now = omega (arith, found) in
    omega (arith, within)

pub judge_function-requires-clause-within : goal.judge_function-requires-clause-within
judge_function-requires-clause-within c =
    let found = named_within c.args.name.now 0 c.as_slice-functions.result.now c.in-Some.number (sym c.number_named.ensures ∙ c.in-Some.is) in
    let within : c.in-Some.number < length c.as_slice-functions.result.now = omega (arith, found) in
    let size : length c.as_slice-functions.result.now ≡ length c.args.sound.now.«module».functions = ap (λ (fs : List Function). length fs) (c.as_slice-functions.ensures ∙ ap (λ (m : Module). m.functions) c.module.ensures.value) in
    omega (arith, within, size)
