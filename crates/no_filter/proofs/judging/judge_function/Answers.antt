use Rattle.std.proofs.Common.{◌≡◌, ◌∙◌, ap, get_or, length, subst, List, refl}
use Rattle.std.specs.Prelude.{Some, None, slice_get}
use Rattle.std.proofs.lemmas.Option.{slice_get_read}
use Rattle.no_ir.specs.declared.function.Function.{Function}
use Rattle.no_ir.specs.declared.function.Module.{Module}
use Rattle.no_filter.specs.Verdicts.{IsReached}
use Rattle.no_filter.proofs.Deciding.{alone_is, bound_is, reached_is}
use Rattle.no_filter.proofs.judging.judge_function.Goals as goal

pub returns-in-Some : goal.returns-in-Some
returns-in-Some c =
    bound_is c.args.sound.now c.args.name.now c.args.server.now c.args.f c.in-Some.rule c.in-Some.names
    (subst (λ (m : Module). IsReached m c.args.f (Some (c.in-Some.rule, c.in-Some.names))) c.module-program.ensures.value (reached_is c.module-program.result.now c.args.f c.in_ok-rule.field-0 (Some (c.in-Some.rule, c.in-Some.names)) c.in-Some.is c.in_ok-rule.ensures))

pub returns : goal.returns
returns c =
    let functions : c.as_slice.result.now ≡ c.args.sound.now.«module».functions = c.as_slice.ensures ∙ ap (λ (m : Module). m.functions) c.module-program.ensures.value in
    let g : Function = c.index-as_slice-f.result in
    let at : slice_get c.args.sound.now.«module».functions c.args.f ≡ Some g =
    slice_get_read c.args.sound.now.«module».functions (length c.args.sound.now.«module».functions) c.args.f g refl c.requires.within (c.index-as_slice-f.is ∙ ap (λ (fs : List Function). get_or fs c.args.f g) functions) in
    alone_is c.args.sound.now c.args.name.now c.args.server.now c.layout.result.now c.args.f g c.in_ok-verdict.verdict c.layout.ensures.value at
    (subst (λ (m : Module). IsReached m c.args.f None) c.module-program.ensures.value (reached_is c.module-program.result.now c.args.f c.in_ok-rule.field-0 None c.in_default.is c.in_ok-rule.ensures)) c.in_ok-verdict.ensures
