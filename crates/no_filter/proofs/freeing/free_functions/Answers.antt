use Rattle.std.proofs.Common.{◌≡◌, ◌∙◌, ap, map, List}
use Rattle.no_ir.specs.declared.function.Function.{Function}
use Rattle.no_ir.specs.declared.function.Module.{Module}
use Rattle.no_filter.specs.Reasons.{inputs, pinned, volatiles}
use Rattle.no_filter.specs.Verdicts.{passes}
use Rattle.no_filter.proofs.Freed.{all_free, cleared_by, reaching_by}
use Rattle.no_filter.proofs.freeing.free_functions.Goals as goal

pub returns : goal.returns
returns c =
    let a = c.args.sound.now in
    let m : c.module-program.result.now ≡ a.«module» = c.module-program.ensures.value in
    let functions : c.as_slice-functions.result.now ≡ a.«module».functions = c.as_slice-functions.ensures ∙ ap (λ (x : Module). x.functions) m in
    all_free a c.args.server.now c.layout.result.now c.in_ok-first.first c.in_ok-second.second c.in_ok-third.third c.in_ok-flags.flags.items c.clear.new.flags.items c.clear-2.new.flags.items c.clear-3.new.flags.items c.layout.ensures.value
    (c.in_ok-flags.ensures ∙ ap (λ (fs : List Function). map (passes c.layout.result.now c.args.server.now) fs) functions)
    (reaching_by a.«module» c.module-program.result.now c.as_slice.result.now c.in_ok-readers.readers.items inputs c.in_ok-first.first m c.as_slice.ensures.value c.in_ok-readers.ensures (c.in_ok-first.ensures a.«module» c.requires))
    (reaching_by a.«module» c.module-program.result.now c.as_slice-3.result.now c.in_ok-accesses.accesses.items volatiles c.in_ok-second.second m c.as_slice-3.ensures.value c.in_ok-accesses.ensures (c.in_ok-second.ensures a.«module» c.requires))
    (reaching_by a.«module» c.module-program.result.now c.as_slice-5.result.now c.in_ok-bound.bound.items pinned c.in_ok-third.third m c.as_slice-5.ensures.value c.in_ok-bound.ensures (c.in_ok-third.ensures a.«module» c.requires))
    (cleared_by c.as_slice-2.result.now c.in_ok-first.first c.in_ok-flags.flags.items c.clear.new.flags.items c.as_slice-2.ensures c.clear.ensures.cleared)
    (cleared_by c.as_slice-4.result.now c.in_ok-second.second c.clear.new.flags.items c.clear-2.new.flags.items c.as_slice-4.ensures c.clear-2.ensures.cleared)
    (cleared_by c.as_slice-6.result.now c.in_ok-third.third c.clear-2.new.flags.items c.clear-3.new.flags.items c.as_slice-6.ensures c.clear-3.ensures.cleared)
    (c.clear-3.ensures.wide ∙ (c.clear-2.ensures.wide ∙ c.clear.ensures.wide))
