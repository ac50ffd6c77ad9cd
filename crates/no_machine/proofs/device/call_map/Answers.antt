use Rattle.std.proofs.Common.{rules, ◌≡◌, ◌+◌, ◌∙◌, ℕ, List, true, ap, drop, map, slice_range, subst}
use Rattle.no_ir.specs.declared.function.Function.{Function}
use Rattle.no_ir.specs.declared.function.Module.{Module}
use Rattle.no_machine.specs.Calling.{argument_in}
use Rattle.no_machine.specs.Outside.{Stack, Yields, map_value}
use Rattle.std.proofs.lemmas.List.{take_rest}
use Rattle.no_machine.proofs.Devices.{yields_same}
use Rattle.no_machine.proofs.device.call_map.Goals as goal

pub returns : goal.returns
returns c = λ frames sp.
    let done : c.gather.result ≡ true = search rules in
    let gathered : c.gather.new.numbers.items ≡ map (argument_in (drop c.args.base c.args.slots.now) c.args.constants.now) c.arguments-args.result.now = c.gather.ensures done ∙ ap (λ (w : List ℕ). map (argument_in w c.args.constants.now) c.arguments-args.result.now) (take_rest c.args.slots.now c.args.base) in
    let k : Stack = record { slots = c.args.slots.now; new = c.map_function.new.slots; frames = frames; now = frames; sp = sp; after = sp } in
    let functions : c.as_slice.result.now ≡ c.args.sound.now.«module».functions = c.as_slice.ensures ∙ ap (λ (m : Module). m.functions) c.module.ensures.value in
    let numbers : c.as_slice-2.result.now ≡ map (argument_in (drop c.args.base c.args.slots.now) c.args.code.now.constants) (slice_range c.args.code.now.arguments c.args.from c.args.to) =
    c.as_slice-2.ensures.value ∙ gathered ∙ ap (λ (cs : List ℕ). map (argument_in (drop c.args.base c.args.slots.now) cs) c.arguments-args.result.now) c.requires.same ∙ ap (map (argument_in (drop c.args.base c.args.slots.now) c.args.code.now.constants)) c.arguments-args.ensures in
    yields_same (map_value c.args.sound.now.«module».functions) _ _ (λ n. sp) c.args.at c.args.base (c.args.base + c.args.into) k c.map_function.result numbers
    (subst (λ (fs : List Function). Yields (map_value fs c.as_slice-2.result.now) (λ n. sp) c.args.at c.args.base (c.args.base + c.args.into) k c.map_function.result) functions (c.map_function.ensures frames sp))
