use Rattle.std.proofs.Common.{rules, ◌≡◌, ◌+◌, ◌∙◌, ℕ, List, true, ap, drop, map, slice_range}
use Rattle.no_machine.specs.Calling.{argument_in}
use Rattle.no_machine.specs.Outside.{room_value}
use Rattle.std.proofs.lemmas.List.{take_rest}
use Rattle.no_machine.proofs.Devices.{yields_same}
use Rattle.no_machine.proofs.device.call_alloca.Goals as goal

pub returns : goal.returns
returns c = λ frames.
    let done : c.gather.result ≡ true = search rules in
    let gathered : c.gather.new.numbers.items ≡ map (argument_in (drop c.args.base c.args.slots.now) c.args.constants.now) c.arguments-args.result.now = c.gather.ensures done ∙ ap (λ (w : List ℕ). map (argument_in w c.args.constants.now) c.arguments-args.result.now) (take_rest c.args.slots.now c.args.base) in
    let numbers : c.as_slice.result.now ≡ map (argument_in (drop c.args.base c.args.slots.now) c.args.code.now.constants) (slice_range c.args.code.now.arguments c.args.from c.args.to) =
    c.as_slice.ensures.value ∙ gathered ∙ ap (λ (cs : List ℕ). map (argument_in (drop c.args.base c.args.slots.now) cs) c.arguments-args.result.now) c.requires.same ∙ ap (map (argument_in (drop c.args.base c.args.slots.now) c.args.code.now.constants)) c.arguments-args.ensures in
    yields_same (room_value c.args.sp.now) _ _ (λ n. n) c.args.at c.args.base (c.args.base + c.args.into) (record { slots = c.args.slots.now; new = c.make_room.new.slots; frames = frames; now = frames; sp = c.args.sp.now; after = c.make_room.new.sp }) c.make_room.result numbers (c.make_room.ensures frames)
