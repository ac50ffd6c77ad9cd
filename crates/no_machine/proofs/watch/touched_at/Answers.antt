use Rattle.std.proofs.Common.{rules}
use Rattle.no_ir.specs.declared.ending.Trap.TheVariants.{BadFunction}
use Rattle.no_machine.proofs.Reaches.{by_name, first_inside, first_slot, leads_known, place_inside, traps_known}
use Rattle.no_machine.proofs.Touching.{quiet_as}
use Rattle.no_machine.proofs.Turns.{at_inside}
use Rattle.no_machine.proofs.Watched.{call_known, call_ordered, call_slots, call_touches, call_within, load_slot, load_touch, other_touch, store_slot, store_touch, trap_touch}
use Rattle.no_machine.specs.declared.watch.Touch.TheVariants as touch
use Rattle.no_machine.proofs.watch.touched_at.Goals as goal

pub cell_at-requires : goal.cell_at-requires
cell_at-requires c = at_inside _ _ _ _ _ _ _ _ _ c.requires.facts _ _ _ _ _ _ _ c.requires.here.5 c.requires.here.6

pub read_at-address-requires-clause-slot : goal.read_at-address-requires-clause-slot
read_at-address-requires-clause-slot c = load_slot _ _ _ _ _ _ _ _ _ c.requires.facts _ _ _ _ _ _ _ c.requires.here.5 c.requires.here.6 _ _ _ c.in-Load.ensures

pub read_at-address-requires-in-Store-clause-slot : goal.read_at-address-requires-in-Store-clause-slot
read_at-address-requires-in-Store-clause-slot c = store_slot _ _ _ _ _ _ _ _ _ c.requires.facts _ _ _ _ _ _ _ c.requires.here.5 c.requires.here.6 _ _ _ c.in-Store.ensures

pub touched_in-requires-clause-known : goal.touched_in-requires-clause-known
touched_in-requires-clause-known c = call_known _ _ _ _ _ _ _ _ _ c.requires.facts _ _ _ _ _ _ _ c.requires.here.5 c.requires.here.6 _ _ _ _ (by_name _ _ _ _ _ _ _ _ _ c.requires.facts _ c.requires.externals _ _ _ _ _ _ _ c.requires.here.5 c.requires.here.6 _ _ _ _ c.in-Call.ensures) _ c.requires.externals

pub touched_in-requires-clause-ordered : goal.touched_in-requires-clause-ordered
touched_in-requires-clause-ordered c = call_ordered _ _ _ _ _ _ _ _ _ c.requires.facts _ _ _ _ _ _ _ c.requires.here.5 c.requires.here.6 _ _ _ _ (by_name _ _ _ _ _ _ _ _ _ c.requires.facts _ c.requires.externals _ _ _ _ _ _ _ c.requires.here.5 c.requires.here.6 _ _ _ _ c.in-Call.ensures)

pub touched_in-requires-clause-within : goal.touched_in-requires-clause-within
touched_in-requires-clause-within c = call_within _ _ _ _ _ _ _ _ _ c.requires.facts _ _ _ _ _ _ _ c.requires.here.5 c.requires.here.6 _ _ _ _ (by_name _ _ _ _ _ _ _ _ _ c.requires.facts _ c.requires.externals _ _ _ _ _ _ _ c.requires.here.5 c.requires.here.6 _ _ _ _ c.in-Call.ensures)

pub touched_in-requires-clause-each : goal.touched_in-requires-clause-each
touched_in-requires-clause-each c = call_slots _ _ _ _ _ _ _ _ _ c.requires.facts _ _ _ _ _ _ _ c.requires.here.5 c.requires.here.6 _ _ _ _ (by_name _ _ _ _ _ _ _ _ _ c.requires.facts _ c.requires.externals _ _ _ _ _ _ _ c.requires.here.5 c.requires.here.6 _ _ _ _ c.in-Call.ensures)

pub slot_at-slot-requires : goal.slot_at-slot-requires
slot_at-slot-requires c = first_inside _ _ _ _ _ _ _ _ _ c.requires.facts _ c.requires.externals _ _ _ _ _ _ _ c.requires.here.5 c.requires.here.6 _ _ _ c.in-CallAt.ensures

pub read_at-address-requires-in-CallAt-clause-slot : goal.read_at-address-requires-in-CallAt-clause-slot
read_at-address-requires-in-CallAt-clause-slot c = first_slot _ _ _ _ _ _ _ _ _ c.requires.facts _ c.requires.externals _ _ _ _ _ _ _ c.requires.here.5 c.requires.here.6 _ _ _ c.in-CallAt.ensures _ c.slot_at-slot.ensures

pub reached-requires-clause-within : goal.reached-requires-clause-within
reached-requires-clause-within c = place_inside _ _ _ _ _ _ _ _ _ c.requires.facts _ c.requires.externals _ _ _ _ _ _ _ c.requires.here.5 c.requires.here.6

pub returns-in_default-reached-clause-touch : goal.returns-in_default-reached-clause-touch
returns-in_default-reached-clause-touch c = λ regions sp frames held byte s h same. trap_touch touch.Nothing BadFunction _
    (traps_known _ _ _ _ _ _ _ _ _ c.requires.facts _ c.requires.externals _ _ _ _ _ _ _ s h _ _ _ c.in-CallAt.ensures _ _ c.slot_at-slot.ensures c.read_at-address-in-CallAt.ensures _ c.reached.ensures c.in_default-reached.is)

pub touched_in-requires-in-CallAt-clause-known : goal.touched_in-requires-in-CallAt-clause-known
touched_in-requires-in-CallAt-clause-known c = call_known _ _ _ _ _ _ _ _ _ c.requires.facts _ _ _ _ _ _ _ c.requires.here.5 c.requires.here.6 _ _ _ _ (leads_known _ _ _ _ _ _ _ _ _ c.requires.facts _ c.requires.externals _ _ _ _ _ _ _ c.requires.here.5 c.requires.here.6 _ _ _ c.in-CallAt.ensures _ _ c.slot_at-slot.ensures c.read_at-address-in-CallAt.ensures _ c.reached.ensures c.in-Some.k c.in-Ok.f c.in-Some-checked_add.rest c.in-Some.is (search rules) (search rules)) _ c.requires.externals

pub touched_in-requires-in-CallAt-clause-ordered : goal.touched_in-requires-in-CallAt-clause-ordered
touched_in-requires-in-CallAt-clause-ordered c = call_ordered _ _ _ _ _ _ _ _ _ c.requires.facts _ _ _ _ _ _ _ c.requires.here.5 c.requires.here.6 _ _ _ _ (leads_known _ _ _ _ _ _ _ _ _ c.requires.facts _ c.requires.externals _ _ _ _ _ _ _ c.requires.here.5 c.requires.here.6 _ _ _ c.in-CallAt.ensures _ _ c.slot_at-slot.ensures c.read_at-address-in-CallAt.ensures _ c.reached.ensures c.in-Some.k c.in-Ok.f c.in-Some-checked_add.rest c.in-Some.is (search rules) (search rules))

pub touched_in-requires-in-CallAt-clause-within : goal.touched_in-requires-in-CallAt-clause-within
touched_in-requires-in-CallAt-clause-within c = call_within _ _ _ _ _ _ _ _ _ c.requires.facts _ _ _ _ _ _ _ c.requires.here.5 c.requires.here.6 _ _ _ _ (leads_known _ _ _ _ _ _ _ _ _ c.requires.facts _ c.requires.externals _ _ _ _ _ _ _ c.requires.here.5 c.requires.here.6 _ _ _ c.in-CallAt.ensures _ _ c.slot_at-slot.ensures c.read_at-address-in-CallAt.ensures _ c.reached.ensures c.in-Some.k c.in-Ok.f c.in-Some-checked_add.rest c.in-Some.is (search rules) (search rules))

pub touched_in-requires-in-CallAt-clause-each : goal.touched_in-requires-in-CallAt-clause-each
touched_in-requires-in-CallAt-clause-each c = call_slots _ _ _ _ _ _ _ _ _ c.requires.facts _ _ _ _ _ _ _ c.requires.here.5 c.requires.here.6 _ _ _ _ (leads_known _ _ _ _ _ _ _ _ _ c.requires.facts _ c.requires.externals _ _ _ _ _ _ _ c.requires.here.5 c.requires.here.6 _ _ _ c.in-CallAt.ensures _ _ c.slot_at-slot.ensures c.read_at-address-in-CallAt.ensures _ c.reached.ensures c.in-Some.k c.in-Ok.f c.in-Some-checked_add.rest c.in-Some.is (search rules) (search rules))

pub returns-in-Load-clause-touch : goal.returns-in-Load-clause-touch
returns-in-Load-clause-touch c = λ regions sp frames held byte s h same. load_touch _ _ _ _ _ _ _ _ _ c.requires.facts _ _ _ _ _ _ _ s h _ _ _ _ _ c.in-Load.ensures c.read_at-address.ensures c.bytes_of.ensures

pub returns-in-Store-clause-touch : goal.returns-in-Store-clause-touch
returns-in-Store-clause-touch c = λ regions sp frames held byte s h same. store_touch _ _ _ _ _ _ _ _ _ c.requires.facts _ _ _ _ _ _ _ s h _ _ _ _ _ c.in-Store.ensures c.read_at-address-in-Store.ensures c.bytes_of-in-Store.ensures

pub returns-in-Call-clause-touch : goal.returns-in-Call-clause-touch
returns-in-Call-clause-touch c = λ regions sp frames held byte s h same. call_touches _ _ _ _ _ _ _ _ _ c.requires.facts _ _ _ _ _ _ _ s h _ _ _ _ (by_name _ _ _ _ _ _ _ _ _ c.requires.facts _ c.requires.externals _ _ _ _ _ _ _ s h _ _ _ _ c.in-Call.ensures) _ c.requires.externals c.touched_in.result _ same c.touched_in.ensures.touch

pub returns-in-Some-checked_add-clause-touch : goal.returns-in-Some-checked_add-clause-touch
returns-in-Some-checked_add-clause-touch c = λ regions sp frames held byte s h same. call_touches _ _ _ _ _ _ _ _ _ c.requires.facts _ _ _ _ _ _ _ s h _ _ _ _ (leads_known _ _ _ _ _ _ _ _ _ c.requires.facts _ c.requires.externals _ _ _ _ _ _ _ s h _ _ _ c.in-CallAt.ensures _ _ c.slot_at-slot.ensures c.read_at-address-in-CallAt.ensures _ c.reached.ensures c.in-Some.k c.in-Ok.f c.in-Some-checked_add.rest c.in-Some.is (search rules) (search rules)) _ c.requires.externals c.touched_in-in-CallAt.result _ same c.touched_in-in-CallAt.ensures.touch

pub returns-in_default-clause-touch : goal.returns-in_default-clause-touch
returns-in_default-clause-touch c = λ regions sp frames held byte s h same. other_touch _ _ _ _ _ _ _ _ _ c.requires.facts _ _ _ _ _ _ _ s h _ c.cell_at.ensures (quiet_as _ (λ w into x e. c.in_default.not-Load w into x e) (λ w y x e. c.in_default.not-Store w y x e) (λ into f from to e. c.in_default.not-Call into f from to e) (λ into from to e. c.in_default.not-CallAt into from to e))
