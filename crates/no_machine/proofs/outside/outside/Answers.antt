use Rattle.std.proofs.Common.{◌<◌, ◌^◌, length, refl, rules, arith}
use Rattle.no_machine.proofs.Reaches.{by_name, does, first_inside, first_slot, leads_known, needs, next_fits, no_other, place_inside, reads_each, trap_outs, traps_known}
use Rattle.no_machine.proofs.Turns.{at_inside}
use Rattle.no_machine.proofs.outside.outside.Goals as goal

pub cell_at-requires : goal.cell_at-requires
cell_at-requires g c = at_inside _ _ _ _ _ _ _ _ _ c.requires.facts _ _ _ _ _ _ _ c.requires.here.0 c.requires.here.1

pub invoke-requires-clause-ready : goal.invoke-requires-clause-ready
invoke-requires-clause-ready g c =
    let few : length c.args.facts.cells.now < 2 ^ 64 = search rules in
    needs _ _ _ _ _ _ _ _ _ c.requires.facts _ c.requires.externals _ _ _ _ _ _ _ c.requires.here.0 c.requires.here.1 _ _ _ _ (by_name _ _ _ _ _ _ _ _ _ c.requires.facts _ c.requires.externals _ _ _ _ _ _ _ c.requires.here.0 c.requires.here.1 _ _ _ _ c.in-Call.ensures) (next_fits _ _ _ _ _ _ _ _ _ c.requires.facts _ c.requires.externals _ _ _ _ _ _ _ c.requires.here.0 c.requires.here.1 few)

pub invoke-requires-clause-each : goal.invoke-requires-clause-each
invoke-requires-clause-each g c = reads_each _ _ _ _ _ _ _ _ _ c.requires.facts _ c.requires.externals _ _ _ _ _ _ _ c.requires.here.0 c.requires.here.1 _ _ _ _ (by_name _ _ _ _ _ _ _ _ _ c.requires.facts _ c.requires.externals _ _ _ _ _ _ _ c.requires.here.0 c.requires.here.1 _ _ _ _ c.in-Call.ensures)

pub slot_at-slot-requires : goal.slot_at-slot-requires
slot_at-slot-requires g c = first_inside _ _ _ _ _ _ _ _ _ c.requires.facts _ c.requires.externals _ _ _ _ _ _ _ c.requires.here.0 c.requires.here.1 _ _ _ c.in-CallAt.ensures

pub read_at-address-requires-clause-slot : goal.read_at-address-requires-clause-slot
read_at-address-requires-clause-slot g c = first_slot _ _ _ _ _ _ _ _ _ c.requires.facts _ c.requires.externals _ _ _ _ _ _ _ c.requires.here.0 c.requires.here.1 _ _ _ c.in-CallAt.ensures _ c.slot_at-slot.ensures

pub reached-requires-clause-within : goal.reached-requires-clause-within
reached-requires-clause-within g c = place_inside _ _ _ _ _ _ _ _ _ c.requires.facts _ c.requires.externals _ _ _ _ _ _ _ c.requires.here.0 c.requires.here.1

pub returns-in_default-reached-clause-outs : goal.returns-in_default-reached-clause-outs
returns-in_default-reached-clause-outs g c = λ s more h heap input last. trap_outs _ _ _ _ _ _ _ _ _ c.requires.facts _ c.requires.externals _ _ _ _ _ _ _ s h _ more _ (omega (arith, c.requires.some)) (record { bytes = refl; blocks = refl; rest = refl; wrote = refl })
    (traps_known _ _ _ _ _ _ _ _ _ c.requires.facts _ c.requires.externals _ _ _ _ _ _ _ s h _ _ _ c.in-CallAt.ensures _ _ c.slot_at-slot.ensures c.read_at-address.ensures _ c.reached.ensures c.in_default-reached.is)

pub invoke-requires-in-CallAt-clause-ready : goal.invoke-requires-in-CallAt-clause-ready
invoke-requires-in-CallAt-clause-ready g c =
    let few : length c.args.facts.cells.now < 2 ^ 64 = search rules in
    needs _ _ _ _ _ _ _ _ _ c.requires.facts _ c.requires.externals _ _ _ _ _ _ _ c.requires.here.0 c.requires.here.1 _ _ _ _ (leads_known _ _ _ _ _ _ _ _ _ c.requires.facts _ c.requires.externals _ _ _ _ _ _ _ c.requires.here.0 c.requires.here.1 _ _ _ c.in-CallAt.ensures _ _ c.slot_at-slot.ensures c.read_at-address.ensures _ c.reached.ensures c.in-Some.k c.in-Ok.f c.in-Some-checked_add.rest c.in-Some.is (search rules) (search rules)) (next_fits _ _ _ _ _ _ _ _ _ c.requires.facts _ c.requires.externals _ _ _ _ _ _ _ c.requires.here.0 c.requires.here.1 few)

pub invoke-requires-in-CallAt-clause-each : goal.invoke-requires-in-CallAt-clause-each
invoke-requires-in-CallAt-clause-each g c =
    reads_each _ _ _ _ _ _ _ _ _ c.requires.facts _ c.requires.externals _ _ _ _ _ _ _ c.requires.here.0 c.requires.here.1 _ _ _ _ (leads_known _ _ _ _ _ _ _ _ _ c.requires.facts _ c.requires.externals _ _ _ _ _ _ _ c.requires.here.0 c.requires.here.1 _ _ _ c.in-CallAt.ensures _ _ c.slot_at-slot.ensures c.read_at-address.ensures _ c.reached.ensures c.in-Some.k c.in-Ok.f c.in-Some-checked_add.rest c.in-Some.is (search rules) (search rules))

pub returns-in-Call-clause-outs : goal.returns-in-Call-clause-outs
returns-in-Call-clause-outs g c = λ s more h heap input last. does _ _ _ _ _ _ _ _ _ c.requires.facts _ c.requires.externals _ _ _ _ _ _ _ s h _ _ _ _ (by_name _ _ _ _ _ _ _ _ _ c.requires.facts _ c.requires.externals _ _ _ _ _ _ _ s h _ _ _ _ c.in-Call.ensures) _ _ _ _ refl refl more _ (omega (arith, c.requires.some)) heap input last _ _ _ _ _ c.invoke.ensures.invoked

pub returns-in-Some-checked_add-clause-outs : goal.returns-in-Some-checked_add-clause-outs
returns-in-Some-checked_add-clause-outs g c = λ s more h heap input last.
    does _ _ _ _ _ _ _ _ _ c.requires.facts _ c.requires.externals _ _ _ _ _ _ _ s h _ _ _ _ (leads_known _ _ _ _ _ _ _ _ _ c.requires.facts _ c.requires.externals _ _ _ _ _ _ _ s h _ _ _ c.in-CallAt.ensures _ _ c.slot_at-slot.ensures c.read_at-address.ensures _ c.reached.ensures c.in-Some.k c.in-Ok.f c.in-Some-checked_add.rest c.in-Some.is (search rules) (search rules)) _ _ _ _ refl refl more _ (omega (arith, c.requires.some)) heap input last _ _ _ _ _ c.invoke-in-CallAt.ensures.invoked

pub unreachable-requires : goal.unreachable-requires
unreachable-requires g c = no_other _ _ _ _ _ _ _ _ _ c.requires.facts _ c.requires.externals _ _ _ _ _ _ _ c.requires.here.0 c.requires.here.1 c.requires.here.2 _ c.cell_at.ensures c.in_default.not-Call c.in_default.not-CallAt
