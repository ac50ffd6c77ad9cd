use Rattle.std.proofs.Common.{◌≡◌, false, sym, ap, subst}
use Rattle.no_cases.proofs.Absent.{is_absent, is_inside}
use Rattle.no_layout.specs.Memory.{access}
use Rattle.no_layout.specs.declared.memory.Access.TheVariants.{Missing}
use Rattle.no_machine.specs.Ran.{count_of, end_of, memory_of}
use Rattle.no_machine.specs.declared.machine.Machine.{Machine}
use Rattle.no_pages.specs.declared.table.PageTable.{PageTable}
use Rattle.no_cases.proofs.Standing.{all_supplied}
use Rattle.no_pages.specs.Table.{held_of, regions_of}
use Rattle.no_cases.proofs.machine.offer.Goals as goal

pub supply-requires-clause-absent : goal.supply-requires-clause-absent
supply-requires-clause-absent c =
    is_absent (regions_of (memory_of c.args.machine.now)) (held_of (memory_of c.args.machine.now)) 65536 c.in-Missing.page (subst (λ m. access (regions_of m) (held_of m) false 65536 1 ≡ Missing c.in-Missing.page) c.memory.ensures (sym c.in-Missing.ensures))

pub supply-requires-clause-inside : goal.supply-requires-clause-inside
supply-requires-clause-inside c =
    is_inside (regions_of (memory_of c.args.machine.now)) (held_of (memory_of c.args.machine.now)) 65536 c.in-Missing.page (subst (λ m. access (regions_of m) (held_of m) false 65536 1 ≡ Missing c.in-Missing.page) c.memory.ensures (sym c.in-Missing.ensures))

pub returns-in-Missing : goal.returns-in-Missing
returns-in-Missing c =
    all_supplied c.args.sound.now c.args.machine.now c.supply.new.self c.args.env.now c.in-Missing.page c.args.bytes.now c.supply.result c.requires (c.supply.ensures.made c.args.sound.now c.requires.made)
    (ap (λ (m : Machine PageTable). count_of m) c.supply.ensures.others) (ap (λ (m : Machine PageTable). end_of m) c.supply.ensures.others)
    (is_absent (regions_of (memory_of c.args.machine.now)) (held_of (memory_of c.args.machine.now)) 65536 c.in-Missing.page (subst (λ m. access (regions_of m) (held_of m) false 65536 1 ≡ Missing c.in-Missing.page) c.memory.ensures (sym c.in-Missing.ensures)))
    c.told-bytes c.supply.ensures.bytes c.supply.ensures.held (λ more s page at. c.supply.ensures.at c.args.sound.now c.args.env.now more s page at)
