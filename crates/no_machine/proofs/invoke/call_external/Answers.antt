use Rattle.std.proofs.Common.{refl, ◌≡◌}
use Rattle.no_module.specs.declared.external.External.TheVariants as external
use Rattle.no_machine.proofs.Devices.{alloca_does, map_does}
use Rattle.no_machine.proofs.invoke.call_external.Goals as goal

pub returns-in-Some-Alloca-clause-does : goal.returns-in-Some-Alloca-clause-does
returns-in-Some-Alloca-clause-does g c =
    let is : c.in-Some-Alloca.field-0 ≡ external.Alloca = rw c.in-Some-Alloca.is at c.in-Some-Alloca.field-0-is in
    alloca_does _ _ c.in-Some-Alloca.is _ _ _ _ _ _ _ _ _ _ _ _ _ _ _ _ _ (record { bytes = refl; blocks = refl; rest = refl; wrote = refl }) is (c.call_alloca.ensures c.args.frames.now.items)

pub returns-in-Some-Map-clause-does : goal.returns-in-Some-Map-clause-does
returns-in-Some-Map-clause-does g c =
    let is : c.in-Some-Map.field-0 ≡ external.Map = rw c.in-Some-Map.is at c.in-Some-Map.field-0-is in
    map_does _ _ c.in-Some-Map.is _ _ _ _ _ _ _ _ _ _ _ _ _ _ _ _ _ (record { bytes = refl; blocks = refl; rest = refl; wrote = refl }) is (c.call_map.ensures c.args.frames.now.items c.args.sp.now)
