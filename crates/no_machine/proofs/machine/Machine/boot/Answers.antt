use Rattle.std.proofs.Common.{rules, ◌≡◌, ◌∙◌, List, Some, None, refl, sym, ap, subst, length, true, arith}
use Rattle.no_ir.specs.declared.function.Module.{Module}
use Rattle.no_ir.specs.declared.function.Role.{Role}
use Rattle.no_layout.specs.declared.extent.Extent.{Extent}
use Rattle.no_layout.specs.declared.layout.Layout.{Layout}
use Rattle.no_semantics.specs.Sound.{is_sound, table_holds}
use Rattle.no_semantics.specs.Starts.{main_from}
use Rattle.no_semantics.proofs.Facts.{table_is}
use Rattle.no_taken.specs.Marked.{AreTaken}
use Rattle.no_machine.specs.Outside.{AreExternals}
use Rattle.no_machine.specs.Turning.{AreDeclared}
use Rattle.no_machine.specs.declared.machine.Machine.{Machine}
use Rattle.no_machine.proofs.Booting.{booted, coded, homed}
use Rattle.no_machine.proofs.machine.Machine.boot.Goals as goal

pub decode-requires-clause-table : goal.decode-requires-clause-table
decode-requires-clause-table g c =
    subst (λ (l : Layout). table_holds l c.sizes.result.now 0 c.module-2.result.now.types ≡ true) (sym c.layout.ensures.value)
    (subst (λ (x : List Extent). table_holds c.args.sound.now.layout x 0 c.module-2.result.now.types ≡ true) (sym c.sizes.ensures) (table_is c.module-2.result.now c.args.sound.now.layout c.args.sound.now.sizes c.module-2.ensures.sound))

pub begin-requires : goal.begin-requires
begin-requires g c =
    let same : c.in-Ok.k ≡ c.main_of-first.result = search rules in
    let functions : c.as_slice.result.now ≡ c.module-2.result.now.functions = c.as_slice.ensures ∙ ap (λ (m : Module). m.functions) (c.module.ensures.value ∙ sym c.module-2.ensures.value) in
    record { within = homed _ c.in_ok-code.code c.in-Ok.k c.in_ok-code.ensures (omega (arith, same, c.main_of-first.ensures.inside, ap length functions)) }

pub returns : goal.returns
returns g c =
    let m : Machine g.row.M.Denot = record { code = c.in_ok-code.code; declared = c.in_ok-declared.declared; externals = c.in_ok-externals.externals; taken = c.in_ok-taken.taken; addresses = c.args.addresses; core = c.in_ok-core.core; count = 0; budget = c.args.budget; end = None } in
    let same : c.main_of-first.result ≡ c.in-Ok.k = search rules in
    let functions : c.as_slice.result.now ≡ c.args.sound.now.«module».functions = c.as_slice.ensures ∙ ap (λ (x : Module). x.functions) c.module.ensures.value in
    let main : main_from 0 c.args.sound.now.«module».functions ≡ Some c.in-Ok.k = ap (main_from 0) (sym functions) ∙ c.main_of-first.ensures.is ∙ ap Some same in
    record {
      booted = booted g.M.Memory.byte g.M.Memory.held g.M.Memory.regions c.args.sound.now c.args.mem m
          (subst (λ (x : Module). is_sound x c.args.sound.now.layout c.args.sound.now.sizes ≡ true) c.module.ensures.value c.module.ensures.sound) c.requires.marks
          (coded _ _ _ _ _ _ _ _ c.in_ok-code.code c.module-2.ensures.value c.layout.ensures.value c.sizes.ensures c.as_slice-2.ensures c.in_ok-code.ensures)
          (subst (λ (x : Module). AreDeclared x c.in_ok-declared.declared) c.module-3.ensures.value c.in_ok-declared.ensures)
          (subst (λ (x : Module). AreExternals x c.args.sound.now.role c.in_ok-externals.externals) c.module-4.ensures.value (subst (λ (r : Role). AreExternals c.module-4.result.now r c.in_ok-externals.externals) c.role.ensures c.in_ok-externals.ensures))
          (subst (λ (x : Module). AreTaken x c.in_ok-taken.taken) c.module-5.ensures.value c.in_ok-taken.ensures)
          c.in-Ok.k main c.in_ok-core.ensures.begun c.in_ok-core.ensures.memory (c.in_ok-core.ensures.heap ∙ c.in_ok-heap.ensures.empty) refl refl;
    }
