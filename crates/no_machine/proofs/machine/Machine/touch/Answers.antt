use Rattle.std.proofs.Common.{◌≡◌, ℕ, List, sym, subst}
use Rattle.std.specs.Prelude.{IfSome}
use Rattle.no_semantics.specs.Acting.{row}
use Rattle.no_semantics.specs.Values.{Program}
use Rattle.no_machine.specs.Turning.{IsHere, program_with}
use Rattle.no_machine.specs.Watching.{IsTouchOf}
use Rattle.no_machine.proofs.machine.Machine.touch.Goals as goal

pub returns-clause-touch : goal.returns-clause-touch
returns-clause-touch g c = λ env more s at.
    let m = c.args.self.now in
    let P : List ℕ → Program = λ ads. program_with c.args.sound.now ads (g.M.Memory.regions m.core.mem) in
    let held = g.M.Memory.held m.core.mem in
    let byte = g.M.Memory.byte m.core.mem in
    let slots : IsHere (P m.addresses) m.core.at m.core.base m.core.sp c.as_slice-7.result.now m.core.frames.items held byte s =
    subst (λ (l : List ℕ). IsHere (P m.addresses) m.core.at m.core.base m.core.sp l m.core.frames.items held byte s) (sym c.as_slice-7.ensures.value) at.here in
    let here : IsHere (P c.as_slice.result.now) m.core.at m.core.base m.core.sp c.as_slice-7.result.now m.core.frames.items held byte s =
    subst (λ (ads : List ℕ). IsHere (P ads) m.core.at m.core.base m.core.sp c.as_slice-7.result.now m.core.frames.items held byte s) (sym c.as_slice.ensures) slots in
    subst (λ (ads : List ℕ). IfSome c.touched_at.result (λ t. IsTouchOf t (row (P ads) s))) c.as_slice.ensures (c.touched_at.ensures.touch (g.M.Memory.regions m.core.mem) m.core.sp m.core.frames.items held byte s here at.blocks)
