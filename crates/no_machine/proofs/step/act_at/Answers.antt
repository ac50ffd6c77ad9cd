use Rattle.std.proofs.Common.{◌≡◌, ◌-◌, ℕ, List, rules, drop, length, subst}
use Rattle.std.proofs.lemmas.List.{take_rest}
use Rattle.std.proofs.lemmas.Slice.{between-put_mid}
use Rattle.no_machine.specs.Did.{Acted, Beside}
use Rattle.no_machine.proofs.Windowed.{window_of}
use Rattle.no_machine.proofs.step.act_at.Goals as goal

pub returns-clause-acted : goal.returns-clause-acted
returns-clause-acted g c =
    let a = c.args in
    let b : Beside = record { regions = g.M.Memory.regions a.mem.now; held = g.M.Memory.held a.mem.now; byte = g.M.Memory.byte a.mem.now; after = g.M.Memory.byte c.act.new.mem; sp = a.sp.now; sp_after = c.act.new.sp } in
    let size : length c.act.new.window ≡ length a.slots.now - a.base = search rules in
    subst (λ (l : List ℕ). Acted a.big a.pointer a.code.now b (drop a.base a.slots.now) l c.act.result a.cell) (window_of a.base a.slots.now _ c.act.new.window (search rules) (between-put_mid a.base (length a.slots.now - a.base) a.slots.now c.act.new.window (length a.slots.now) c.requires.inside size))
    (subst (λ (l : List ℕ). Acted a.big a.pointer a.code.now b l c.act.new.window c.act.result a.cell) (take_rest a.slots.now a.base) c.act.ensures.acted)
