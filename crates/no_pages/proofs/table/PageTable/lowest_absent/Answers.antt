use Rattle.std.proofs.Common.{◌≡◌, ◌∙◌, ◌+◌, ◌-◌, ℕ, true, ap, arith}
use Rattle.no_layout.specs.Memory.{first_absent}
use Rattle.no_pages.specs.Table.{held_of}
use Rattle.no_pages.proofs.First.{first_held}
use Rattle.no_pages.proofs.table.PageTable.lowest_absent.Goals as goal

pub loop-step-preserved : goal.loop-step-preserved
loop-step-preserved c =
    let held = held_of c.args.self.now in
    let k = c.args.count - (c.loop-step.step + 1) in
    let next : c.args.first + c.loop-step.step + 1 ≡ c.args.first + (c.loop-step.step + 1) = omega arith in
    let h : held (c.args.first + c.loop-step.step) ≡ true = cc in
    c.loop-step.invariant ∙ first_held held (c.args.first + c.loop-step.step) (c.args.count - c.loop-step.step) k (omega arith) h ∙ ap (λ (p : ℕ). first_absent held p k) next
