use Rattle.std.proofs.Common.{◌≡◌, ◌+◌, ◌-◌, ◌*◌, ◌^◌, ◌≤◌, ℕ, List, None, length}
use Rattle.no_semantics.specs.States.{State}
use Rattle.no_machine.proofs.Slicing.{HasGone}
use Rattle.no_machine.specs.Ran.{IsAt, IsMade, Stays, budget_of, count_of, end_of, program_of}
use Rattle.no_machine.proofs.machine.Machine.go_on.Given as goal

abbrev pub invariant-bursts : goal.invariant-bursts
invariant-bursts g l = record {
  made : IsMade l.sound l.self;
  within : count_of l.self ≤ budget_of l.self;
  later : count_of l.fn.self ≤ count_of l.self;
  running : end_of l.self ≡ None;
  stays : Stays g.M.Memory.regions g.M.Memory.held l.fn.self l.self;
  gone : (more : List ℕ) (s : State) → IsAt g.M.Memory.byte g.M.Memory.held (program_of g.M.Memory.regions l.sound l.fn.self) l.fn.self l.fn.env more s
      → HasGone g.M.Memory.byte g.M.Memory.held (program_of g.M.Memory.regions l.sound l.fn.self) l.fn.self l.self l.fn.env l.env more s;
}

abbrev pub decreases-bursts : goal.decreases-bursts
decreases-bursts g l = (budget_of l.self - count_of l.self) * 2 ^ 64 + (2 ^ 64 - length l.self.core.slots.items)
