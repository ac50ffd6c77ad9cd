use Rattle.std.proofs.Common.{◌≡◌, ◌-◌, ◌^◌, ℕ, List, None, length}
use Rattle.no_semantics.specs.States.{State}
use Rattle.no_machine.proofs.Stepping.{HasKept}
use Rattle.no_machine.specs.Ran.{IsAt, IsMade, Stays, count_of, end_of, program_of}
use Rattle.no_machine.proofs.machine.Machine.take_row.Given as goal

abbrev pub invariant-rows : goal.invariant-rows
invariant-rows g l = record {
  made : IsMade l.sound l.self;
  counted : count_of l.self ≡ count_of l.fn.self;
  running : end_of l.self ≡ None;
  stays : Stays g.M.Memory.regions g.M.Memory.held l.fn.self l.self;
  same_end : l.env.ended ≡ l.fn.env.ended;
  kept : (more : List ℕ) (s : State) → IsAt g.M.Memory.byte g.M.Memory.held (program_of g.M.Memory.regions l.sound l.fn.self) l.fn.self l.fn.env more s
      → HasKept g.M.Memory.byte g.M.Memory.held (program_of g.M.Memory.regions l.sound l.fn.self) l.fn.self l.self l.fn.env l.env more s;
}

abbrev pub decreases-rows : goal.decreases-rows
decreases-rows g l = 2 ^ 64 - length l.self.core.slots.items
