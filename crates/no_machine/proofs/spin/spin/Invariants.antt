use Rattle.std.proofs.Common.{◌≡◌}
use Rattle.no_semantics.specs.States.{State}
use Rattle.no_machine.specs.Turning.{IsHere, program_with}
use Rattle.no_machine.specs.Spun.{HasSpun}
use Rattle.no_machine.specs.declared.turn.Stop.TheVariants as stop
use Rattle.no_machine.proofs.spin.spin.Given as goal

abbrev pub invariant-loop-count : goal.invariant-loop-count
invariant-loop-count g l =
    let p = program_with l.facts.sound.now l.facts.addresses.now (g.M.Memory.regions l.fn.mem) in record {
      here : (s : State) × IsHere p l.at l.base l.sp l.slots l.frames.items (g.M.Memory.held l.fn.mem) (g.M.Memory.byte l.mem) s;
      spun : (s : State) → IsHere p l.stand.at l.stand.base l.fn.sp l.fn.slots l.fn.frames.items (g.M.Memory.held l.fn.mem) (g.M.Memory.byte l.fn.mem) s
          → HasSpun p stop.Spent l.count l.at l.base l.sp l.slots l.frames.items (g.M.Memory.held l.fn.mem) (g.M.Memory.byte l.mem) s;
      regions : g.M.Memory.regions l.mem ≡ g.M.Memory.regions l.fn.mem;
      held : g.M.Memory.held l.mem ≡ g.M.Memory.held l.fn.mem;
    }
