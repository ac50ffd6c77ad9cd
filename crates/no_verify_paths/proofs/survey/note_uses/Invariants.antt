use Rattle.std.proofs.Common.{take}
use Rattle.no_verify_paths.specs.Survey.{Gathers, IsHere}
use Rattle.no_verify_paths.proofs.survey.note_uses.Given as goal

abbrev pub invariant-loop-register : goal.invariant-loop-register
invariant-loop-register l = Gathers (IsHere (take l.register-index l.registers) l.marks l.user) l.fn.needs.items l.needs.items
