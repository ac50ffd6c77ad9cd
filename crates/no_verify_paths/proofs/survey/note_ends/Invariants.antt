use Rattle.std.proofs.Common.{take}
use Rattle.no_verify_paths.specs.Survey.{Gathers, IsThere}
use Rattle.no_verify_paths.proofs.survey.note_ends.Given as goal

abbrev pub invariant-loop-pair : goal.invariant-loop-pair
invariant-loop-pair l = Gathers (IsThere l.labels (take l.pair-index l.pairs) l.user) l.fn.needs.items l.needs.items
