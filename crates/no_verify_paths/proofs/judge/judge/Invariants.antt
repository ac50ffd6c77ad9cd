use Rattle.std.proofs.Common.{take}
use Rattle.std.specs.List.{Contains}
use Rattle.no_verify_paths.specs.Judge.{Judged}
use Rattle.no_verify_paths.proofs.judge.judge.Given as goal

abbrev pub invariant-loop-need : goal.invariant-loop-need
invariant-loop-need l = Judged l.function (Contains (take l.need-index l.needs)) l.initial.found l.found
