use Rattle.std.proofs.Common.{◌≡◌, map, take}
use Rattle.no_machine.specs.Calling.{argument_in}
use Rattle.no_machine.proofs.serve.gather.Given as goal

abbrev pub invariant-loop-arg : goal.invariant-loop-arg
invariant-loop-arg l = l.numbers.items ≡ map (argument_in l.window l.constants) (take l.arg-index l.args)
