use Rattle.std.proofs.Common.{◌≡◌, drop, map}
use Rattle.no_machine.specs.Calling.{argument_in, passed_to}
use Rattle.no_machine.proofs.calls.pass.Given as goal

abbrev pub invariant-loop-k : goal.invariant-loop-k
invariant-loop-k l = passed_to (drop l.k l.params) (map (argument_in l.window l.constants) (drop l.k l.args)) l.free ≡ passed_to l.params (map (argument_in l.window l.constants) l.args) l.fn.free
