use Rattle.std.proofs.Common.{◌≡◌, ◌++◌, take, map}
use Rattle.no_verify_types.specs.Registers.{param_defined}
use Rattle.no_verify_types.proofs.registers.add_params.Given as goal

abbrev pub invariant-loop-param : goal.invariant-loop-param
invariant-loop-param l = l.all.items ≡ l.fn.all.items ++ map param_defined (take l.param-index l.params)
