use Rattle.std.proofs.Common.{◌≡◌, drop}
use Rattle.std.specs.List.{list_all}
use Rattle.no_verify_types.specs.Typing.{argument_fits}
use Rattle.no_verify_types.proofs.operands.arguments_fit.Given as goal

abbrev pub invariant-loop-argument : goal.invariant-loop-argument
invariant-loop-argument l = list_all (argument_fits l.program l.role l.types) l.arguments ≡ list_all (argument_fits l.program l.role l.types) (drop l.argument-index l.arguments)
