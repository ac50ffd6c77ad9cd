use Rattle.std.proofs.Common.{◌≡◌, ◌++◌, take}
use Rattle.std.specs.List.{flat_map}
use Rattle.no_verify_types.specs.Named.{function_names}
use Rattle.no_verify_types.proofs.named.add_functions.Given as goal

abbrev pub invariant-loop-function : goal.invariant-loop-function
invariant-loop-function l = l.names.items ≡ l.fn.names.items ++ flat_map function_names (take l.function-index l.functions)
