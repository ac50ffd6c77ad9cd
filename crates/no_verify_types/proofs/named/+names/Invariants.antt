use Rattle.std.proofs.Common.{◌≡◌, ◌++◌, map, take}
use Rattle.std.specs.List.{concat}
use Rattle.no_verify_types.specs.Named.{constant_names}
use Rattle.no_verify_types.proofs.named.+names.Given as goal

abbrev pub invariant-add_constants-loop-constant : goal.invariant-add_constants-loop-constant
invariant-add_constants-loop-constant l = l.names.items ≡ l.fn.names.items ++ concat (map constant_names (take l.constant-index l.constants))
