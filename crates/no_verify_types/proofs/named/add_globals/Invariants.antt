use Rattle.std.proofs.Common.{◌≡◌, ◌++◌, take}
use Rattle.std.specs.List.{flat_map}
use Rattle.no_verify_types.specs.Named.{global_names}
use Rattle.no_verify_types.proofs.named.add_globals.Given as goal

abbrev pub invariant-loop-global : goal.invariant-loop-global
invariant-loop-global l = l.names.items ≡ l.fn.names.items ++ flat_map global_names (take l.global-index l.globals)
