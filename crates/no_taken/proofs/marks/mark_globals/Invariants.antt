use Rattle.std.proofs.Common.{◌≡◌, drop}
use Rattle.std.specs.List.{flat_map}
use Rattle.no_verify_types.specs.Named.{global_names}
use Rattle.no_taken.specs.Marked.{marked}
use Rattle.no_taken.proofs.marks.mark_globals.Given as goal

abbrev pub invariant-loop-global : goal.invariant-loop-global
invariant-loop-global l = marked (flat_map global_names (drop l.global-index l.globals)) l.flags ≡ marked (flat_map global_names l.globals) l.fn.flags
