use Rattle.std.proofs.Common.{◌≡◌, drop}
use Rattle.std.specs.List.{flat_map}
use Rattle.no_verify_types.specs.Named.{constant_names}
use Rattle.no_taken.specs.Marked.{marked}
use Rattle.no_taken.proofs.marks.+taken.Given as goal

abbrev pub invariant-mark_constants-loop-constant : goal.invariant-mark_constants-loop-constant
invariant-mark_constants-loop-constant l = marked (flat_map constant_names (drop l.constant-index l.constants)) l.flags ≡ marked (flat_map constant_names l.constants) l.fn.flags
