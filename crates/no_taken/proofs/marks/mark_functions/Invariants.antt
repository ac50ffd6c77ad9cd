use Rattle.std.proofs.Common.{◌≡◌, drop}
use Rattle.std.specs.List.{flat_map}
use Rattle.no_semantics.specs.Taken.{function_taken}
use Rattle.no_taken.specs.Marked.{marked}
use Rattle.no_taken.proofs.marks.mark_functions.Given as goal

abbrev pub invariant-loop-function : goal.invariant-loop-function
invariant-loop-function l = marked (flat_map function_taken (drop l.function-index l.functions)) l.flags ≡ marked (flat_map function_taken l.functions) l.fn.flags
