use Rattle.std.proofs.Common.{◌≡◌, drop}
use Rattle.no_verify_types.specs.Tables.{marked}
use Rattle.no_verify_types.proofs.unknown.write_marks.Given as goal

abbrev pub invariant-loop-number : goal.invariant-loop-number
invariant-loop-number l = marked l.marks.items (drop l.number-index l.numbers) ≡ marked l.fn.marks.items l.numbers
