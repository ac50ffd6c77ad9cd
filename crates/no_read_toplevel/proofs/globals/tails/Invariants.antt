use Rattle.std.proofs.Common.{◌≡◌, None, length}
use Rattle.no_read_toplevel.proofs.GlobalLaws.{tails_from}
use Rattle.no_read_toplevel.proofs.globals.tails.Given as goal

abbrev pub invariant-loop-item : goal.invariant-loop-item
invariant-loop-item l = tails_from l.text l.found l.rest ≡ tails_from l.text None l.tokens

abbrev pub decreases-loop-item : goal.decreases-loop-item
decreases-loop-item l = length l.rest
