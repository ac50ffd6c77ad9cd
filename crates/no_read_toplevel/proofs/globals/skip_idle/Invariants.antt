use Rattle.std.proofs.Common.{◌≡◌, length}
use Rattle.no_read_toplevel.specs.Globals.{is_idle}
use Rattle.no_read_constants.specs.Skipped.{skip_while}
use Rattle.no_read_toplevel.proofs.globals.skip_idle.Given as goal

abbrev pub invariant-loop-rest : goal.invariant-loop-rest
invariant-loop-rest l = skip_while (is_idle l.text) l.rest ≡ skip_while (is_idle l.text) l.tokens

abbrev pub decreases-loop-rest : goal.decreases-loop-rest
decreases-loop-rest l = length l.rest
