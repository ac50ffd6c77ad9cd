use Rattle.std.proofs.Common.{◌≡◌, length}
use Rattle.no_read_constants.specs.Places.{is_flag}
use Rattle.no_read_constants.specs.Skipped.{skip_while}
use Rattle.no_read_constants.proofs.places.skip_flags.Given as goal

abbrev pub invariant-loop-rest : goal.invariant-loop-rest
invariant-loop-rest l = skip_while (is_flag l.text) l.rest ≡ skip_while (is_flag l.text) l.tokens

abbrev pub decreases-loop-rest : goal.decreases-loop-rest
decreases-loop-rest l = length l.rest
