use Rattle.std.proofs.Common.{◌≡◌, length}
use Rattle.no_read_constants.specs.Skipped.{skip_while}
use Rattle.no_read_operations.specs.Operands.{is_flag_word}
use Rattle.no_read_operations.proofs.operands.skip_flag_words.Given as goal

abbrev pub invariant-loop-rest : goal.invariant-loop-rest
invariant-loop-rest l = skip_while (is_flag_word l.text l.flags) l.rest ≡ skip_while (is_flag_word l.text l.flags) l.tokens

abbrev pub decreases-loop-rest : goal.decreases-loop-rest
decreases-loop-rest l = length l.rest
