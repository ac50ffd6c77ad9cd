use Rattle.std.proofs.Common.{◌≡◌, ◌≤◌, ◌+◌, length}
use Rattle.no_read_attributes.specs.Brackets.{behind_close}
use Rattle.no_read_attributes.proofs.attribute.to_close.Given as goal

abbrev pub invariant-loop-rest : goal.invariant-loop-rest
invariant-loop-rest l = record {
  few : l.depth + length l.rest ≤ length l.tokens;
  left : behind_close l.text l.opener l.closer l.depth l.rest ≡ behind_close l.text l.opener l.closer 0 l.tokens;
}

abbrev pub decreases-loop-rest : goal.decreases-loop-rest
decreases-loop-rest l = length l.rest
