use Rattle.std.proofs.Common.{◌≡◌, drop}
use Rattle.no_read.specs.Faults.{token_at}
use Rattle.no_read.proofs.fault.token_at.Given as goal

abbrev pub invariant-loop-token : goal.invariant-loop-token
invariant-loop-token l = token_at l.place (drop l.token-index l.tokens) ≡ token_at l.place l.tokens
