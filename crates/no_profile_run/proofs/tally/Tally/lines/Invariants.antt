use Rattle.no_profile_run.proofs.Listing.{AreFirst}
use Rattle.no_profile_run.proofs.tally.Tally.lines.Given as goal

abbrev pub invariant-loop-k : goal.invariant-loop-k
invariant-loop-k l = AreFirst l.self l.functions l.lines l.k
