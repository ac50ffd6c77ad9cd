use Rattle.std.proofs.Common.{◌≡◌, drop}
use Rattle.no_ports.specs.Tally.{counts, count_of}
use Rattle.no_ports.proofs.tally.number_of.Given as goal

-- what was passed by has another name
abbrev pub invariant-loop-other : goal.invariant-loop-other
invariant-loop-other l = count_of (counts (drop l.other-index l.entries)) l.name ≡ count_of (counts l.entries) l.name
