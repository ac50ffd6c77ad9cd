use Rattle.std.proofs.Common.{◌≡◌, ◌≤◌, drop}
use Rattle.no_read_rules.specs.Numbers.{number_from}
use Rattle.no_read_rules.proofs.numbers.decimal.Given as goal

abbrev pub invariant-loop-digit : goal.invariant-loop-digit
invariant-loop-digit l = record { so_far : number_from l.most (drop l.digit-index l.digits) l.sum ≡ number_from l.most l.digits 0; within : l.sum ≤ l.most }
