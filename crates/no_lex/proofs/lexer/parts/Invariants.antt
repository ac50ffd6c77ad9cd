use Rattle.std.proofs.Common.{◌≤◌, ◌-◌, length}
use Rattle.no_lex.specs.Tokens.{Follow}
use Rattle.no_lex.proofs.lexer.parts.Given as goal

abbrev pub invariant-loop-fault : goal.invariant-loop-fault
invariant-loop-fault l = record { within : l.at ≤ length l.text; short : length l.text ≤ l.limit; follow : Follow l.text 0 l.all l.at }

abbrev pub decreases-loop-fault : goal.decreases-loop-fault
decreases-loop-fault l = length l.text - l.at
