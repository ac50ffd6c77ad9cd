use Rattle.std.proofs.Common.{◌≡◌, [], length}
use Rattle.no_read_rules.specs.Repeated.{repeat_all}
use Rattle.no_read_rules.specs.Scope.{seen}
use Rattle.no_read_instructions.specs.Instructions.{an_instr}
use Rattle.no_read_functions.specs.Blocks.{a_piece, with_open}
use Rattle.no_read_functions.proofs.blocks.more_blocks.Given as goal

abbrev pub invariant-loop-open : goal.invariant-loop-open
invariant-loop-open l =
    let step = a_piece (seen l.scope).text (an_instr (seen l.scope) l.role) in
    with_open l.all l.open.label l.open.instrs (repeat_all step l.locals l.rest) ≡ with_open [] l.fn.first.0 l.fn.first.1 (repeat_all step l.fn.locals l.tokens)

abbrev pub decreases-loop-open : goal.decreases-loop-open
decreases-loop-open l = length l.rest
