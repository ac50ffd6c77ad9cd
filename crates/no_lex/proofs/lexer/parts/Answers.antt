use Rattle.no_lex.proofs.Looking.{falls}
use Rattle.no_lex.proofs.lexer.parts.Goals as goal

pub loop-fault-smaller : goal.loop-fault-smaller
loop-fault-smaller c = falls c.args.text.now c.loop-fault.at c.in-Found.token c.loop-fault.invariant.within c.in-Found.ensures
