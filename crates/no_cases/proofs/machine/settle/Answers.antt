use Rattle.no_cases.proofs.Standing.{ready}
use Rattle.no_cases.proofs.machine.settle.Goals as goal

pub returns : goal.returns
returns c = ready c.args.sound.now c.args.machine.now c.args.env.now c.requires
