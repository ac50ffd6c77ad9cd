use Rattle.no_machine.proofs.Booting.{found}
use Rattle.no_machine.proofs.boot.main_of.Goals as goal

pub returns-then-is_main : goal.returns-then-is_main
returns-then-is_main c =
    record {
      is = found c.args.functions.now c.loop-index.index c.index-functions-index.result c.loop-index-test.true c.index-functions-index.is c.if-is_main.ensures c.loop-index.invariant;
      inside = c.loop-index-test.true;
    }
