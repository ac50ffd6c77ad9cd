use Rattle.std.proofs.Common.{rules, ◌≡◌, length}
use Rattle.no_machine.proofs.Supplied.{at_supplied}
use Rattle.no_machine.proofs.machine.Machine.supply.Goals as goal

pub returns-clause-at : goal.returns-clause-at
returns-clause-at g c =
    let long : length c.args.bytes.now ≡ 4096 = search rules in
    at_supplied g.M.Memory.byte g.M.Memory.held g.M.Memory.regions c.args.self.now c.supply.new.self c.args.page c.args.bytes.now long c.supply.ensures.regions c.supply.result c.supply.ensures.bytes c.supply.ensures.held c.supply.ensures.same c.supply.ensures.absent
