use Rattle.std.proofs.Common.{◌≡◌, ◌<◌, ◌^◌, ◌+◌, [], replicate, refl, rules}
use Rattle.no_machine.proofs.Begun.{begins}
use Rattle.no_machine.proofs.state.Core.begin.Goals as goal

pub returns-clause-begun : goal.returns-clause-begun
returns-clause-begun g c = λ p is main byte input s e.
    let few : c.home_at-home.result.registers < 2 ^ 31 = search rules in
    let slots : c.in_ok-slots.slots.items ≡ replicate (c.home_at-home.result.registers + 1) 0 = search rules in
    let none : c.new.result.items ≡ [] = search rules in
    begins p c.args.code.now is c.args.k c.home_at-home.result c.home_at-home.result.start _ c.in_ok-slots.slots.items c.new.result.items c.home_at-home.ensures few refl refl slots none main byte input s e
