use Rattle.std.proofs.Common.{◌≡◌, ◌≤◌, ◌++◌, ◌∷◌, [], length, rules, arith}
use Rattle.no_module.specs.Externals.{external_of}
use Rattle.no_machine.proofs.Tabled.{tabled_all, tabled_more}
use Rattle.no_machine.proofs.tables.externals_of.Goals as goal

pub loop-function-preserved : goal.loop-function-preserved
loop-function-preserved c =
    let put : c.push.new.self ≡ c.loop-function.table ++ c.external_of.result ∷ [] = search rules in
    tabled_more (external_of c.args.role) c.as_slice-function-items.result.now c.loop-function.table c.push.new.self c.loop-function.function-index c.function-item.result c.external_of.result c.loop-function.invariant c.function-item.is c.external_of.ensures put

pub returns : goal.returns
returns c =
    let le : length c.as_slice-function-items.result.now ≤ c.loop-function.function-index = omega (arith, c.loop-function-test.false) in
    tabled_all (external_of c.args.role) c.args.program.now.functions c.as_slice-function-items.result.now c.loop-function.table c.loop-function.function-index c.as_slice-function-items.ensures le c.loop-function.invariant
