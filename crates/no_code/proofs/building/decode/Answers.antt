use Rattle.no_code.specs.Source.{source}
use Rattle.no_code.proofs.Whole.{code_made, functions_none}
use Rattle.no_code.proofs.building.decode.Goals as goal

pub functions-requires-clause-none : goal.functions-requires-clause-none
functions-requires-clause-none c =
    let a = c.args in
    functions_none (source a.program.now a.layout.now a.sizes.now a.addresses.now) a.program.now.functions c.in_ok-code.code c.in_ok-code.ensures.first c.in_ok-code.ensures.cells c.in_ok-code.ensures.places c.in_ok-code.ensures.homes

pub returns : goal.returns
returns c =
    let a = c.args in
    code_made (source a.program.now a.layout.now a.sizes.now a.addresses.now) c.functions.new.code c.put_cell.new.code c.nowhere.result c.in_ok-functions.ensures c.in_ok-put_cell.ensures
