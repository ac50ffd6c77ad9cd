use Rattle.no_round_trip.proofs.BackAssembly.{read_back}
use Rattle.no_round_trip.proofs.BackStructs.{lifted_fit}
use Rattle.no_round_trip.proofs.printed.printed_modules_read_back.Goals as goal

pub returns : goal.returns
returns c =
    let types = c.definitions_lift_again.ensures in
    let names = c.names_are_the_modules.ensures in
    read_back c.a_module_lexes.ensures types.again types.spelled lifted_fit c.modules_mean_again.ensures names.globals names.functions
