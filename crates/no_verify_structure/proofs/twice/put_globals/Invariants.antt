use Rattle.std.proofs.Common.{drop, not, take, ◌≡◌}
use Rattle.no_ir.specs.Naming.{is_known}
use Rattle.no_ir.specs.declared.function.GlobalVar.{GlobalVar}
use Rattle.no_verify_structure.specs.Finding.{first_break}
use Rattle.no_verify_structure.specs.Names.{globals_names}
use Rattle.no_verify_structure.proofs.twice.put_globals.Given as goal

abbrev pub invariant-loop-global : goal.invariant-loop-global
invariant-loop-global l = record { names : l.names ≡ globals_names (take l.global-index l.globals); rest : first_break (λ k (g : GlobalVar). not (is_known (globals_names (take k l.globals)) g.name)) 0 l.globals ≡ first_break (λ k (g : GlobalVar). not (is_known (globals_names (take k l.globals)) g.name)) l.global-index (drop l.global-index l.globals) }
