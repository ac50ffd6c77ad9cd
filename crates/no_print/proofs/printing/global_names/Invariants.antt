use Rattle.std.proofs.Common.{◌≡◌, drop, map}
use Rattle.std.specs.List.{fold}
use Rattle.no_ir.specs.Naming.{with_name}
use Rattle.no_ir.specs.declared.function.GlobalVar.{GlobalVar}
use Rattle.no_print.specs.Modules.{names_once}
use Rattle.no_print.proofs.printing.global_names.Given as goal

abbrev pub invariant-loop-g : goal.invariant-loop-g
invariant-loop-g l = names_once (map (λ (g : GlobalVar). g.name) l.globals) ≡ fold with_name l.names (map (λ (g : GlobalVar). g.name) (drop l.g-index l.globals))
