use Rattle.std.proofs.Common.{◌≡◌, drop, map}
use Rattle.std.specs.List.{fold}
use Rattle.no_ir.specs.Naming.{with_name}
use Rattle.no_ir.specs.declared.function.Function.{Function}
use Rattle.no_print.specs.Modules.{names_once}
use Rattle.no_print.proofs.printing.function_names.Given as goal

abbrev pub invariant-loop-f : goal.invariant-loop-f
invariant-loop-f l = names_once (map (λ (f : Function). f.name) l.functions) ≡ fold with_name l.names (map (λ (f : Function). f.name) (drop l.f-index l.functions))
