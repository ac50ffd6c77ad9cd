-- The names that the printer looks up.
use Rattle.std.specs.Prelude.{ℕ, List, map}
use Rattle.no_ir.specs.declared.types.Ty.{Ty}
use Rattle.no_print.specs.declared.scope.Scope.{Scope}
use Rattle.no_print.specs.Constants.{Spelled}

-- what a scope spells
abbrev pub spelled_by : Scope → Spelled
spelled_by scope = record {
  named = map (λ (t : List ℕ × Ty). t.0) scope.types.now;
  types = map (λ (t : List ℕ × Ty). t.1) scope.types.now;
  globals = scope.globals.now;
  functions = scope.functions.now;
}
