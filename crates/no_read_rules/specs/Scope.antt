-- What names mean in a text.
use Rattle.std.specs.Prelude.{ℕ, List}
use Rattle.no_ir.specs.declared.types.Ty.{Ty}
use Rattle.no_read_rules.specs.declared.scope.Scope.{Scope}

-- the text, the names of the named types by number, and what these name
pub record Meaning : Type 0 where
  pub text : List ℕ
  pub named : List (List ℕ)
  pub types : List Ty
  pub globals : List (List ℕ)
  pub functions : List (List ℕ)

-- a scope as specifications see it
abbrev pub seen : Scope → Meaning
seen scope = record { text = scope.text.now; named = scope.named.now; types = scope.types.now; globals = scope.globals.now; functions = scope.functions.now }
