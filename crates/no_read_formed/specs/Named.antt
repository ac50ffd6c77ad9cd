-- What names mean in the forms of a text, beside the text itself.
use Rattle.std.specs.Prelude.{◌≡◌, ℕ, List, length, true}
use Rattle.no_lex.specs.declared.token.Token.{Token}
use Rattle.no_ir.specs.declared.types.Ty.{Ty}
use Rattle.no_read_rules.specs.Scope.{Meaning}
use Rattle.no_read_symbols.specs.Scan.{symbols_in}
use Rattle.no_read_types.specs.declared.lifted.Lifted.{Lifted}
use Rattle.no_read_constants.specs.Constants.{resolved}
use Rattle.no_module.specs.Formed.{types_formed}
use Rattle.no_module.specs.Named.{resolved as stands_for}

-- the names of globals and functions are those that a scan of the tokens finds, a named type means the module's type of its
-- number, and each of the module's named types is formed and refers to lower numbers alone
pub record IsTyped (m : Meaning) (types : List (List ℕ × Ty)) (tokens : List Token) : Type 0 where
  pub globals : m.globals ≡ (symbols_in m.text tokens).globals
  pub functions : m.functions ≡ (symbols_in m.text tokens).functions
  pub named : length types ≡ length m.named
  pub stand : (t : Ty) → resolved m t ≡ stands_for types t
  pub lower : types_formed 0 types ≡ true

-- what names mean in the forms of a text, once its type definitions are lifted out
abbrev pub meaning_in : List ℕ → Lifted → Meaning
meaning_in text x = record { text = text; named = x.named; types = x.types; globals = (symbols_in text x.rest).globals; functions = (symbols_in text x.rest).functions }
