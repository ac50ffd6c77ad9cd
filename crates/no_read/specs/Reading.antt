-- What a text reads to: the module that its type definitions and forms mean, or its first fault.
use Rattle.std.specs.Prelude.{◌≡◌, ℕ, List, ◌⊎◌, Result, Ok, Err}
use Rattle.std.specs.List.{zip}
use Rattle.no_ir.specs.declared.types.Ty.{Ty}
use Rattle.no_ir.specs.declared.function.Module.{Module}
use Rattle.no_ir.specs.declared.function.Role.{Role}
use Rattle.no_lex.specs.declared.token.Token.{Token}
use Rattle.no_read_rules.specs.declared.fault.Stopped.{Stopped}
use Rattle.no_read_types.specs.Lifted.{Lifts}
use Rattle.no_read_types.specs.declared.lifted.Lifted.{Lifted}
use Rattle.no_read_toplevel.specs.Modules.{IsModuleOf, forms_read}
use Rattle.no_read.specs.Faults.{read_fault}
use Rattle.no_read.specs.Knowing.{known_of, meaning_of, IsRefused}
use Rattle.no_read.specs.declared.fault.ReadFault.{ReadFault}
use Rattle.no_read.specs.declared.known.Known.{Known}

-- the named types by number, each with its name
abbrev pub typed : Known → List (List ℕ × Ty)
typed k = zip k.named k.types

-- a module with these named types
abbrev pub with_types : List (List ℕ × Ty) → Module → Module
with_types types m = record m { types = types }

-- the forms mean a module, beside what names mean
abbrev pub IsModuleBy : List ℕ → Role → Known → Module → Type 0
IsModuleBy text role k m = IsModuleOf (meaning_of text k) role (typed k) k.rest m

-- reading the forms gives a module, or stops
abbrev pub read_by : List ℕ → Role → Known → Result Module Stopped
read_by text role k = forms_read (meaning_of text k) role (typed k) k.rest

-- the type definitions are lifted out of the tokens, and the forms that are left mean the module
pub record IsModule (text : List ℕ) (role : Role) (tokens : List Token) (m : Module) : Type 0 where
  pub lifted : Lifted
  pub lifts : Lifts text tokens (Ok lifted)
  pub forms : IsModuleBy text role (known_of text lifted) m

-- the type definitions are lifted, and the first fault of the forms is this, by the text's own tokens
pub record IsStuck (text : List ℕ) (role : Role) (tokens : List Token) (f : ReadFault) : Type 0 where
  pub lifted : Lifted
  pub lifts : Lifts text tokens (Ok lifted)
  pub stopped : Stopped
  pub stops : read_by text role (known_of text lifted) ≡ Err stopped
  pub is : f ≡ read_fault text tokens stopped

-- the first fault: of the type definitions, or else of the forms
abbrev pub IsStopped : List ℕ → Role → List Token → ReadFault → Type 0
IsStopped text role tokens f = IsRefused text tokens f ⊎ IsStuck text role tokens f

-- what a text's tokens read to
abbrev pub Reads : List ℕ → Role → List Token → Result Module ReadFault → Type 0
Reads text role tokens (Ok m) = IsModule text role tokens m
Reads text role tokens (Err f) = IsStopped text role tokens f
