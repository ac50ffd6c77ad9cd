-- Where the fault of a text stands: at a part of its tokens with which no text goes on.
use Rattle.std.specs.Prelude.{◌≡◌, ◌<◌, ℕ, length, List, ◌∷◌, ◌++◌, ◌⊎◌, Some, None, Ok, slice_get}
use Rattle.no_lex.specs.declared.token.Token.{Token}
use Rattle.no_ir.specs.declared.types.Ty.{Ty}
use Rattle.no_ir.specs.declared.function.Module.{Module}
use Rattle.no_ir.specs.declared.function.Role.{Role}
use Rattle.no_read_rules.specs.declared.fault.Stopped.{Stopped}
use Rattle.no_read_rules.specs.Scope.{Meaning}
use Rattle.no_read_types.specs.Lifted.{Lifts}
use Rattle.no_read_types.specs.declared.lifted.Lifted.{Lifted}
use Rattle.no_read_toplevel.specs.Modules.{IsModuleOf}
use Rattle.no_read.specs.Faults.{read_fault}
use Rattle.no_read.specs.Knowing.{known_of, meaning_of}
use Rattle.no_read.specs.Reading.{typed, Reads}
use Rattle.no_read.specs.declared.fault.ReadFault.{ReadFault}
use Rattle.no_fault_places.specs.Alike.{AreAlike, IsTypedAlike}
use Rattle.no_fault_places.specs.Prefixes.{IsPart}

-- ---- a place among tokens

-- a fault stands at the beginning of a part of the tokens, and of those up to the end of this part something is said
pub record StandsAt (Barred : List Token → Type 0) (tokens : List Token) (e : Stopped) : Type 0 where
  pub before : List Token
  pub token : Token
  pub more : List Token
  pub rest : List Token
  pub parts : tokens ≡ before ++ (token ∷ (more ++ rest))
  pub at : e.at ≡ Some token.start
  pub part : IsPart token more
  pub barred : Barred (before ++ (token ∷ more))

-- a fault stands at the end of the tokens, or so
abbrev pub IsPlaced : (List Token → Type 0) → List Token → Stopped → Type 0
IsPlaced Barred tokens e = (e.at ≡ None) ⊎ StandsAt Barred tokens e

-- ---- forms

-- no tokens that begin with these mean a module: neither tokens of the same text, nor those of another one that are spelled alike, where the named types mean the same
pub record IsBarred (m : Meaning) (role : Role) (types : List (List ℕ × Ty)) (used : List Token) : Type 0 where
  pub here : (other : List Token) (found : Module) → IsModuleOf m role types (used ++ other) found → ⊥
  pub elsewhere : (there : Meaning) (all : List (List ℕ × Ty)) (front other : List Token) (found : Module) → AreAlike m there used front → IsTypedAlike m there → IsModuleOf there role all (front ++ other) found → ⊥

-- ---- whole texts

-- another text has beside its type definitions first tokens that are alike to these, and its first named types are those of this text
pub record BeginsAlike (text : List ℕ) (lifted : Lifted) (used : List Token) (other : List ℕ) (tokens : List Token) : Type 0 where
  pub found : Lifted
  pub lifts : Lifts other tokens (Ok found)
  pub front : List Token
  pub rest : List Token
  pub parts : found.rest ≡ front ++ rest
  pub alike : AreAlike (meaning_of text (known_of text lifted)) (meaning_of other (known_of other found)) used front
  pub types : (k : ℕ) → k < length lifted.named → slice_get found.types k ≡ slice_get lifted.types k

-- no text that begins so reads to a module, whatever follows, and whatever globals, functions and further types it defines
pub record IsBarredText (text : List ℕ) (role : Role) (lifted : Lifted) (used : List Token) : Type 0 where
  pub forms : IsBarred (meaning_of text (known_of text lifted)) role (typed (known_of text lifted)) used
  pub texts : (other : List ℕ) (tokens : List Token) (found : Module) → BeginsAlike text lifted used other tokens → Reads other role tokens (Ok found) → ⊥

-- the fault of a text's forms: it stands where no text goes on, among the tokens that the text has beside its type definitions
pub record IsFormFault (text : List ℕ) (role : Role) (tokens : List Token) (f : ReadFault) : Type 0 where
  pub lifted : Lifted
  pub lifts : Lifts text tokens (Ok lifted)
  pub stopped : Stopped
  pub is : f ≡ read_fault text tokens stopped
  pub placed : IsPlaced (IsBarredText text role lifted) lifted.rest stopped
