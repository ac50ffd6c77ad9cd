-- What the names of a text mean, before its forms are read.
use Rattle.std.specs.Prelude.{◌≡◌, ℕ, List, Result, Ok, Err}
use Rattle.no_lex.specs.declared.token.Token.{Token}
use Rattle.no_read_rules.specs.declared.fault.Stopped.{Stopped}
use Rattle.no_read_rules.specs.declared.fault.Stop.{Stop}
use Rattle.no_read_rules.specs.declared.fault.Stop.TheVariants as stop
use Rattle.no_read_rules.specs.Scope.{Meaning}
use Rattle.no_read_types.specs.Lifted.{Lifts}
use Rattle.no_read_types.specs.declared.lifted.Lifted.{Lifted}
use Rattle.no_read_symbols.specs.Scan.{symbols_in}
use Rattle.no_read.specs.Faults.{read_fault}
use Rattle.no_read.specs.declared.fault.ReadError.{ReadError}
use Rattle.no_read.specs.declared.fault.ReadError.TheVariants as error
use Rattle.no_read.specs.declared.fault.ReadFault.{ReadFault}
use Rattle.no_read.specs.declared.known.Known.{Known}

-- the named types by number, the names of globals and functions, and the tokens without type definitions
abbrev pub known_of : List ℕ → Lifted → Known
known_of text lifted = record {
  named = lifted.named;
  types = lifted.types;
  globals = (symbols_in text lifted.rest).globals;
  functions = (symbols_in text lifted.rest).functions;
  rest = lifted.rest;
}

-- what a text's names mean, where its type definitions have no fault
pub record IsKnown (text : List ℕ) (tokens : List Token) (k : Known) : Type 0 where
  pub lifted : Lifted
  pub lifts : Lifts text tokens (Ok lifted)
  pub is : k ≡ known_of text lifted

-- the fault of its type definitions
pub record IsRefused (text : List ℕ) (tokens : List Token) (f : ReadFault) : Type 0 where
  pub stopped : Stopped
  pub lifts : Lifts text tokens (Err stopped)
  pub is : f ≡ read_fault text tokens stopped

-- what a text's names mean, or the fault of its type definitions
abbrev pub Knows : List ℕ → List Token → Result Known ReadFault → Type 0
Knows text tokens (Ok k) = IsKnown text tokens k
Knows text tokens (Err f) = IsRefused text tokens f

-- what is said of an answer, unless memory ran out
abbrev pub Answers : {A : Type 0} → Result A ReadError → (Result A ReadFault → Type 0) → Type 0
Answers (Ok a) P = P (Ok a)
Answers (Err (error.Fault f)) P = P (Err f)
Answers (Err error.NoMemory) P = Unit {0}

-- what names mean in forms
abbrev pub meaning_of : List ℕ → Known → Meaning
meaning_of text k = record { text = text; named = k.named; types = k.types; globals = k.globals; functions = k.functions }

-- the error where reading stopped; a fault can't be told where memory ran out
abbrev pub StopsAs : List ℕ → List Token → Stop → ReadError → Type 0
StopsAs text tokens stop.NoMemory e = e ≡ error.NoMemory
StopsAs text tokens (stop.Fault stopped) error.NoMemory = Unit {0}
StopsAs text tokens (stop.Fault stopped) (error.Fault f) = f ≡ read_fault text tokens stopped
