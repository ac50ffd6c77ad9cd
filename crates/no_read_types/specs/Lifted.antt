-- What a text's type definitions give: types by number, their names, and the tokens that are left.
use Rattle.std.specs.Prelude.{◌≡◌, ℕ, ◌<◌, List, [], ◌∷◌, ◌++◌, map, length, get_or, slice_get, Option, Some, None, Result, Ok, Err}
use Rattle.std.specs.Option.{option_map}
use Rattle.no_lex.specs.declared.token.Token.{Token}
use Rattle.no_ir.specs.Naming.{with_name}
use Rattle.no_ir.specs.declared.types.Ty.{Ty}
use Rattle.no_ir.specs.declared.types.Ty.TheOpen.{Ty-F}
use Rattle.no_ir.specs.declared.types.Ty.TheFolds.{fold-Ty}
use Rattle.no_ir.specs.declared.types.Ty.TheVariants as ty
use Rattle.no_read_rules.specs.declared.fault.Flaw.TheVariants.{Circle}
use Rattle.no_read_rules.specs.declared.fault.Stopped.{Stopped}
use Rattle.no_read_rules.specs.declared.fault.Stop.{Stop}
use Rattle.no_read_rules.specs.declared.fault.Stop.TheVariants as stop
use Rattle.no_read_types.specs.declared.definition.Definition.{Definition}
use Rattle.no_read_types.specs.declared.definition.Lifting.{Lifting}
use Rattle.no_read_types.specs.declared.lifted.Lifted.{Lifted}
use Rattle.no_read_types.specs.Graph.{graph_of, order_of, number_of, IsFirstOnCircle}
use Rattle.no_read_types.specs.Lifting.{type_definitions}

-- ---- types by number

-- one form of a type with other numbers, where the types inside it have them
abbrev pub renumber_step : (ℕ → ℕ) → Ty-F Ty → Ty
renumber_step number Ty-F.Void = ty.Void
renumber_step number (Ty-F.Int width) = ty.Int width
renumber_step number Ty-F.Ptr = ty.Ptr
renumber_step number (Ty-F.Array count element) = ty.Array count element
renumber_step number (Ty-F.Struct packed fields) = ty.Struct packed fields
renumber_step number (Ty-F.Named n) = ty.Named (number n)

-- a type whose references have other numbers
abbrev pub renumbered : (ℕ → ℕ) → Ty → Ty
renumbered number = fold-Ty Ty (renumber_step number)

-- a number by its place in a table; what is past its end keeps its own
abbrev pub number_in : List ℕ → ℕ → ℕ
number_in numbers n = get_or numbers n n

-- one or none, as a list
abbrev pub as_list : {A : Type 0} → Option A → List A
as_list None = []
as_list (Some a) = a ∷ []

-- the definitions in an order
abbrev pub picked : List Definition → List ℕ → List Definition
picked defined [] = []
picked defined (n ∷ order) = as_list (slice_get defined n) ++ picked defined order

-- the types of definitions, with other numbers in their references
abbrev pub types_in : (ℕ → ℕ) → List Definition → List Ty
types_in number defined = map (λ d. renumbered number d.ty) defined

-- the names of definitions, behind these
abbrev pub names_with : List (List ℕ) → List Definition → List (List ℕ)
names_with names [] = names
names_with names (d ∷ defined) = names_with (with_name names d.name) defined

-- ---- what a text gives

-- the place of a definition's name
abbrev pub place_in : List Definition → ℕ → Option ℕ
place_in defined n = option_map (λ d. d.at) (slice_get defined n)

-- all definitions have numbers, and these are their names and types by number
pub record IsNumbered (defined : List Definition) (named : List (List ℕ)) (types : List Ty) : Type 0 where
  pub all : length (order_of (graph_of defined)) ≡ length defined
  pub names : named ≡ names_with [] (picked defined (order_of (graph_of defined)))
  pub by_number : types ≡ types_in (number_of (order_of (graph_of defined))) (picked defined (order_of (graph_of defined)))

-- some definition has no number, and the fault stands at the first that lies on a circle
pub record IsCircle (defined : List Definition) (f : Stopped) : Type 0 where
  pub stuck : length (order_of (graph_of defined)) < length defined
  pub circle : ℕ
  pub first : IsFirstOnCircle (graph_of defined) circle
  pub is : f ≡ record { flaw = Circle; at = place_in defined circle }

-- the names and types by number and the tokens that are left, or the fault of the first circle
abbrev pub Arranges : Lifting → Result Lifted Stopped → Type 0
Arranges l (Ok x) = IsNumbered l.defined x.named x.types × (x.rest ≡ l.kept)
Arranges l (Err f) = IsCircle l.defined f

-- the first fault in a definition, or what the definitions give
abbrev pub Follows : Result Lifting Stopped → Result Lifted Stopped → Type 0
Follows (Ok l) answer = Arranges l answer
Follows (Err f) answer = answer ≡ Err f

-- what a text's type definitions give, or the first fault in them
abbrev pub Lifts : List ℕ → List Token → Result Lifted Stopped → Type 0
Lifts text tokens answer = Follows (type_definitions text tokens) answer

-- what is said of an answer, unless memory ran out
abbrev pub Answers : Result Lifted Stop → (Result Lifted Stopped → Type 0) → Type 0
Answers (Ok x) P = P (Ok x)
Answers (Err (stop.Fault f)) P = P (Err f)
Answers (Err stop.NoMemory) P = Unit {0}

-- the same of names and types alone
abbrev pub Numbers : List Definition → Result (List (List ℕ) × List Ty) Stop → Type 0
Numbers defined (Ok x) = IsNumbered defined x.0 x.1
Numbers defined (Err (stop.Fault f)) = IsCircle defined f
Numbers defined (Err stop.NoMemory) = Unit {0}
