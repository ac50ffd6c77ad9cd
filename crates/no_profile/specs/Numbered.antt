-- The defined functions by their names, and flags for those that lines name.
use Rattle.std.specs.Prelude.{◌≡◌, ℕ, bytes_eq, Bool, true, false, List, [], ◌∷◌, ◌++◌, length, position, slice_get, slice_index_or, Option, Some, None, option_and_then, Result, Ok, Err, map, ◌<◌, Vec}
use Rattle.std.specs.Global.{Global}
use Rattle.std.specs.List.{list_any}
use Rattle.no_ir.specs.Naming.{is_known}
use Rattle.no_ir.specs.declared.function.Function.{Function}
use Rattle.no_profile.specs.Choices.{first_unknown, is_right, moves, number_of}
use Rattle.no_profile.specs.declared.fault.SelectError.{SelectError}
use Rattle.no_profile.specs.declared.fault.SelectError.TheVariants as error
use Rattle.no_profile.specs.declared.profile.Line.{Line}
use Rattle.no_profile.specs.declared.profile.Rates.{Rates}

-- the number beside a name
abbrev pub found : List (List ℕ) → List ℕ → List ℕ → Option ℕ
found names numbers name = option_and_then (slice_get numbers) (position (bytes_eq name) names)

-- names, each with a number beside it, are those of these functions
pub record AreNumbered (functions : List Function) (names : List (List ℕ)) (numbers : List ℕ) : Type 0 where
  pub wide : length numbers ≡ length names
  pub found : (name : List ℕ) → found names numbers name ≡ number_of functions name

-- flags of the functions that lines name, and of those that are worth moving
pub record AreFlags (functions : List Function) (r : Rates) (lines : List Line) (met good : List Bool) : Type 0 where
  pub wide : length met ≡ length functions
  pub long : length good ≡ length functions
  pub seen : (name : List ℕ) (k : ℕ) → number_of functions name ≡ Some k → slice_index_or met k false ≡ is_known (map (λ (l : Line). l.name) lines) name
  pub worth : (k : ℕ) → slice_index_or good k false ≡ list_any (moves functions r k) lines

-- a line behind others was judged, and its function marked
abbrev pub Sees : List Function → Rates → List Line → Line → Result (Unit {0}) SelectError → List Bool → List Bool → Type 0
Sees functions r lines l (Ok _) seen worth = (is_right functions (map (λ (l : Line). l.name) lines) l ≡ true) × AreFlags functions r (lines ++ l ∷ []) seen worth
Sees functions r lines l (Err error.NoMemory) seen worth = Unit {0}
Sees functions r lines l (Err (error.Unknown name)) seen worth = (is_right functions (map (λ (l : Line). l.name) lines) l ≡ false) × (name ≡ l.name)

-- the function that a line names is found, and was not seen before
abbrev pub Judges : Option ℕ → List Bool → Line → Result ℕ SelectError → Type 0
Judges number seen l (Ok k) = (number ≡ Some k) × (k < length seen) × (slice_index_or seen k false ≡ false)
Judges number seen l (Err error.NoMemory) = Unit {0}
Judges number seen l (Err (error.Unknown name)) = (name ≡ l.name) × ((k : ℕ) → number ≡ Some k → k < length seen → slice_index_or seen k false ≡ true)

-- flags of what is worth moving, or the first line that is not right
abbrev pub Weighs : List Function → Rates → List Line → Result (Vec Bool Global) SelectError → Type 0
Weighs functions r lines (Ok worth) = (first_unknown functions [] lines ≡ None) × (length worth.items ≡ length functions) × ((k : ℕ) → slice_index_or worth.items k false ≡ list_any (moves functions r k) lines)
Weighs functions r lines (Err error.NoMemory) = Unit {0}
Weighs functions r lines (Err (error.Unknown name)) = first_unknown functions [] lines ≡ Some name
