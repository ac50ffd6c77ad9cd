-- Which functions of a module are worth moving, by a profile.
use Rattle.std.specs.Prelude.{◌≡◌, ℕ, zero, suc, ◌+◌, ◌==◌, Bool, true, false, not, ◌&&◌, bytes_eq, if◌then◌else◌, List, [], ◌∷◌, ◌++◌, length, slice_index_or, Option, Some, None, Result, Ok, Err}
use Rattle.std.specs.List.{list_any}
use Rattle.no_ir.specs.Naming.{is_known}
use Rattle.no_ir.specs.declared.function.Function.{Function}
use Rattle.no_module.specs.Functions.{is_declared}
use Rattle.no_profile.specs.Gains.{is_worth}
use Rattle.no_profile.specs.declared.fault.SelectError.{SelectError}
use Rattle.no_profile.specs.declared.fault.SelectError.TheVariants as error
use Rattle.no_profile.specs.declared.profile.Line.{Line}
use Rattle.no_profile.specs.declared.profile.Rates.{Rates}

-- ---- what lines name

-- a function is defined and has this name
abbrev pub is_named : List ℕ → Function → Bool
is_named name g = not (is_declared g) && bytes_eq name g.name

-- the number of the first defined function that has a name, from k on
abbrev pub number_from : List ℕ → ℕ → List Function → Option ℕ
number_from name k [] = None
number_from name k (g ∷ more) = if is_named name g then Some k else number_from name (k + 1) more

-- the number of the first defined function that has a name
abbrev pub number_of : List Function → List ℕ → Option ℕ
number_of functions name = number_from name 0 functions

-- there is such a function
abbrev pub is_number : Option ℕ → Bool
is_number None = false
is_number (Some k) = true

-- a line names a defined function, and no line before it does
abbrev pub is_right : List Function → List (List ℕ) → Line → Bool
is_right functions named l = is_number (number_of functions l.name) && not (is_known named l.name)

-- the name of the first line that names no defined function, or one that was named before
abbrev pub first_unknown : List Function → List (List ℕ) → List Line → Option (List ℕ)
first_unknown functions named [] = None
first_unknown functions named (l ∷ lines) = if is_right functions named l then first_unknown functions (named ++ l.name ∷ []) lines else Some l.name

-- ---- which are chosen

-- there is such a function, and its number is this
abbrev pub is_this : ℕ → Option ℕ → Bool
is_this k None = false
is_this k (Some n) = k == n

-- a line is that of function k, and it is worth moving
abbrev pub moves : List Function → Rates → ℕ → Line → Bool
moves functions r k l = is_this k (number_of functions l.name) && is_worth r l

-- function k is free, and worth moving by its line
abbrev pub is_chosen : List Function → Rates → List Line → List Bool → ℕ → Bool
is_chosen functions r lines free k = list_any (moves functions r k) lines && slice_index_or free k false

-- the numbers below n that pass, rising
abbrev pub passing : (ℕ → Bool) → ℕ → List ℕ
passing test zero = []
passing test (suc n) = passing test n ++ (if test n then n ∷ [] else [])

-- the numbers of the functions that are free and worth moving, rising
abbrev pub chosen : List Function → Rates → List Line → List Bool → List ℕ
chosen functions r lines free = passing (is_chosen functions r lines free) (length functions)

-- the chosen functions where every line is right, and otherwise the name of the first that is not
abbrev pub Selects : List Function → Rates → List Line → List Bool → Result (List ℕ) SelectError → Type 0
Selects functions r lines free (Ok ks) = (first_unknown functions [] lines ≡ None) × (ks ≡ chosen functions r lines free)
Selects functions r lines free (Err error.NoMemory) = Unit {0}
Selects functions r lines free (Err (error.Unknown name)) = first_unknown functions [] lines ≡ Some name
