-- Whether a function may move to a server: the first rule that keeps it on the device, with the path along which the reason lies.
use Rattle.std.specs.Prelude.{◌≡◌, ℕ, ◌+◌, ◌<◌, ◌≤◌, Bool, true, false, not, ◌&&◌, nat_le, bytes_eq, if◌then◌else◌, List, [], ◌∷◌, length, map, slice_get, slice_index_or, Option, Some, None}
use Rattle.std.specs.List.{Contains}
use Rattle.no_ir.specs.declared.function.Function.{Function}
use Rattle.no_ir.specs.declared.function.Module.{Module}
use Rattle.no_layout.specs.declared.layout.Layout.{Layout}
use Rattle.no_module.specs.Functions.{is_declared}
use Rattle.no_room.specs.Accepted.{Accepted}
use Rattle.no_calls.specs.Calling.{MayCall}
use Rattle.no_calls.specs.Reaching.{IsShortest}
use Rattle.no_filter.specs.Reasons.{inputs, pinned, volatiles}
use Rattle.no_filter.specs.declared.rules.Rule.{Rule}
use Rattle.no_filter.specs.declared.rules.Rule.TheVariants as rule
use Rattle.no_filter.specs.declared.rules.Verdict.{Verdict}
use Rattle.no_filter.specs.declared.rules.Verdict.TheVariants.{Free, Bound}

-- ---- names

-- the first function that has a name, by number
abbrev pub named_from : List ℕ → ℕ → List Function → Option ℕ
named_from name k [] = None
named_from name k (g ∷ more) = if bytes_eq g.name name then Some k else named_from name (k + 1) more

-- the name of a function, empty where there is no function
abbrev pub name_in : Option Function → List ℕ
name_in None = []
name_in (Some g) = g.name

-- the names of the functions on a path, in order
abbrev pub names_of : Module → List ℕ → List (List ℕ)
names_of m path = map (λ (k : ℕ). name_in (slice_get m.functions k)) path

-- ---- what is reached

-- function f reaches none of these
abbrev pub Spares : Module → ℕ → List ℕ → Type 0
Spares m f goals = IsShortest (MayCall m) goals f None

-- it reaches one, and these are the names along the shortest path, of several the first by number
abbrev pub Leads : Module → ℕ → List ℕ → List (List ℕ) → Type 0
Leads m f goals names = (path : List ℕ) × IsShortest (MayCall m) goals f (Some path) × (names ≡ names_of m path)

-- function f reaches none of these, or one along a path of these names
abbrev pub Answers : Module → ℕ → List ℕ → Option (List (List ℕ)) → Type 0
Answers m f goals None = Spares m f goals
Answers m f goals (Some names) = Leads m f goals names

-- no rule of what is reached holds of function f
abbrev pub IsSpared : Module → ℕ → Type 0
IsSpared m f = Spares m f (inputs m) × Spares m f (volatiles m) × Spares m f (pinned m)

-- ---- the rules, each where none before it holds

-- the first rule of what is reached
abbrev pub IsReached : Module → ℕ → Option (Rule × List (List ℕ)) → Type 0
IsReached m f None = IsSpared m f
IsReached m f (Some (rule.Input, names)) = Leads m f (inputs m) names
IsReached m f (Some (rule.Volatile, names)) = Spares m f (inputs m) × Leads m f (volatiles m) names
IsReached m f (Some (rule.Pinned, names)) = Spares m f (inputs m) × Spares m f (volatiles m) × Leads m f (pinned m) names
IsReached m f (Some (_, names)) = ⊥

-- the first rule of the function itself, g, whose names are its own alone
abbrev pub IsAlone : Layout → Layout → List ℕ → ℕ → Function → Verdict → Type 0
IsAlone device server name f g (Free k) = (k ≡ f) × (is_declared g ≡ false) × (device.pointer ≤ server.pointer) × (length g.params ≤ 64)
IsAlone device server name f g (Bound rule.NotDefined names) = (is_declared g ≡ true) × (names ≡ name ∷ [])
IsAlone device server name f g (Bound rule.Width names) = (is_declared g ≡ false) × (server.pointer < device.pointer) × (names ≡ name ∷ [])
IsAlone device server name f g (Bound rule.Argument names) = (is_declared g ≡ false) × (device.pointer ≤ server.pointer) × (64 < length g.params) × (names ≡ name ∷ [])
IsAlone device server name f g (Bound _ names) = ⊥

-- a rule of what function f reaches holds, or none of them, and this is the verdict on the function itself
abbrev pub IsOf : Accepted → List ℕ → Layout → ℕ → Verdict → Type 0
IsOf m name server f (Bound rule.Input names) = IsReached m.«module» f (Some (rule.Input, names))
IsOf m name server f (Bound rule.Volatile names) = IsReached m.«module» f (Some (rule.Volatile, names))
IsOf m name server f (Bound rule.Pinned names) = IsReached m.«module» f (Some (rule.Pinned, names))
IsOf m name server f verdict = IsSpared m.«module» f × ((g : Function) × (slice_get m.«module».functions f ≡ Some g) × IsAlone m.layout server name f g verdict)

-- no function of the module has the name
abbrev pub IsUnknown : List ℕ → Verdict → Type 0
IsUnknown name (Bound rule.NotDefined names) = names ≡ name ∷ []
IsUnknown name _ = ⊥

-- the verdict on a name, by the number of the function that has it, if one has
abbrev pub IsJudgedOf : Accepted → List ℕ → Layout → Option ℕ → Verdict → Type 0
IsJudgedOf m name server None verdict = IsUnknown name verdict
IsJudgedOf m name server (Some f) verdict = IsOf m name server f verdict

-- the verdict on a name
abbrev pub IsJudged : Accepted → List ℕ → Layout → Verdict → Type 0
IsJudged m name server verdict = IsJudgedOf m name server (named_from name 0 m.«module».functions) verdict

-- ---- all functions at once

-- no rule holds of function k
abbrev pub IsFree : Accepted → Layout → ℕ → Type 0
IsFree m server k = IsSpared m.«module» k × ((g : Function) × (slice_get m.«module».functions k ≡ Some g) × IsAlone m.layout server [] k g (Free k))

-- no rule holds of function g itself
abbrev pub passes : Layout → Layout → Function → Bool
passes device server g = not (is_declared g) && (nat_le device.pointer server.pointer && nat_le (length g.params) 64)

-- flags after those of these numbers were cleared
pub record Cleared (ks : List ℕ) (old new : List Bool) : Type 0 where
  pub set' : (k : ℕ) → slice_index_or new k false ≡ true → slice_index_or old k false ≡ true
  pub off : (k : ℕ) → Contains ks k → slice_index_or new k false ≡ false
  pub kept : (k : ℕ) → (Contains ks k → ⊥) → slice_index_or new k false ≡ slice_index_or old k false

-- for each function whether no rule holds of it
pub record AreFree (m : Accepted) (server : Layout) (flags : List Bool) : Type 0 where
  pub wide : length flags ≡ length m.«module».functions
  pub free : (k : ℕ) → slice_index_or flags k false ≡ true → IsFree m server k
  pub bound : (k : ℕ) → IsFree m server k → slice_index_or flags k false ≡ true
