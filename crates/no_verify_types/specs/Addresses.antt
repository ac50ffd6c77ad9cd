-- Addresses: which symbols may have theirs taken, and where indices lead (LLVM Language Reference, "Constant Expressions", "getelementptr Instruction").
use Rattle.std.specs.Prelude.{ℕ, ℤ, pos, int_lt, unsigned_abs, ◌^◌, Bool, true, false, ◌&&◌, ◌||◌, not, nat_lt, if◌then◌else◌, List, [], ◌∷◌, map, length, take, bytes_eq, codes, slice_get, Option, Some, None}
use Rattle.no_ir.specs.declared.types.Ty.{Ty, out-Ty}
use Rattle.no_ir.specs.declared.types.Ty.TheOpen.{Ty-F}
use Rattle.no_ir.specs.declared.constant.Place.{Place}
use Rattle.no_ir.specs.declared.constant.Symbol.{Symbol}
use Rattle.no_ir.specs.declared.constant.Symbol.TheVariants as symbol
use Rattle.no_ir.specs.declared.function.Function.{Function}
use Rattle.no_ir.specs.declared.function.Module.{Module}
use Rattle.no_ir.specs.declared.function.Role.{Role}
use Rattle.no_ir.specs.declared.function.Role.TheVariants.{Source, Part}
use Rattle.no_module.specs.Functions.{begins_with, is_declared}
use Rattle.no_module.specs.Named.{resolved}

-- ---- intrinsics

-- the two functions of a server's part that stand for what the device would do
abbrev pub is_helper : Role → List ℕ → Bool
is_helper Source name = false
is_helper Part name = bytes_eq name (codes "no.alloca") || bytes_eq name (codes "no.map")

-- a declared function that is no function in memory
abbrev pub is_intrinsic : Role → Function → Bool
is_intrinsic role f = is_declared f && (begins_with (codes "llvm.") f.name || is_helper role f.name)

-- a function is no intrinsic; a number that no function has is judged with the unknown names
abbrev pub may_be_taken : Role → Option Function → Bool
may_be_taken role None = true
may_be_taken role (Some f) = not (is_intrinsic role f)

-- whether a symbol may have its address taken: any but an intrinsic
abbrev pub has_address : Module → Role → Symbol → Bool
has_address m role (symbol.Function k) = may_be_taken role (slice_get m.functions k)
has_address m role _ = true

-- ---- indices

-- the number of a field, as a signed index of 32 bits can state it
abbrev pub field_below : ℕ → Option ℕ
field_below n = if nat_lt n (2 ^ 31) then Some n else None

-- the number of a field that a constant index states, none where it is negative or needs more than 31 bits
abbrev pub constant_field : ℤ → Option ℕ
constant_field z = if int_lt z (pos 0) then None else field_below (unsigned_abs z)

-- the type of the field that an index numbers, if there is one
abbrev pub field_of : List Ty → Option ℕ → Option Ty
field_of fields None = None
field_of fields (Some i) = slice_get fields i

-- the type of what an index leads to: any index leads into an array, the number of a field into a struct, and none into anything else
abbrev pub part_in : Ty-F Ty → Option ℕ → Option Ty
part_in (Ty-F.Array count element) i = Some element
part_in (Ty-F.Struct packed fields) i = field_of fields i
part_in _ i = None

-- the type of what an index leads to inside a type that is no name
abbrev pub part_of : Ty → Option ℕ → Option Ty
part_of t i = part_in (out-Ty t) i

-- an index leads to a type, from which the other indices lead on
abbrev pub leads_on : Option Ty → (Ty → Bool) → Bool
leads_on None more = false
leads_on (Some t) more = more t

-- each index leads into what stands where the one before leads; an index that cannot be the number of a field is none
abbrev pub inner_lead : List (List ℕ × Ty) → Ty → List (Option ℕ) → Bool
inner_lead types t [] = true
inner_lead types t (i ∷ others) = leads_on (part_of (resolved types t) i) (λ u. inner_lead types u others)

-- the first index steps over whole values of the type
abbrev pub indices_lead : List (List ℕ × Ty) → Ty → List (Option ℕ) → Bool
indices_lead types t [] = true
indices_lead types t (first ∷ others) = inner_lead types t others

-- an address that a constant may state
abbrev pub place_fits : Module → Role → Place → Bool
place_fits m role place = has_address m role place.symbol && indices_lead m.types place.base (map constant_field place.indices)
