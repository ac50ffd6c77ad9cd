-- Equal types: the same form, with equal parts.
use Rattle.std.specs.Prelude.{ℕ, Bool, true, false, ◌&&◌, List, [], ◌∷◌, ◌==◌}
use Rattle.no_ir.specs.declared.types.Ty.{Ty, out-Ty}
use Rattle.no_ir.specs.declared.types.Ty.TheOpen.{Ty-F}
use Rattle.no_ir.specs.declared.types.Ty.TheFolds.{fold-Ty}

-- a form is an array of this many elements, and its element passes
abbrev pub array_in : ℕ → (Ty → Bool) → Ty-F Ty → Bool
array_in n e (Ty-F.Array m f) = n == m && e f
array_in n e _ = false

-- each type passes its own test, and there are as many
abbrev pub pairs : List (Ty → Bool) → List Ty → Bool
pairs [] [] = true
pairs (f ∷ fs) (t ∷ ts) = f t && pairs fs ts
pairs _ _ = false

-- two truth values are the same
abbrev pub same_bit : Bool → Bool → Bool
same_bit true b = b
same_bit false true = false
same_bit false false = true

-- a form is a struct, packed or not as this one, and its fields pass
abbrev pub struct_in : Bool → List (Ty → Bool) → Ty-F Ty → Bool
struct_in p fs (Ty-F.Struct q ts) = same_bit p q && pairs fs ts
struct_in p fs _ = false

-- a form is an integer type of so many bits
abbrev pub int_in : ℕ → Ty-F Ty → Bool
int_in w (Ty-F.Int v) = w == v
int_in w _ = false

-- a form is the named type of this number
abbrev pub named_in : ℕ → Ty-F Ty → Bool
named_in n (Ty-F.Named m) = n == m
named_in n _ = false

-- a form is ptr
abbrev pub ptr_in : Ty-F Ty → Bool
ptr_in Ty-F.Ptr = true
ptr_in _ = false

-- a form is void
abbrev pub void_in : Ty-F Ty → Bool
void_in Ty-F.Void = true
void_in _ = false

-- a type is the same as one of this form, where it is known which types are the same as those inside it
abbrev pub same_step : Ty-F (Ty → Bool) → Ty → Bool
same_step Ty-F.Void b = void_in (out-Ty b)
same_step (Ty-F.Int w) b = int_in w (out-Ty b)
same_step Ty-F.Ptr b = ptr_in (out-Ty b)
same_step (Ty-F.Array n e) b = array_in n e (out-Ty b)
same_step (Ty-F.Struct p fs) b = struct_in p fs (out-Ty b)
same_step (Ty-F.Named n) b = named_in n (out-Ty b)

-- whether two types are the same
abbrev pub same_type : Ty → Ty → Bool
same_type = fold-Ty (Ty → Bool) same_step
