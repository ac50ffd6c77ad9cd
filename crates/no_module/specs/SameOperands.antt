-- Equal operands: the same register, or the same constant.
use Rattle.std.specs.Prelude.{ℕ, ℤ, Bool, true, false, ◌&&◌, ◌==◌, bytes_eq, List, [], ◌∷◌, map}
use Rattle.std.specs.Ordering.{int_eq}
use Rattle.no_ir.specs.declared.constant.Const.{Const, out-Const}
use Rattle.no_ir.specs.declared.constant.Const.TheOpen.{Const-F}
use Rattle.no_ir.specs.declared.constant.Const.TheFolds.{fold-Const}
use Rattle.no_ir.specs.declared.constant.Place.{Place}
use Rattle.no_ir.specs.declared.constant.Symbol.{Symbol}
use Rattle.no_ir.specs.declared.constant.Symbol.TheVariants as symbol
use Rattle.no_ir.specs.declared.instruction.Operand.{Operand}
use Rattle.no_ir.specs.declared.instruction.Operand.TheVariants as operand
use Rattle.no_module.specs.SameTypes.{same_type}

-- ---- addresses

-- the same global, the same function, or the same name that the module doesn't define
abbrev pub same_symbol : Symbol → Symbol → Bool
same_symbol (symbol.Global k) (symbol.Global j) = k == j
same_symbol (symbol.Function k) (symbol.Function j) = k == j
same_symbol (symbol.Unknown a) (symbol.Unknown b) = bytes_eq a b
same_symbol _ _ = false

-- each index passes the test at its place, and there are as many
abbrev pub indices_in : List (ℤ → Bool) → List ℤ → Bool
indices_in [] [] = true
indices_in (same ∷ more) (i ∷ is) = same i && indices_in more is
indices_in _ _ = false

-- equal indices in the same order
abbrev pub same_indices : List ℤ → List ℤ → Bool
same_indices a b = indices_in (map int_eq a) b

-- the same symbol with the same indices, which step through the same type
abbrev pub same_place : Place → Place → Bool
same_place a b = same_symbol a.symbol b.symbol && (same_type a.base b.base && same_indices a.indices b.indices)

-- ---- constants

-- the other constant is a zero
abbrev pub zero_in : {A : Type 0} → Const-F A → Bool
zero_in Const-F.Zero = true
zero_in _ = false

-- the other constant is the integer n
abbrev pub int_in : {A : Type 0} → ℕ → Const-F A → Bool
int_in n (Const-F.Int m) = n == m
int_in n _ = false

-- the other constant is a string of the same bytes
abbrev pub text_in : {A : Type 0} → List ℕ → Const-F A → Bool
text_in text (Const-F.Str other) = bytes_eq text other
text_in text _ = false

-- each part of the other constant passes the test at its place, and there are as many
abbrev pub each_in : List (Const → Bool) → List Const → Bool
each_in [] [] = true
each_in (same ∷ more) (c ∷ cs) = same c && each_in more cs
each_in _ _ = false

-- the other constant is an array, whose elements pass these tests
abbrev pub elements_in : List (Const → Bool) → Const-F Const → Bool
elements_in elements (Const-F.Array others) = each_in elements others
elements_in elements _ = false

-- the other constant is a struct, whose fields pass these tests
abbrev pub fields_in : List (Const → Bool) → Const-F Const → Bool
fields_in fields (Const-F.Struct others) = each_in fields others
fields_in fields _ = false

-- the other constant is the same address
abbrev pub address_in : {A : Type 0} → Place → Const-F A → Bool
address_in place (Const-F.Address other) = same_place place other
address_in place _ = false

-- the other constant is the same address as an integer
abbrev pub address_number_in : {A : Type 0} → Place → Const-F A → Bool
address_number_in place (Const-F.AddressAsInt other) = same_place place other
address_number_in place _ = false

-- the other constant is the same integer as an address
abbrev pub pointer_in : {A : Type 0} → ℕ → Const-F A → Bool
pointer_in n (Const-F.IntAsPtr m) = n == m
pointer_in n _ = false

-- a constant is the same as another, by tests for the parts of the first
abbrev pub same_step : Const-F (Const → Bool) → Const → Bool
same_step Const-F.Zero c = zero_in (out-Const c)
same_step (Const-F.Int n) c = int_in n (out-Const c)
same_step (Const-F.Str text) c = text_in text (out-Const c)
same_step (Const-F.Array elements) c = elements_in elements (out-Const c)
same_step (Const-F.Struct fields) c = fields_in fields (out-Const c)
same_step (Const-F.Address place) c = address_in place (out-Const c)
same_step (Const-F.AddressAsInt place) c = address_number_in place (out-Const c)
same_step (Const-F.IntAsPtr n) c = pointer_in n (out-Const c)

-- two constants of one form with the same parts
abbrev pub same_constant : Const → Const → Bool
same_constant = fold-Const (Const → Bool) same_step

-- the same register, or the same constant
abbrev pub same_operand : Operand → Operand → Bool
same_operand (operand.Reg r) (operand.Reg s) = r == s
same_operand (operand.Const c) (operand.Const d) = same_constant c d
same_operand _ _ = false
