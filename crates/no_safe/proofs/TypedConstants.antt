-- What a constant of a type is: a number, and with its address a name.
use Rattle.std.proofs.Common.{◌≡◌, ℕ, ◌==◌, nat_eq, Bool, true, false, length, if◌then◌else◌, Option, Some, None, List, [], ◌∷◌, refl, sym, ap, ◌∙◌, rules, eq-eqb}
use Rattle.std.proofs.lemmas.Bool.{or_left, false≢true}
use Rattle.std.proofs.lemmas.Option.{none-some, same_Some}
use Rattle.std.specs.List.{list_any}
use Rattle.no_ir.specs.declared.constant.Const.{Const, out-Const, roll-Const, the_lemmas}
use Rattle.no_ir.specs.declared.constant.Const.TheOpen.{Const-F}
use Rattle.no_ir.specs.declared.constant.Const.TheFolds.{fold_out-Const, map-Const}
use Rattle.no_ir.specs.declared.constant.Const.TheVariants.{rolls-Zero, rolls-Int, rolls-Address, rolls-AddressAsInt, rolls-IntAsPtr}
use Rattle.no_ir.specs.declared.constant.Symbol.{Symbol}
use Rattle.no_ir.specs.declared.constant.Symbol.TheVariants as symbol
use Rattle.no_ir.specs.declared.function.Module.{Module}
use Rattle.no_ir.specs.declared.function.Role.{Role}
use Rattle.no_ir.specs.declared.instruction.Operand.{Operand}
use Rattle.no_ir.specs.declared.instruction.Operand.TheVariants as operand
use Rattle.no_module.specs.declared.scalar.Scalar.{Scalar}
use Rattle.no_verify_types.specs.Constants.{value_fits, value_step}
use Rattle.no_verify_types.specs.Named.{constant_names, operand_names, symbol_names}
use Rattle.no_verify_types.specs.Named as named
use Rattle.no_verify_types.specs.Typing.{bare_function, direct, named_step}
use Rattle.no_semantics.specs.Registers.{constant_number}
use Rattle.no_semantics.specs.Values.{Program, place_address}

rolled : (c : Const) → roll-Const (out-Const c) ≡ c
rolled c = search (rules, the_lemmas)

-- ---- numbers

-- a constant that is of some integer type or of ptr is a number
layer_number : (p : Program) (m : Module) (role : Role) (s : Option Scalar) (x : Const-F Const) → value_step m role s x ≡ true → (n : ℕ) × (constant_number p (roll-Const x) ≡ Some n)
layer_number p m role s Const-F.Zero e = (0, ap (constant_number p) rolls-Zero)
layer_number p m role s (Const-F.Int n) e = (n, ap (constant_number p) (rolls-Int n))
layer_number p m role s (Const-F.Address place) e = (place_address p place, ap (constant_number p) (rolls-Address place))
layer_number p m role s (Const-F.AddressAsInt place) e = (place_address p place, ap (constant_number p) (rolls-AddressAsInt place))
layer_number p m role s (Const-F.IntAsPtr n) e = (n, ap (constant_number p) (rolls-IntAsPtr n))
layer_number p m role s _ e = absurd (false≢true e)

pub value_number : (p : Program) (m : Module) (role : Role) (s : Option Scalar) (c : Const) → value_fits m role s c ≡ true → (n : ℕ) × (constant_number p c ≡ Some n)
value_number p m role s c e = let h = layer_number p m role s (out-Const c) e in (h.0, ap (constant_number p) (sym (rolled c)) ∙ h.1)

-- no constant is of no type
layer_typed : (m : Module) (role : Role) (s : Option Scalar) (x : Const-F Const) → value_step m role s x ≡ true → (t : Scalar) × (s ≡ Some t)
layer_typed m role (Some t) x e = (t, refl)
layer_typed m role None Const-F.Zero e = absurd (false≢true e)
layer_typed m role None (Const-F.Int n) e = absurd (false≢true e)
layer_typed m role None (Const-F.Address place) e = absurd (false≢true e)
layer_typed m role None (Const-F.AddressAsInt place) e = absurd (false≢true e)
layer_typed m role None (Const-F.IntAsPtr n) e = absurd (false≢true e)
layer_typed m role None _ e = absurd (false≢true e)

pub value_typed : (m : Module) (role : Role) (s : Option Scalar) (c : Const) → value_fits m role s c ≡ true → (t : Scalar) × (s ≡ Some t)
value_typed m role s c e = layer_typed m role s (out-Const c) e

-- ---- names

bare_at : (b : Bool) (j k : ℕ) → (if b then Some j else None) ≡ Some k → list_any (nat_eq k) (j ∷ []) ≡ true
bare_at true j k e = or_left (nat_eq k j) false (eq-eqb k j (sym (same_Some j k e)))
bare_at false j k e = absurd (none-some k e)

bare_named : (s : Symbol) (n k : ℕ) → bare_function s n ≡ Some k → list_any (nat_eq k) (symbol_names s) ≡ true
bare_named (symbol.Function j) n k e = bare_at (n == 0) j k e
bare_named _ n k e = absurd (none-some k e)

layer_named : (x : Const-F Const) (k : ℕ) → named_step x ≡ Some k → list_any (nat_eq k) (named.constant_step (map-Const Const (List ℕ) constant_names x)) ≡ true
layer_named (Const-F.Address place) k e = bare_named place.symbol (length place.indices) k e
layer_named _ k e = absurd (none-some k e)

-- a direct call names its function
pub callee_named : (callee : Operand) (k : ℕ) → direct callee ≡ Some k → list_any (nat_eq k) (operand_names callee) ≡ true
callee_named (operand.Reg r) k e = absurd (none-some k e)
callee_named (operand.Const c) k e = ap (list_any (nat_eq k)) (fold_out-Const (List ℕ) named.constant_step c) ∙ layer_named (out-Const c) k e
