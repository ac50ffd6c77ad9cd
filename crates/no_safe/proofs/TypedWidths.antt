-- What the rule of types says of widths: of operands that are read, and of registers that are given.
use Rattle.std.proofs.Common.{◌≡◌, ℕ, ◌<◌, Bool, true, false, ◌||◌, if◌then◌else◌, Option, Some, None, length, refl, sym, ap, ◌∙◌, subst, eqb-true, ltb-true}
use Rattle.std.proofs.lemmas.Bool.{and_parts, false≢true}
use Rattle.std.proofs.lemmas.Option.{none-some, same_Some}
use Rattle.no_ir.specs.declared.types.Ty.{Ty, out-Ty}
use Rattle.no_ir.specs.declared.types.Ty.TheOpen.{Ty-F}
use Rattle.no_ir.specs.declared.instruction.CastOp.{CastOp}
use Rattle.no_ir.specs.declared.instruction.CastOp.TheVariants as cast
use Rattle.no_ir.specs.declared.instruction.Operand.{Operand}
use Rattle.no_ir.specs.declared.instruction.Operand.TheVariants as operand
use Rattle.no_ir.specs.declared.function.Function.{Function}
use Rattle.no_layout.specs.declared.layout.Layout.{Layout}
use Rattle.no_module.specs.declared.scalar.Scalar.{Scalar}
use Rattle.no_module.specs.declared.scalar.Scalar.TheVariants as scalar
use Rattle.no_module.specs.Scalars.{agree, integer, is_of, is_pointer, is_result, is_scalar, is_void, same_scalar, scalar_of, scalar_step, void_step}
use Rattle.no_module.specs.Widths.{is_width}
use Rattle.no_verify_types.specs.Registers.{register_types, type_at}
use Rattle.no_verify_types.specs.Typing.{converts, goes_between, narrows, operand_fits}
use Rattle.no_eval.specs.Cast.{GoesBetween}
use Rattle.no_semantics.specs.Values.{Program, width_of, width_step}
use Rattle.no_progress.specs.Proper.{Answers, Gives, Idle, Reads, ReadsOf, bits}
use Rattle.no_safe.specs.Widths.{width_of_register, width_of_scalar, width_of_type}
use Rattle.no_safe.proofs.TypedConstants.{value_number, value_typed}
use Rattle.no_safe.proofs.TypedLists.{is_there}

-- ---- types of values

integer_at : (b : Bool) (w : ℕ) (s : Scalar) → (if b then Some (scalar.Int w) else None) ≡ Some s → scalar.Int w ≡ s
integer_at true w s e = same_Some (scalar.Int w) s e
integer_at false w s e = absurd (none-some s e)

pub integer_width : (l : Layout) (w : ℕ) (s : Scalar) → integer w ≡ Some s → width_of_scalar l s ≡ w
integer_width l w s e = ap (width_of_scalar l) (sym (integer_at (is_width w) w s e))

layer_width : (l : Layout) (x : Ty-F Ty) (s : Scalar) → scalar_step x ≡ Some s → width_of_scalar l s ≡ width_step l x
layer_width l (Ty-F.Int w) s e = integer_width l w s e
layer_width l Ty-F.Ptr s e = ap (width_of_scalar l) (sym (same_Some scalar.Ptr s e))
layer_width l _ s e = absurd (none-some s e)

pub scalar_width : (l : Layout) (t : Ty) (s : Scalar) → scalar_of t ≡ Some s → width_of_scalar l s ≡ width_of l t
scalar_width l t s e = layer_width l (out-Ty t) s e

same_type : (s t : Scalar) → same_scalar s t ≡ true → t ≡ s
same_type (scalar.Int w) (scalar.Int v) e = ap scalar.Int (sym (eqb-true w v e))
same_type (scalar.Int w) scalar.Ptr e = absurd (false≢true e)
same_type scalar.Ptr (scalar.Int v) e = absurd (false≢true e)
same_type scalar.Ptr scalar.Ptr e = refl

same_of : (s : Scalar) (t : Option Scalar) → is_of s t ≡ true → t ≡ Some s
same_of s None e = absurd (false≢true e)
same_of s (Some t) e = ap Some (same_type s t e)

pub agreed : (s t : Option Scalar) → agree s t ≡ true → (x : Scalar) × (s ≡ Some x) × (t ≡ Some x)
agreed None t e = absurd (false≢true e)
agreed (Some s) t e = (s, refl, same_of s t e)

layer_void : (x : Ty-F Ty) (s : Scalar) → scalar_step x ≡ Some s → void_step x ≡ false
layer_void Ty-F.Void s e = absurd (none-some s e)
layer_void _ s e = refl

pub value_not_void : (t : Ty) (s : Scalar) → scalar_of t ≡ Some s → is_void t ≡ false
value_not_void t s e = layer_void (out-Ty t) s e

void_layer : (x : Ty-F Ty) → void_step x ≡ true → scalar_step x ≡ None
void_layer Ty-F.Void e = refl
void_layer _ e = absurd (false≢true e)

void_no_value : (t : Ty) → is_void t ≡ true → scalar_of t ≡ None
void_no_value t e = void_layer (out-Ty t) e

-- ---- what instructions give

-- the register that an instruction gives is one of the function's, and has this type
abbrev pub Defines : Function → Option ℕ → Option Scalar → Type 0
Defines g into so = (r : ℕ) → into ≡ Some r → (r < length g.registers) × (type_at (register_types g) r ≡ so)

module _ (l : Layout) (g : Function) (into : Option ℕ) where
  pub gives_scalar : (s : Scalar) → Defines g into (Some s) → Gives (length g.registers) (width_of_register l g) into (width_of_scalar l s)
  gives_scalar s defines r e = let d = defines r e in (d.0, ap (width_of_type l) d.1)

  pub gives_some : (so : Option Scalar) (s : Scalar) (w : ℕ) → so ≡ Some s → width_of_scalar l s ≡ w → Defines g into so → Gives (length g.registers) (width_of_register l g) into w
  gives_some so s w is width defines r e = let d = defines r e in (d.0, ap (width_of_type l) (d.1 ∙ is) ∙ ap Some width)

  pub gives_type : (t : Ty) (s : Scalar) → scalar_of t ≡ Some s → Defines g into (scalar_of t) → Gives (length g.registers) (width_of_register l g) into (width_of l t)
  gives_type t s is defines = gives_some (scalar_of t) s (width_of l t) is (scalar_width l t s is) defines

  pub gives_nothing : Defines g into None → Idle (width_of_register l g) into
  gives_nothing defines r e = ap (width_of_type l) (defines r e).1

  pub gives_idle : (so : Option Scalar) → so ≡ None → Defines g into so → Idle (width_of_register l g) into
  gives_idle so none defines r e = ap (width_of_type l) ((defines r e).1 ∙ none)

-- the result of a call
pub gives_answer : (p : Program) (g : Function) (into : Option ℕ) (t : Ty) → is_result t ≡ true → Defines g into (scalar_of t) → Answers (length g.registers) (width_of_register p.layout g) into (bits p t)
gives_answer p g into t e defines = at (is_void t) refl e
  where
    at : (b : Bool) → is_void t ≡ b → (b || is_scalar t) ≡ true → Answers (length g.registers) (width_of_register p.layout g) into (if b then None else Some (width_of p.layout t))
    at true void e = gives_idle p.layout g into (scalar_of t) (void_no_value t void) defines
    at false some e = let s = is_there (scalar_of t) e in gives_type p.layout g into t s.0 s.1 defines

-- ---- what operands are

module _ (p : Program) (g : Function) where
  pub operand_typed : (so : Option Scalar) (o : Operand) → operand_fits p.«module» p.role (register_types g) so o ≡ true → (s : Scalar) × (so ≡ Some s)
  operand_typed so (operand.Reg r) e = let a = agreed so (type_at (register_types g) r) e in (a.0, a.1)
  operand_typed so (operand.Const c) e = value_typed p.«module» p.role so c e

  pub reads_some : (so : Option Scalar) (s : Scalar) (w : ℕ) (o : Operand) → so ≡ Some s → width_of_scalar p.layout s ≡ w → operand_fits p.«module» p.role (register_types g) so o ≡ true → Reads p (width_of_register p.layout g) w o
  reads_some so s w (operand.Reg r) is width e =
      let a = agreed so (type_at (register_types g) r) e in
      ap (width_of_type p.layout) (a.2 ∙ sym a.1 ∙ is) ∙ ap Some width
  reads_some so s w (operand.Const c) is width e = value_number p p.«module» p.role so c e

  pub reads_of : (t : Ty) (o : Operand) → operand_fits p.«module» p.role (register_types g) (scalar_of t) o ≡ true → ReadsOf p (width_of_register p.layout g) t o
  reads_of t o e = let s = operand_typed (scalar_of t) o e in reads_some (scalar_of t) s.0 (width_of p.layout t) o s.1 (scalar_width p.layout t s.0 s.1) e

  pub reads_integer : (w : ℕ) (o : Operand) → operand_fits p.«module» p.role (register_types g) (integer w) o ≡ true → Reads p (width_of_register p.layout g) w o
  reads_integer w o e = let s = operand_typed (integer w) o e in reads_some (integer w) s.0 w o s.1 (integer_width p.layout w s.0 s.1) e

  pub reads_pointer : (o : Operand) → operand_fits p.«module» p.role (register_types g) (Some scalar.Ptr) o ≡ true → Reads p (width_of_register p.layout g) p.layout.pointer o
  reads_pointer o e = reads_some (Some scalar.Ptr) scalar.Ptr p.layout.pointer o refl refl e

-- ---- conversions

narrower : (l : Layout) (s t : Scalar) → narrows s t ≡ true → width_of_scalar l t < width_of_scalar l s
narrower l (scalar.Int v) (scalar.Int w) e = ltb-true w v e
narrower l (scalar.Int v) scalar.Ptr e = absurd (false≢true e)
narrower l scalar.Ptr t e = absurd (false≢true e)

pointers : (l : Layout) (s t : Scalar) → is_pointer s ≡ true → is_pointer t ≡ true → width_of_scalar l s ≡ width_of_scalar l t
pointers l (scalar.Int v) t a b = absurd (false≢true a)
pointers l scalar.Ptr (scalar.Int v) a b = absurd (false≢true b)
pointers l scalar.Ptr scalar.Ptr a b = refl

goes : (l : Layout) (o : CastOp) (s t : Scalar) → goes_between o s t ≡ true → GoesBetween o (width_of_scalar l s) (width_of_scalar l t)
goes l cast.Trunc s t e = narrower l s t e
goes l cast.ZExt s t e = narrower l t s e
goes l cast.SExt s t e = narrower l t s e
goes l cast.PtrToInt s t e = tt
goes l cast.IntToPtr s t e = tt
goes l cast.BitCast s t e = let both = and_parts (is_pointer s) (is_pointer t) e in pointers l s t both.0 both.1

both_some : (o : CastOp) (a b : Option Scalar) → converts o a b ≡ true → (s : Scalar) × (t : Scalar) × (a ≡ Some s) × (b ≡ Some t) × (goes_between o s t ≡ true)
both_some o None b e = absurd (false≢true e)
both_some o (Some s) None e = absurd (false≢true e)
both_some o (Some s) (Some t) e = (s, t, refl, refl, e)

pub converted : (l : Layout) (o : CastOp) (t u : Ty) → converts o (scalar_of t) (scalar_of u) ≡ true → GoesBetween o (width_of l t) (width_of l u) × (s : Scalar) × (scalar_of u ≡ Some s)
converted l o t u e =
    let both = both_some o (scalar_of t) (scalar_of u) e in
    let from : GoesBetween o (width_of l t) (width_of_scalar l both.1) = subst (λ (w : ℕ). GoesBetween o w (width_of_scalar l both.1)) (scalar_width l t both.0 both.2) (goes l o both.0 both.1 both.4) in
    (subst (GoesBetween o (width_of l t)) (scalar_width l u both.1 both.3) from, both.1, both.3)
