-- What instructions give is a number of the width of their result.
use Rattle.std.proofs.Common.{◌≡◌, ℕ, ◌-◌, ◌*◌, ◌/◌, ◌^◌, ◌<◌, ◌≤◌, ◌==◌, nat_lt, Bool, true, false, Option, Some, None, Result, Ok, Err, if◌then◌else◌, IfOk, List, map, refl, sym, subst, arith, pow_mono, le_trans, div-mul-le_self, sub-le}
use Rattle.std.proofs.lemmas.Bool.{ltb-false}
use Rattle.no_ir.specs.declared.types.Ty.{Ty}
use Rattle.no_ir.specs.declared.ending.Trap.{Trap}
use Rattle.no_ir.specs.declared.instruction.BinOp.{BinOp}
use Rattle.no_ir.specs.declared.instruction.CastOp.{CastOp}
use Rattle.no_ir.specs.declared.instruction.Pred.{Pred}
use Rattle.no_ir.specs.declared.instruction.Operand.{Operand}
use Rattle.no_eval.specs.Binary.{binary_of}
use Rattle.no_eval.specs.Cast.{GoesBetween}
use Rattle.no_eval.specs.Compare.{compare_of}
use Rattle.no_eval.proofs.Within.{binary_within, cast_within}
use Rattle.no_layout.specs.Memory.{refusal, stack_start, stack_end}
use Rattle.no_layout.specs.Sizes.{type_align, type_stride}
use Rattle.no_semantics.specs.Image.{stated_or}
use Rattle.no_semantics.specs.Registers.{Registers, given, all_given, operand, index_of}
use Rattle.no_semantics.specs.Results.{Valued, Number, Traps, NoValue, reading, valued, bit, binary_value, compare_value, cast_value, freeze_value, select_value, gep_value, address_after, in_stack, lowered, stack_place, count_of, alloca_value, bytes_of_type, loaded, load_value}
use Rattle.no_semantics.specs.Values.{Program, width_of}
use Rattle.no_progress.specs.Valid.{IsOnStack}
use Rattle.no_progress.proofs.Reading.{Has, low}

-- a number of w bits, or a trap
abbrev pub Good : ℕ → Valued → Type 0
Good w (Number n) = n < 2 ^ w
Good w (Traps t) = Unit {0}
Good w NoValue = ⊥

pub good_read : (w v : ℕ) (p : Program) (rs : Registers) (o : Operand) (make : ℕ → Valued) → (h : Has p rs v o) → Good w (make h.0) → Good w (reading (operand p v rs o) make)
good_read w v p rs o make h g = subst (λ (x : Option ℕ). Good w (reading x make)) (sym h.1) g

good_result : (w : ℕ) (r : Result ℕ Trap) → IfOk r (λ n. n < 2 ^ w) → Good w (valued r)
good_result w (Ok n) h = h
good_result w (Err t) h = tt

bit_small : (b : Bool) → bit b < 2 ^ 1
bit_small true = omega arith
bit_small false = omega arith

module _ (p : Program) (rs : Registers) where
  pub binary_good : (o : BinOp) (w : ℕ) (a b : Operand) → Has p rs w a → Has p rs w b → Good w (binary_value p rs o w a b)
  unfolding binary_value
  binary_good o w a b x y = good_read w w p rs a _ x (good_read w w p rs b _ y (good_result w (binary_of o w x.0 y.0) (binary_within o w x.0 y.0 x.2 y.2)))

  pub compare_good : (o : Pred) (t : Ty) (a b : Operand) → Has p rs (width_of p.layout t) a → Has p rs (width_of p.layout t) b → Good 1 (compare_value p rs o t a b)
  unfolding compare_value
  compare_good o t a b x y = good_read 1 (width_of p.layout t) p rs a _ x (good_read 1 (width_of p.layout t) p rs b _ y (bit_small (compare_of o (width_of p.layout t) x.0 y.0)))

  pub cast_good : (o : CastOp) (t : Ty) (a : Operand) (u : Ty) → Has p rs (width_of p.layout t) a → GoesBetween o (width_of p.layout t) (width_of p.layout u) → Good (width_of p.layout u) (cast_value p rs o t a u)
  unfolding cast_value
  cast_good o t a u x goes = good_read (width_of p.layout u) (width_of p.layout t) p rs a _ x (cast_within o (width_of p.layout t) (width_of p.layout u) x.0 goes x.2)

  pub freeze_good : (t : Ty) (a : Operand) → Has p rs (width_of p.layout t) a → Good (width_of p.layout t) (freeze_value p rs t a)
  unfolding freeze_value
  freeze_good t a x = good_read (width_of p.layout t) (width_of p.layout t) p rs a Number x x.2

  either : (b : Bool) (w x y : ℕ) → x < 2 ^ w → y < 2 ^ w → (if b then x else y) < 2 ^ w
  either true w x y f g = f
  either false w x y f g = g

  pub select_good : (c : Operand) (t : Ty) (a b : Operand) → Has p rs 1 c → Has p rs (width_of p.layout t) a → Has p rs (width_of p.layout t) b → Good (width_of p.layout t) (select_value p rs c t a b)
  unfolding select_value
  select_good c t a b z x y = good_read (width_of p.layout t) 1 p rs c _ z (good_read (width_of p.layout t) (width_of p.layout t) p rs a _ x (good_read (width_of p.layout t) (width_of p.layout t) p rs b _ y (either (z.0 == 1) (width_of p.layout t) x.0 y.0 x.2 y.2)))

  pub gep_good : (t : Ty) (a : Operand) (indices : List (ℕ × Operand)) (ns : List ℕ) → Has p rs p.layout.pointer a → all_given (map (index_of p rs) indices) ≡ Some ns → Good p.layout.pointer (gep_value p rs t a indices)
  unfolding gep_value
  gep_good t a indices ns x e = good_read p.layout.pointer p.layout.pointer p rs a _ x
      (subst (λ (o : Option (List ℕ)). Good p.layout.pointer (given NoValue o (λ ns. Number (address_after p t x.0 ns)))) (sym e) (low _ p.layout.pointer))

  load_of : (byte : ℕ → ℕ) (w at : ℕ) (o : Option Trap) → Good w (loaded p byte w at o)
  load_of byte w at (Some t) = tt
  load_of byte w at None = low _ w

  pub load_good : (byte : ℕ → ℕ) (t : Ty) (a : Operand) → Has p rs p.layout.pointer a → Good (width_of p.layout t) (load_value p rs byte t a)
  unfolding load_value
  load_good byte t a x = good_read (width_of p.layout t) p.layout.pointer p rs a _ x (load_of byte (width_of p.layout t) x.0 (refusal p.regions false x.0 (bytes_of_type p t)))

-- ---- places on the stack

-- a place on the stack, or a trap
abbrev pub IsPlace : Valued → Type 0
IsPlace (Number n) = IsOnStack n
IsPlace (Traps t) = Unit {0}
IsPlace NoValue = ⊥

place_in : (place : ℕ) (b : Bool) → nat_lt place stack_start ≡ b → place ≤ stack_end → IsPlace (stack_place (if b then None else Some place))
place_in place true e most = tt
place_in place false e most = (ltb-false place stack_start e, most)

lowered_in : (sp bytes align : ℕ) (b : Bool) → sp ≤ stack_end → IsPlace (stack_place (if b then None else in_stack ((sp - bytes) / align * align)))
lowered_in sp bytes align true most = tt
lowered_in sp bytes align false most = place_in ((sp - bytes) / align * align) (nat_lt ((sp - bytes) / align * align) stack_start) refl (le_trans (div-mul-le_self (sp - bytes) align) (le_trans (sub-le sp bytes) most))

pub lowered_place : (sp bytes align : ℕ) → sp ≤ stack_end → IsPlace (stack_place (lowered sp bytes align))
lowered_place sp bytes align most = lowered_in sp bytes align (nat_lt sp bytes) most

pub alloca_place : (p : Program) (rs : Registers) (sp : ℕ) (t : Ty) (count : Option (ℕ × Operand)) (align : Option ℕ) (n : ℕ) → sp ≤ stack_end → count_of p rs count ≡ Some n → IsPlace (alloca_value p rs sp t count align)
unfolding alloca_value
alloca_place p rs sp t count align n most e =
    subst (λ (o : Option ℕ). IsPlace (reading o (λ n. stack_place (lowered sp (n * type_stride p.layout p.sizes t) (stated_or align (type_align p.layout p.sizes t)))))) (sym e)
    (lowered_place sp (n * type_stride p.layout p.sizes t) (stated_or align (type_align p.layout p.sizes t)) most)

-- a place on the stack is a pointer's number
pub stack_small : (w n : ℕ) → 32 ≤ w → IsOnStack n → n < 2 ^ w
stack_small w n wide on =
    let big : 2 ^ 32 ≤ 2 ^ w = pow_mono wide in
    let most : n ≤ stack_end = on.1 in
    omega (arith, big, most)
