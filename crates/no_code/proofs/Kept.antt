-- Cells of values stay right while tables grow.
use Rattle.std.proofs.Common.{◌≡◌, ◌<◌, ℕ, true, Option, Some, None, Bool, sym, ap, subst}
use Rattle.no_ir.specs.declared.types.Ty.{Ty}
use Rattle.no_ir.specs.declared.instruction.BinOp.{BinOp}
use Rattle.no_ir.specs.declared.instruction.BinOp.TheVariants as bin
use Rattle.no_ir.specs.declared.instruction.Pred.{Pred}
use Rattle.no_ir.specs.declared.instruction.Pred.TheVariants as pred
use Rattle.no_ir.specs.declared.instruction.CastOp.{CastOp}
use Rattle.no_ir.specs.declared.instruction.CastOp.TheVariants as cast
use Rattle.no_ir.specs.declared.instruction.Operand.{Operand}
use Rattle.no_ir.specs.declared.instruction.Op.TheVariants as op
use Rattle.no_ir.specs.declared.instruction.Instr.{Instr}
use Rattle.no_ir.specs.declared.function.Function.{Function}
use Rattle.no_semantics.specs.Values.{width_of}
use Rattle.no_code.specs.declared.code.Cell.{Cell}
use Rattle.no_code.specs.declared.code.Cell.TheVariants as cell
use Rattle.no_code.specs.declared.code.Code.{Code}
use Rattle.no_code.specs.declared.frame.Frame.{Frame}
use Rattle.no_layout.specs.Sizes.{type_align, type_stride}
use Rattle.no_semantics.specs.Image.{stated_or}
use Rattle.no_semantics.specs.Sound.{align_fits, type_fits}
use Rattle.no_code.specs.Coded.{IsBinary, IsCompare, IsCast, IsCell, IsCount}
use Rattle.no_code.specs.Longer.{Adds, Longer}
use Rattle.no_code.specs.Making.{Grows, Stays, binary_cell, compare_cell, cast_cell}
use Rattle.no_code.specs.Slots.{IsInto, IsSlot}
use Rattle.no_ir.specs.declared.constant.Const.TheVariants as const
use Rattle.no_ir.specs.declared.instruction.Operand.TheVariants as operand
use Rattle.no_code.specs.Source.{Source}
use Rattle.no_code.proofs.Grown.{longer_adds, slot_stays}

pub grows_adds : (a b : Code) → Adds a b → Grows a b
grows_adds a b r = record {
  longer = longer_adds a b r;
  cells = ap (λ (x : Code). x.cells) r.1;
  places = ap (λ (x : Code). x.places) r.1;
  homes = ap (λ (x : Code). x.homes) r.1;
}

module _ (s : Source) (g : Function) (f : Frame) (i : Instr) where
  binary_is : (later : Code) (o : BinOp) (w into x y : ℕ) → IsBinary s f.registers later o w into x y i → IsCell s f.registers later g f.base f.label i (binary_cell o w into x y)
  binary_is later bin.Add w into x y is = is
  binary_is later bin.Sub w into x y is = is
  binary_is later bin.Mul w into x y is = is
  binary_is later bin.UDiv w into x y is = is
  binary_is later bin.URem w into x y is = is
  binary_is later bin.SDiv w into x y is = is
  binary_is later bin.SRem w into x y is = is
  binary_is later bin.Shl w into x y is = is
  binary_is later bin.LShr w into x y is = is
  binary_is later bin.AShr w into x y is = is
  binary_is later bin.And w into x y is = is
  binary_is later bin.Or w into x y is = is
  binary_is later bin.Xor w into x y is = is

  compare_is : (later : Code) (o : Pred) (w into x y : ℕ) → IsCompare s f.registers later o w into x y i → IsCell s f.registers later g f.base f.label i (compare_cell o w into x y)
  compare_is later pred.Eq w into x y is = is
  compare_is later pred.Ne w into x y is = is
  compare_is later pred.Ugt w into x y is = is
  compare_is later pred.Uge w into x y is = is
  compare_is later pred.Ult w into x y is = is
  compare_is later pred.Ule w into x y is = is
  compare_is later pred.Sgt w into x y is = is
  compare_is later pred.Sge w into x y is = is
  compare_is later pred.Slt w into x y is = is
  compare_is later pred.Sle w into x y is = is

  cast_is : (later : Code) (o : CastOp) (w v into x : ℕ) → IsCast s f.registers later o w v into x i → IsCell s f.registers later g f.base f.label i (cast_cell o w v into x)
  cast_is later cast.Trunc w v into x is = is
  cast_is later cast.ZExt w v into x is = is
  cast_is later cast.SExt w v into x is = is
  cast_is later cast.PtrToInt w v into x is = is
  cast_is later cast.IntToPtr w v into x is = is
  cast_is later cast.BitCast w v into x is = is

  module _ (new : Code) where
    abbrev pub Slot : ℕ → Operand → ℕ → Type 0
    Slot = IsSlot s f.registers new.constants

    kept : (later : Code) → Longer new later → (w : ℕ) (o : Operand) (x : ℕ) → Slot w o x → IsSlot s f.registers later.constants w o x
    kept later r w o x is = slot_stays s f.registers new.constants later.constants w o x r.constants is

    pub binary_stays : (o : BinOp) (w into x y : ℕ) (a b : Operand) (c : Cell) → c ≡ binary_cell o w into x y → i.op ≡ op.Binary o w a b → IsInto f.registers i.result into → Slot w a x → Slot w b y → Stays s g f new i c
    binary_stays o w into x y a b c made is result left right = subst (λ (d : Cell). Stays s g f new i d) (sym made)
        (λ later r. binary_is later o w into x y (record { a = a; b = b; is = is; result = result; left = kept later r w a x left; right = kept later r w b y right }))

    pub compare_stays : (o : Pred) (t : Ty) (w into x y : ℕ) (a b : Operand) (c : Cell) → c ≡ compare_cell o w into x y → i.op ≡ op.Compare o t a b → w ≡ width_of s.layout t → IsInto f.registers i.result into → Slot w a x → Slot w b y → Stays s g f new i c
    compare_stays o t w into x y a b c made is width result left right = subst (λ (d : Cell). Stays s g f new i d) (sym made)
        (λ later r. compare_is later o w into x y (record { t = t; a = a; b = b; is = is; width = width; result = result; left = kept later r w a x left; right = kept later r w b y right }))

    pub cast_stays : (o : CastOp) (t u : Ty) (w v into x : ℕ) (a : Operand) (c : Cell) → c ≡ cast_cell o w v into x → i.op ≡ op.Cast o t a u → w ≡ width_of s.layout t → v ≡ width_of s.layout u → IsInto f.registers i.result into → Slot w a x → Stays s g f new i c
    cast_stays o t u w v into x a c made is width to result value = subst (λ (d : Cell). Stays s g f new i d) (sym made)
        (λ later r. cast_is later o w v into x (record { t = t; a = a; u = u; is = is; width = width; to = to; result = result; value = kept later r w a x value }))

    pub freeze_stays : (t : Ty) (w into x : ℕ) (a : Operand) → i.op ≡ op.Freeze t a → w ≡ width_of s.layout t → IsInto f.registers i.result into → Slot w a x → Stays s g f new i (cell.Copy into x)
    freeze_stays t w into x a is width result value later r =
        record { t = t; a = a; is = is; result = result; value = subst (λ (v : ℕ). IsSlot s f.registers later.constants v a x) width (kept later r w a x value) }

    pub select_stays : (t : Ty) (w into z x y : ℕ) (d a b : Operand) → i.op ≡ op.Select d t a b → w ≡ width_of s.layout t → IsInto f.registers i.result into → Slot 1 d z → Slot w a x → Slot w b y → Stays s g f new i (cell.Select into z x y)
    select_stays t w into z x y d a b is width result condition left right later r = record {
      c = d;
      t = t;
      a = a;
      b = b;
      is = is;
      result = result;
      condition = kept later r 1 d z condition;
      left = subst (λ (v : ℕ). IsSlot s f.registers later.constants v a x) width (kept later r w a x left);
      right = subst (λ (v : ℕ). IsSlot s f.registers later.constants v b y) width (kept later r w b y right);
    }

    pub load_stays : (volatile : Bool) (t : Ty) (w into x : ℕ) (a : Operand) → i.op ≡ op.Load volatile t a → w ≡ width_of s.layout t → IsInto f.registers i.result into → Slot s.layout.pointer a x → Stays s g f new i (cell.Load w into x)
    load_stays volatile t w into x a is width result address later r =
        record { volatile = volatile; t = t; a = a; is = is; width = width; result = result; address = kept later r s.layout.pointer a x address }

    pub store_stays : (volatile : Bool) (t : Ty) (w y x : ℕ) (v a : Operand) → i.op ≡ op.Store volatile t v a → w ≡ width_of s.layout t → Slot w v y → Slot s.layout.pointer a x → Stays s g f new i (cell.Store w y x)
    store_stays volatile t w y x v a is width value address later r =
        record { volatile = volatile; t = t; v = v; a = a; is = is; width = width; value = kept later r w v y value; address = kept later r s.layout.pointer a x address }

    pub leave_stays : (t : Ty) (w x : ℕ) (a : Operand) → i.op ≡ op.Ret (Some (t, a)) → w ≡ width_of s.layout t → Slot w a x → Stays s g f new i (cell.Ret x)
    leave_stays t w x a is width value later r =
        record { t = t; a = a; is = is; value = subst (λ (v : ℕ). IsSlot s f.registers later.constants v a x) width (kept later r w a x value) }

    count_kept : (later : Code) → Longer new later → (count : Option (ℕ × Operand)) (x : ℕ) → IsCount s f.registers new count x → IsCount s f.registers later count x
    count_kept later r None x is = kept later r 64 (operand.Const (const.Int 1)) x is
    count_kept later r (Some count) x is = kept later r count.0 count.1 x is

    pub alloca_stays : (t : Ty) (count : Option (ℕ × Operand)) (stated : Option ℕ) (into x stride align : ℕ) → i.op ≡ op.Alloca t count stated → IsInto f.registers i.result into → IsCount s f.registers new count x
        → (type_fits s.layout s.sizes t ≡ true → stride ≡ type_stride s.layout s.sizes t) → (type_fits s.layout s.sizes t ≡ true → align ≡ stated_or stated (type_align s.layout s.sizes t)) → (align_fits stated ≡ true → 0 < align) → Stays s g f new i (cell.Alloca into x stride align)
    alloca_stays t count stated into x stride align is result many apart aligned some later r =
        record { t = t; count = count; stated = stated; is = is; result = result; many = count_kept later r count x many; apart = apart; aligned = aligned; some = some }
