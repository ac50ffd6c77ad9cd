-- Cells of values mean their instructions.
use Rattle.std.proofs.Common.{◌≡◌, ℕ, ◌<◌, ◌≤◌, ◌==◌, ◌&&◌, if◌then◌else◌, true, IsTrue, List, length, Option, Some, refl, sym, ap, subst, ◌∙◌, arith}
use Rattle.std.proofs.lemmas.Bool.{and_parts, eqb-true, ltb-true}
use Rattle.no_ir.specs.declared.types.Ty.{Ty}
use Rattle.no_ir.specs.declared.instruction.BinOp.{BinOp}
use Rattle.no_ir.specs.declared.instruction.CastOp.{CastOp}
use Rattle.no_ir.specs.declared.instruction.CastOp.TheVariants as cast
use Rattle.no_ir.specs.declared.instruction.Pred.{Pred}
use Rattle.no_ir.specs.declared.instruction.Instr.{Instr}
use Rattle.no_ir.specs.declared.instruction.Op.{Op}
use Rattle.no_ir.specs.declared.instruction.Op.TheVariants as op
use Rattle.no_ir.specs.declared.instruction.Operand.{Operand}
use Rattle.no_eval.specs.Binary.{binary_of}
use Rattle.no_eval.specs.Compare.{compare_of}
use Rattle.no_eval.specs.Cast.{GoesBetween, cast_of}
use Rattle.no_layout.specs.Text.{is_formed}
use Rattle.no_semantics.specs.Acting.{row_of_op}
use Rattle.no_semantics.specs.Registers.{operand, operand_of}
use Rattle.no_semantics.specs.Results.{Valued, Number, binary_value, bit, cast_value, compare_value, freeze_value, select_value, valued}
use Rattle.no_semantics.specs.Rows.{Row, computed}
use Rattle.no_semantics.specs.Sound.{goes_between, is_scalar, is_width, op_fits, operand_fits}
use Rattle.no_semantics.specs.States.{State}
use Rattle.no_semantics.specs.Values.{Program, width_of}
use Rattle.no_semantics.proofs.Scalars.{most, scalar_width, some}
use Rattle.no_code.specs.Coded.{IsBinary, IsCast, IsCompare, IsCopy, IsSelect}
use Rattle.no_code.specs.declared.code.Code.{Code}
use Rattle.no_machine.specs.Did.{IsReadyBinary, IsReadyCast}
use Rattle.no_machine.specs.Standing.{IsFrameAt, source_of}
use Rattle.no_machine.proofs.Going.{Live, one_known, three_known, two_known}
use Rattle.no_machine.proofs.Reading.{Reads, number_in, reads}

-- ---- rows of operands that have numbers

binary_row : (p : Program) (into : Option ℕ) (o : BinOp) (w : ℕ) (a b : Operand) (s : State) (u v : ℕ) → operand p w s.frame.registers a ≡ Some u → operand p w s.frame.registers b ≡ Some v
    → computed into (binary_value p s.frame.registers o w a b) s ≡ computed into (valued (binary_of o w u v)) s
unfolding binary_value
binary_row p into o w a b s u v e f = rw (e, f) refl

binary_known : (p : Program) (into : Option ℕ) (o : BinOp) (w : ℕ) (a b : Operand) (s : State) → Live (computed into (binary_value p s.frame.registers o w a b) s)
    → (u v : ℕ) × (operand p w s.frame.registers a ≡ Some u) × (operand p w s.frame.registers b ≡ Some v)
unfolding binary_value
binary_known p into o w a b s live = two_known (operand p w s.frame.registers a) (operand p w s.frame.registers b) (λ x y. valued (binary_of o w x y)) into s live

compare_row : (p : Program) (into : Option ℕ) (o : Pred) (t : Ty) (a b : Operand) (s : State) (u v : ℕ) → operand_of p s.frame.registers t a ≡ Some u → operand_of p s.frame.registers t b ≡ Some v
    → computed into (compare_value p s.frame.registers o t a b) s ≡ computed into (Number (bit (compare_of o (width_of p.layout t) u v))) s
unfolding compare_value
compare_row p into o t a b s u v e f = rw (e, f) refl

compare_known : (p : Program) (into : Option ℕ) (o : Pred) (t : Ty) (a b : Operand) (s : State) → Live (computed into (compare_value p s.frame.registers o t a b) s)
    → (u v : ℕ) × (operand_of p s.frame.registers t a ≡ Some u) × (operand_of p s.frame.registers t b ≡ Some v)
unfolding compare_value
compare_known p into o t a b s live = two_known (operand_of p s.frame.registers t a) (operand_of p s.frame.registers t b) (λ x y. Number (bit (compare_of o (width_of p.layout t) x y))) into s live

cast_row : (p : Program) (into : Option ℕ) (o : CastOp) (t : Ty) (a : Operand) (t' : Ty) (s : State) (u : ℕ) → operand_of p s.frame.registers t a ≡ Some u
    → computed into (cast_value p s.frame.registers o t a t') s ≡ computed into (Number (cast_of o (width_of p.layout t) (width_of p.layout t') u)) s
unfolding cast_value
cast_row p into o t a t' s u e = rw e refl

cast_known : (p : Program) (into : Option ℕ) (o : CastOp) (t : Ty) (a : Operand) (t' : Ty) (s : State) → Live (computed into (cast_value p s.frame.registers o t a t') s) → (u : ℕ) × (operand_of p s.frame.registers t a ≡ Some u)
unfolding cast_value
cast_known p into o t a t' s live = one_known (operand_of p s.frame.registers t a) (λ x. Number (cast_of o (width_of p.layout t) (width_of p.layout t') x)) into s live

freeze_row : (p : Program) (into : Option ℕ) (t : Ty) (a : Operand) (s : State) (u : ℕ) → operand_of p s.frame.registers t a ≡ Some u → computed into (freeze_value p s.frame.registers t a) s ≡ computed into (Number u) s
unfolding freeze_value
freeze_row p into t a s u e = rw e refl

freeze_known : (p : Program) (into : Option ℕ) (t : Ty) (a : Operand) (s : State) → Live (computed into (freeze_value p s.frame.registers t a) s) → (u : ℕ) × (operand_of p s.frame.registers t a ≡ Some u)
unfolding freeze_value
freeze_known p into t a s live = one_known (operand_of p s.frame.registers t a) Number into s live

select_row : (p : Program) (into : Option ℕ) (c : Operand) (t : Ty) (a b : Operand) (s : State) (z u v : ℕ) → operand p 1 s.frame.registers c ≡ Some z → operand_of p s.frame.registers t a ≡ Some u → operand_of p s.frame.registers t b ≡ Some v
    → computed into (select_value p s.frame.registers c t a b) s ≡ computed into (Number (if z == 1 then u else v)) s
unfolding select_value
select_row p into c t a b s z u v e f g = rw (e, f, g) refl

select_known : (p : Program) (into : Option ℕ) (c : Operand) (t : Ty) (a b : Operand) (s : State) → Live (computed into (select_value p s.frame.registers c t a b) s)
    → (z u v : ℕ) × (operand p 1 s.frame.registers c ≡ Some z) × (operand_of p s.frame.registers t a ≡ Some u) × (operand_of p s.frame.registers t b ≡ Some v)
unfolding select_value
select_known p into c t a b s live =
    three_known (operand p 1 s.frame.registers c) (operand_of p s.frame.registers t a) (operand_of p s.frame.registers t b) (λ z x y. Number (if z == 1 then x else y)) into s live

between_is : (o : CastOp) (w v : ℕ) → goes_between o w v ≡ true → GoesBetween o w v
between_is cast.Trunc w v e = ltb-true v w e
between_is cast.ZExt w v e = ltb-true w v e
between_is cast.SExt w v e = ltb-true w v e
between_is cast.PtrToInt w v e = tt
between_is cast.IntToPtr w v e = tt
between_is cast.BitCast w v e = eqb-true w v e

module _ (p : Program) (formed : IsTrue (is_formed p.layout)) (code : Code) (i : Instr) (s : State) (at : ℕ) (old : List ℕ) (here : IsFrameAt p.«module» s.frame at old) (fits : op_fits p.«module» p.layout p.sizes i.op ≡ true) (live : Live (row_of_op p i.result i.op s)) where
  abbrev fits_in : Operand → Type 0
  fits_in a = operand_fits p.«module» p.layout p.sizes a ≡ true

  abbrev Row' : Row
  Row' = row_of_op p i.result i.op s

  abbrev n : ℕ
  n = length s.frame.registers

  fits_as : (q : Op) → i.op ≡ q → op_fits p.«module» p.layout p.sizes q ≡ true
  fits_as q e = subst (λ (r : Op). op_fits p.«module» p.layout p.sizes r ≡ true) e fits

  row_as : (q : Op) → i.op ≡ q → Row' ≡ row_of_op p i.result q s
  row_as q e = ap (λ (r : Op). row_of_op p i.result r s) e

  live_as : (q : Op) → i.op ≡ q → Live (row_of_op p i.result q s)
  live_as q e = subst (λ (r : Op). Live (row_of_op p i.result r s)) e live

  -- ---- binary operators and comparisons: two operands of one width

  pub record Two (w x y : ℕ) (Result' : ℕ → ℕ → Valued) : Type 0 where
    pub some : 0 < w
    pub most : w ≤ 64
    pub first : ℕ
    pub second : ℕ
    pub left : Reads old code.constants w x first
    pub right : Reads old code.constants w y second
    pub row : Row' ≡ computed i.result (Result' first second) s

  pub binary_two : (o : BinOp) (w into x y : ℕ) (r : IsBinary (source_of p) n code o w into x y i) → Two w x y (λ u v. valued (binary_of o w u v))
  binary_two o w into x y r =
      let q : Op = op.Binary o w r.a r.b in
      let parts = and_parts (is_width w) (operand_fits p.«module» p.layout p.sizes r.a && operand_fits p.«module» p.layout p.sizes r.b) (fits_as q r.is) in
      let both = and_parts (operand_fits p.«module» p.layout p.sizes r.a) (operand_fits p.«module» p.layout p.sizes r.b) parts.1 in
      let known = binary_known p i.result o w r.a r.b s (live_as q r.is) in
      let low = some w parts.0 in
      let high = most w parts.0 in
      record {
        some = low;
        most = high;
        first = known.0;
        second = known.1;
        left = reads p s.frame.registers old code.constants here.covers w x known.0 r.a low high both.0 r.left known.2;
        right = reads p s.frame.registers old code.constants here.covers w y known.1 r.b low high both.1 r.right known.3;
        row = row_as q r.is ∙ binary_row p i.result o w r.a r.b s known.0 known.1 known.2 known.3;
      }

  pub compare_two : (o : Pred) (w into x y : ℕ) (r : IsCompare (source_of p) n code o w into x y i) → Two w x y (λ u v. Number (bit (compare_of o w u v)))
  compare_two o w into x y r =
      let q : Op = op.Compare o r.t r.a r.b in
      let parts = and_parts (is_scalar r.t) (operand_fits p.«module» p.layout p.sizes r.a && operand_fits p.«module» p.layout p.sizes r.b) (fits_as q r.is) in
      let both = and_parts (operand_fits p.«module» p.layout p.sizes r.a) (operand_fits p.«module» p.layout p.sizes r.b) parts.1 in
      let known = compare_known p i.result o r.t r.a r.b s (live_as q r.is) in
      let width : is_width w ≡ true = subst (λ (k : ℕ). is_width k ≡ true) (sym r.width) (scalar_width p.layout r.t formed parts.0) in
      let low = some w width in
      let high = most w width in
      record {
        some = low;
        most = high;
        first = known.0;
        second = known.1;
        left = reads p s.frame.registers old code.constants here.covers w x known.0 r.a low high both.0 r.left (ap (λ (k : ℕ). operand p k s.frame.registers r.a) r.width ∙ known.2);
        right = reads p s.frame.registers old code.constants here.covers w y known.1 r.b low high both.1 r.right (ap (λ (k : ℕ). operand p k s.frame.registers r.b) r.width ∙ known.3);
        row = row_as q r.is ∙ compare_row p i.result o r.t r.a r.b s known.0 known.1 known.2 known.3 ∙ ap (λ (k : ℕ). computed i.result (Number (bit (compare_of o k known.0 known.1))) s) (sym r.width);
      }

  pub two_ready : (w into x y : ℕ) (result : ℕ → ℕ → Valued) → into < length old → Two w x y result → IsReadyBinary old code.constants w into x y
  two_ready w into x y result inside t = record {
    some = t.some;
    most = t.most;
    left = number_in old code.constants w x t.first t.left;
    right = number_in old code.constants w y t.second t.right;
    result = inside;
  }

  -- ---- conversions

  pub record One (w v x : ℕ) (o : CastOp) : Type 0 where
    pub some : 0 < w
    pub most : w ≤ 64
    pub some_to : 0 < v
    pub most_to : v ≤ 64
    pub between : GoesBetween o w v
    pub number : ℕ
    pub value : Reads old code.constants w x number
    pub row : Row' ≡ computed i.result (Number (cast_of o w v number)) s

  pub cast_one : (o : CastOp) (w v into x : ℕ) (r : IsCast (source_of p) n code o w v into x i) → One w v x o
  cast_one o w v into x r =
      let q : Op = op.Cast o r.t r.a r.u in
      let parts = and_parts (is_scalar r.t && is_scalar r.u) (goes_between o (width_of p.layout r.t) (width_of p.layout r.u) && operand_fits p.«module» p.layout p.sizes r.a) (fits_as q r.is) in
      let scalars = and_parts (is_scalar r.t) (is_scalar r.u) parts.0 in
      let rest = and_parts (goes_between o (width_of p.layout r.t) (width_of p.layout r.u)) (operand_fits p.«module» p.layout p.sizes r.a) parts.1 in
      let known = cast_known p i.result o r.t r.a r.u s (live_as q r.is) in
      let width : is_width w ≡ true = subst (λ (k : ℕ). is_width k ≡ true) (sym r.width) (scalar_width p.layout r.t formed scalars.0) in
      let width_to : is_width v ≡ true = subst (λ (k : ℕ). is_width k ≡ true) (sym r.to) (scalar_width p.layout r.u formed scalars.1) in
      record {
        some = some w width;
        most = most w width;
        some_to = some v width_to;
        most_to = most v width_to;
        between = subst (λ (k : ℕ). GoesBetween o k v) (sym r.width) (subst (λ (k : ℕ). GoesBetween o (width_of p.layout r.t) k) (sym r.to) (between_is o (width_of p.layout r.t) (width_of p.layout r.u) rest.0));
        number = known.0;
        value = reads p s.frame.registers old code.constants here.covers w x known.0 r.a (some w width) (most w width) rest.1 r.value (ap (λ (k : ℕ). operand p k s.frame.registers r.a) r.width ∙ known.1);
        row = row_as q r.is ∙ cast_row p i.result o r.t r.a r.u s known.0 known.1
            ∙ ap (λ (k : ℕ). computed i.result (Number (cast_of o k (width_of p.layout r.u) known.0)) s) (sym r.width)
            ∙ ap (λ (k : ℕ). computed i.result (Number (cast_of o w k known.0)) s) (sym r.to);
      }

  pub cast_ready : (o : CastOp) (w v into x : ℕ) → into < length old → One w v x o → IsReadyCast old code.constants o w v into x
  cast_ready o w v into x inside t = record {
    some = t.some;
    most = t.most;
    some_to = t.some_to;
    most_to = t.most_to;
    between = t.between;
    operand = number_in old code.constants w x t.number t.value;
    result = inside;
  }

  -- ---- freeze and select

  pub record Same (x : ℕ) : Type 0 where
    pub width : ℕ
    pub number : ℕ
    pub value : Reads old code.constants width x number
    pub row : Row' ≡ computed i.result (Number number) s

  pub copy_one : (into x : ℕ) (r : IsCopy (source_of p) n code into x i) → Same x
  copy_one into x r =
      let q : Op = op.Freeze r.t r.a in
      let parts = and_parts (is_scalar r.t) (operand_fits p.«module» p.layout p.sizes r.a) (fits_as q r.is) in
      let known = freeze_known p i.result r.t r.a s (live_as q r.is) in
      let width = scalar_width p.layout r.t formed parts.0 in
      record {
        width = width_of p.layout r.t;
        number = known.0;
        value = reads p s.frame.registers old code.constants here.covers (width_of p.layout r.t) x known.0 r.a (some (width_of p.layout r.t) width) (most (width_of p.layout r.t) width) parts.1 r.value known.1;
        row = row_as q r.is ∙ freeze_row p i.result r.t r.a s known.0 known.1;
      }

  pub record Three (z x y : ℕ) : Type 0 where
    pub width : ℕ
    pub test : ℕ
    pub first : ℕ
    pub second : ℕ
    pub condition : Reads old code.constants 1 z test
    pub left : Reads old code.constants width x first
    pub right : Reads old code.constants width y second
    pub row : Row' ≡ computed i.result (Number (if test == 1 then first else second)) s

  pub select_three : (into z x y : ℕ) (r : IsSelect (source_of p) n code into z x y i) → Three z x y
  select_three into z x y r =
      let q : Op = op.Select r.c r.t r.a r.b in
      let parts = and_parts (is_scalar r.t && operand_fits p.«module» p.layout p.sizes r.c) (operand_fits p.«module» p.layout p.sizes r.a && operand_fits p.«module» p.layout p.sizes r.b) (fits_as q r.is) in
      let first = and_parts (is_scalar r.t) (operand_fits p.«module» p.layout p.sizes r.c) parts.0 in
      let both = and_parts (operand_fits p.«module» p.layout p.sizes r.a) (operand_fits p.«module» p.layout p.sizes r.b) parts.1 in
      let known = select_known p i.result r.c r.t r.a r.b s (live_as q r.is) in
      let width = scalar_width p.layout r.t formed first.0 in
      let low = some (width_of p.layout r.t) width in
      let high = most (width_of p.layout r.t) width in
      record {
        width = width_of p.layout r.t;
        test = known.0;
        first = known.1;
        second = known.2;
        condition = reads p s.frame.registers old code.constants here.covers 1 z known.0 r.c (omega arith) (omega arith) first.1 r.condition known.3;
        left = reads p s.frame.registers old code.constants here.covers (width_of p.layout r.t) x known.1 r.a low high both.0 r.left known.4;
        right = reads p s.frame.registers old code.constants here.covers (width_of p.layout r.t) y known.2 r.b low high both.1 r.right known.5;
        row = row_as q r.is ∙ select_row p i.result r.c r.t r.a r.b s known.0 known.1 known.2 known.3 known.4 known.5;
      }
