-- Cells of pointer arithmetic mean their instructions.
use Rattle.std.proofs.Common.{◌≡◌, ℕ, zero, suc, ◌+◌, ◌*◌, ◌%◌, ◌^◌, ◌<◌, ◌≤◌, ◌==◌, ◌&&◌, ◌||◌, nat_lt, if◌then◌else◌, inl, inr, pos, Bool, true, false, IsTrue, List, [], ◌∷◌, map, length, slice_get, slice_range, Option, Some, None, option_map, refl, sym, ap, subst, ◌∙◌, arith}
use Rattle.std.specs.Prelude.{◌-ℤ◌}
use Rattle.std.proofs.lemmas.Bool.{and_parts, cases_lt, eqb-true, le-ltb, lt-ltb, ltb-true, or_cases}
use Rattle.std.proofs.lemmas.Option.{same_Some, slice_get_within}
use Rattle.std.proofs.Math.Nat.{mod-eq_of_lt}
use Rattle.std.proofs.Math.Pow.{pow-lt}
use Rattle.no_ir.specs.declared.constant.Const.{Const}
use Rattle.no_ir.specs.declared.constant.Const.TheVariants as const
use Rattle.no_ir.specs.declared.types.Ty.{Ty, out-Ty}
use Rattle.no_ir.specs.declared.types.Ty.TheOpen.{Ty-F}
use Rattle.no_ir.specs.declared.instruction.Instr.{Instr}
use Rattle.no_ir.specs.declared.instruction.Op.{Op}
use Rattle.no_ir.specs.declared.instruction.Op.TheVariants as op
use Rattle.no_ir.specs.declared.instruction.Operand.{Operand}
use Rattle.no_ir.specs.declared.instruction.Operand.TheVariants as operand'
use Rattle.no_eval.specs.Cast.{cast_of}
use Rattle.no_eval.specs.Numbers.{modulo}
use Rattle.no_layout.specs.Sizes.{HasField, field_count, offset_of, type_stride}
use Rattle.no_layout.specs.Text.{is_formed}
use Rattle.no_semantics.specs.Acting.{row_of_op}
use Rattle.no_semantics.specs.Indices.{index_offset, inner_offset, part_in, path_offset, place_in, resolved, told_of}
use Rattle.no_semantics.specs.Registers.{Registers, all_given, given, index_of, operand, pointer_of, with_front}
use Rattle.no_semantics.specs.Results.{Valued, Number, NoValue, address_after, gep_value, reading}
use Rattle.no_semantics.specs.Rows.{Row, computed}
use Rattle.no_semantics.specs.Sound.{constant_number, field_number, field_of, index_fits, indices_fit, inner_fit, is_width, known_part, op_fits, operand_fits, operand_number, table_holds, type_fits}
use Rattle.no_semantics.specs.States.{State}
use Rattle.no_semantics.specs.Values.{Program, extended}
use Rattle.no_semantics.proofs.Parts.{part_fits, resolved_fits}
use Rattle.no_semantics.proofs.Scalars.{most, pointer_width, some}
use Rattle.no_code.specs.Coded.{AreInner, ArePath, IsField, IsGep, IsIndex, IsPartStep, Told}
use Rattle.no_code.specs.declared.code.Code.{Code}
use Rattle.no_code.specs.declared.code.Step.{Step}
use Rattle.no_code.specs.declared.code.Step.TheVariants as step
use Rattle.no_machine.specs.Did.{IsReadyGep, IsReadyStep, leads}
use Rattle.no_machine.specs.Slots.{value_in}
use Rattle.no_machine.specs.Standing.{Covers, IsFrameAt, source_of}
use Rattle.no_machine.proofs.Going.{Live}
use Rattle.no_machine.proofs.Reading.{Reads, number_in, reads}

-- ---- numbers of fields as indices

pub pointer_least : (P : ℕ) → (P == 32 || P == 64) ≡ true → 32 ≤ P
pointer_least P e = elim (or_cases (P == 32) (P == 64) e) [
  | inl is ↦ (let h : P ≡ 32 = eqb-true P 32 is in omega (arith, h))
  | inr is ↦ (let h : P ≡ 64 = eqb-true P 64 is in omega (arith, h))
]

-- a small number is the same with more bits
small_index : (P k : ℕ) → 32 ≤ P → k < 2 ^ 31 → extended 32 P (k % 2 ^ 32) ≡ k
small_index P k wide low =
    let fits : k < 2 ^ 32 = omega (arith, low) in
    let more : 2 ^ 31 < 2 ^ P = pow-lt {i = 31} {j = P} (omega (arith, wide)) in
    let below : k < 2 ^ P = omega (arith, low, more) in
    ap (λ (n : ℕ). extended 32 P n) (mod-eq_of_lt fits) ∙ elim (cases_lt 32 P) [
      | inl lt ↦
          ap (λ (b : Bool). if b then cast_of Rattle.no_ir.specs.declared.instruction.CastOp.TheVariants.SExt 32 P k else k % 2 ^ P) (lt-ltb 32 P lt)
          ∙ ap (λ (b : Bool). modulo P (if b then pos k else pos k -ℤ pos (2 ^ 32))) (lt-ltb (2 * k) (2 ^ 32) (omega (arith, low))) ∙ mod-eq_of_lt below
      | inr le ↦
          ap (λ (b : Bool). if b then cast_of Rattle.no_ir.specs.declared.instruction.CastOp.TheVariants.SExt 32 P k else k % 2 ^ P) (le-ltb 32 P le)
          ∙ mod-eq_of_lt below
    ]

number_is : (b : Bool) (o : Option ℕ) (k : ℕ) → (if b then o else None) ≡ Some k → (b ≡ true) × (o ≡ Some k)
number_is true o k e = (refl, e)
number_is false o k e = absurd cc

field_is : (index : ℕ × Operand) (k : ℕ) → field_number index ≡ Some k → (index.0 ≡ 32) × (operand_number index.1 ≡ Some k)
field_is index k e = let parts = number_is (index.0 == 32) (operand_number index.1) k e in (eqb-true index.0 32 parts.0, parts.1)

constant_is : (p : Program) (w : ℕ) (registers : Registers) (o : Operand) (k v : ℕ) → operand_number o ≡ Some k → operand p w registers o ≡ Some v → v ≡ k % 2 ^ w
constant_is p w registers (operand'.Reg r) k v e is = absurd cc
constant_is p w registers (operand'.Const c) k v e is = of c e is
  where
    of : (c : Const) → constant_number c ≡ Some k → option_map (λ n. n % 2 ^ w) (Rattle.no_semantics.specs.Registers.constant_number p c) ≡ Some v → v ≡ k % 2 ^ w
    of (const.Int n) e is = sym (same_Some (n % 2 ^ w) v is) ∙ ap (λ (j : ℕ). j % 2 ^ w) (same_Some n k e)
    of _ e is = absurd cc

small_field : (b : Bool) (o : Option Ty) (next : Ty) → (if b then o else None) ≡ Some next → (b ≡ true) × (o ≡ Some next)
small_field true o next e = (refl, e)
small_field false o next e = absurd cc

mapped : (f : ℕ → ℕ) (o : Option ℕ) (n : ℕ) → option_map f o ≡ Some n → (v : ℕ) × (o ≡ Some v) × (f v ≡ n)
mapped f None n e = absurd cc
mapped f (Some v) n e = (v, refl, same_Some (f v) n e)

front_is : (o : Option ℕ) (os : Option (List ℕ)) (ns : List ℕ) → with_front o os ≡ Some ns → (n : ℕ) × (rest : List ℕ) × (o ≡ Some n) × (os ≡ Some rest) × (n ∷ rest ≡ ns)
front_is None os ns e = absurd cc
front_is (Some n) None ns e = absurd cc
front_is (Some n) (Some rest) ns e = (n, rest, refl, refl, same_Some (n ∷ rest) ns e)

told_is : (o : Option Ty) (f : Ty → Bool) → told_of false o f ≡ true → (next : Ty) × (o ≡ Some next) × (f next ≡ true)
told_is None f e = absurd cc
told_is (Some next) f e = (next, refl, e)

-- ---- steps

module _ (p : Program) (formed : IsTrue (is_formed p.layout)) (table : table_holds p.layout p.sizes 0 p.«module».types ≡ true) (code : Code) (registers : Registers) (old : List ℕ) (covers : Covers registers old) where
  abbrev P : ℕ
  P = p.layout.pointer

  abbrev leads_on : List Step → ℕ
  leads_on = leads old code.constants P

  abbrev Ready : Step → Type 0
  Ready = IsReadyStep old code.constants

  abbrev AreReady : List Step → Type 0
  AreReady [] = Unit {0}
  AreReady (one ∷ more) = Ready one × AreReady more

  index_is : (t : Ty) (index : ℕ × Operand) (n : ℕ) (one : Step) → type_fits p.layout p.sizes t ≡ true → index_fits p.«module» p.layout p.sizes index ≡ true → index_of p registers index ≡ Some n
      → IsIndex (source_of p) (length registers) code t index one → Ready one × ((more : List Step) → leads_on (one ∷ more) ≡ n * type_stride p.layout p.sizes t + leads_on more)
  index_is t index n (step.Field offset) fits ok has is = absurd is
  index_is t index n (step.Index w x stride) fits ok has is =
      let parts = and_parts (is_width index.0) (operand_fits p.«module» p.layout p.sizes index.1) ok in
      let value = mapped (extended index.0 P) (operand p index.0 registers index.1) n has in
      let low = some index.0 parts.0 in
      let high = most index.0 parts.0 in
      let read : Reads old code.constants index.0 x value.0 = reads p registers old code.constants covers index.0 x value.0 index.1 low high parts.1 is.1 value.1 in (
        subst (λ (k : ℕ). (0 < k) × (k ≤ 64) × Rattle.no_machine.specs.Slots.IsNumber old code.constants k x) (sym is.0) (low, high, number_in old code.constants index.0 x value.0 read),
        λ more. ap (λ (k : ℕ). extended k P (value_in old code.constants x) * stride + leads_on more) is.0
            ∙ ap (λ (k : ℕ). extended index.0 P k * stride + leads_on more) read.is
            ∙ ap (λ (k : ℕ). k * stride + leads_on more) value.2
            ∙ ap (λ (k : ℕ). n * k + leads_on more) (is.2 fits),
      )

  field_step : (t : Ty) (packed : Bool) (fields : List Ty) (index : ℕ × Operand) (k : Option ℕ) (n : ℕ) (next : Ty) (one : Step) → out-Ty t ≡ Ty-F.Struct packed fields → type_fits p.layout p.sizes t ≡ true → field_number index ≡ k
      → field_of fields k ≡ Some next → index_of p registers index ≡ Some n → IsField (source_of p) (length registers) code t k one
      → Ready one × (part_in (Ty-F.Struct packed fields) n ≡ Some next) × ((more : List Step) → leads_on (one ∷ more) ≡ offset_of p.layout p.sizes t n + leads_on more)
  field_step t packed fields index None n next one shape fits e f has is = absurd cc
  field_step t packed fields index (Some k) n next (step.Index w x stride) shape fits e f has is = absurd is
  field_step t packed fields index (Some k) n next (step.Field offset) shape fits e f has is =
      let small = small_field (nat_lt k (2 ^ 31)) (slice_get fields k) next f in
      let low : k < 2 ^ 31 = ltb-true k (2 ^ 31) small.0 in
      let named = field_is index k e in
      let value = mapped (extended index.0 P) (operand p index.0 registers index.1) n has in
      let constant : value.0 ≡ k % 2 ^ index.0 = constant_is p index.0 registers index.1 k value.0 named.1 value.1 in
      let wide : 32 ≤ P = pointer_least P (and_parts (P == 32 || P == 64) _ formed).0 in
      let number : n ≡ k = sym value.2 ∙ ap (λ (v : ℕ). extended index.0 P v) constant ∙ ap (λ (w : ℕ). extended w P (k % 2 ^ w)) named.0 ∙ small_index P k wide low in
      let field : HasField t k = subst (λ (u : Ty-F Ty). k < field_count u) (sym shape) (slice_get_within fields k next small.1) in (
        tt,
        ap (λ (j : ℕ). part_in (Ty-F.Struct packed fields) j) number ∙ f,
        λ more. ap (λ (j : ℕ). j + leads_on more) (is fits low field) ∙ ap (λ (j : ℕ). offset_of p.layout p.sizes t j + leads_on more) (sym number),
      )

  part_is : (t : Ty) (shape : Ty-F Ty) (index : ℕ × Operand) (n : ℕ) (next : Ty) (one : Step) → out-Ty t ≡ shape → type_fits p.layout p.sizes t ≡ true → index_fits p.«module» p.layout p.sizes index ≡ true
      → known_part shape index ≡ Some next → index_of p registers index ≡ Some n → IsPartStep (source_of p) (length registers) code t shape index one
      → Ready one × (part_in shape n ≡ Some next) × ((more : List Step) → leads_on (one ∷ more) ≡ place_in p.layout p.sizes t shape n + leads_on more)
  part_is t (Ty-F.Array count element) index n next one shape fits ok e has is =
      let inner : type_fits p.layout p.sizes element ≡ true = part_fits p.layout p.sizes t n element fits (ap (λ (u : Ty-F Ty). part_in u n) shape) in
      let step = index_is element index n one inner ok has is in
      (step.0, e, step.1)
  part_is t (Ty-F.Struct packed fields) index n next one shape fits ok e has is = field_step t packed fields index (field_number index) n next one shape fits refl e has is
  part_is t Ty-F.Void index n next one shape fits ok e has is = absurd cc
  part_is t (Ty-F.Int w) index n next one shape fits ok e has is = absurd cc
  part_is t Ty-F.Ptr index n next one shape fits ok e has is = absurd cc
  part_is t (Ty-F.Named k) index n next one shape fits ok e has is = absurd cc

  inner_is : (t : Ty) (indices : List (ℕ × Operand)) (ns : List ℕ) (steps : List Step) → type_fits p.layout p.sizes t ≡ true → inner_fit p.«module» p.layout p.sizes t indices ≡ true → all_given (map (index_of p registers) indices) ≡ Some ns
      → AreInner (source_of p) (length registers) code t indices steps → AreReady steps × (leads_on steps ≡ inner_offset p.layout p.sizes p.«module».types t ns)
  inner_is t [] ns steps fits ok has is = (
    subst AreReady (sym is) tt,
    ap leads_on is ∙ ap (λ (l : List ℕ). inner_offset p.layout p.sizes p.«module».types t l) (same_Some [] ns has),
  )
  inner_is t (index ∷ others) ns steps fits ok has is =
      let T : Ty = resolved p.«module».types t in
      let front = front_is (index_of p registers index) (all_given (map (index_of p registers) others)) ns has in
      let parts = and_parts (index_fits p.«module» p.layout p.sizes index) _ ok in
      let known = told_is (known_part (out-Ty T) index) (λ u. inner_fit p.«module» p.layout p.sizes u others) parts.1 in
      let whole : type_fits p.layout p.sizes T ≡ true = resolved_fits p.layout p.sizes p.«module».types table t fits in
      let step = subst (λ (o : Option Ty). Told o (λ next. (one : Step) × (more : List Step) × (steps ≡ one ∷ more) × IsPartStep (source_of p) (length registers) code T (out-Ty T) index one × AreInner (source_of p) (length registers) code next others more)) known.1 is in
      let part = part_is T (out-Ty T) index front.0 known.0 step.0 refl whole parts.0 known.1 front.2 step.3 in
      let later : type_fits p.layout p.sizes known.0 ≡ true = part_fits p.layout p.sizes T front.0 known.0 whole part.1 in
      let rest = inner_is known.0 others front.1 step.1 later known.2 front.3 step.4 in (
        subst AreReady (sym step.2) (part.0, rest.0),
        ap leads_on step.2 ∙ part.2 step.1 ∙ ap (λ (k : ℕ). index_offset p.layout p.sizes T front.0 + k) rest.1
            ∙ ap (λ (o : Option Ty). told_of 0 o (λ u. index_offset p.layout p.sizes T front.0 + inner_offset p.layout p.sizes p.«module».types u front.1)) (sym part.1)
            ∙ ap (λ (l : List ℕ). inner_offset p.layout p.sizes p.«module».types t l) front.4,
      )

  path_is : (t : Ty) (indices : List (ℕ × Operand)) (ns : List ℕ) (steps : List Step) → type_fits p.layout p.sizes t ≡ true → indices_fit p.«module» p.layout p.sizes t indices ≡ true → all_given (map (index_of p registers) indices) ≡ Some ns
      → ArePath (source_of p) (length registers) code t indices steps → AreReady steps × (leads_on steps ≡ path_offset p.layout p.sizes p.«module».types t ns)
  path_is t [] ns steps fits ok has is = (
    subst AreReady (sym is) tt,
    ap leads_on is ∙ ap (λ (l : List ℕ). path_offset p.layout p.sizes p.«module».types t l) (same_Some [] ns has),
  )
  path_is t (index ∷ others) ns steps fits ok has is =
      let front = front_is (index_of p registers index) (all_given (map (index_of p registers) others)) ns has in
      let parts = and_parts (index_fits p.«module» p.layout p.sizes index) _ ok in
      let first = index_is t index front.0 is.0 fits parts.0 front.2 is.3 in
      let rest = inner_is t others front.1 is.1 fits parts.1 front.3 is.4 in (
        subst AreReady (sym is.2) (first.0, rest.0),
        ap leads_on is.2 ∙ first.1 is.1 ∙ ap (λ (k : ℕ). front.0 * type_stride p.layout p.sizes t + k) rest.1
            ∙ ap (λ (l : List ℕ). path_offset p.layout p.sizes p.«module».types t l) front.4,
      )

  ready_each : (steps : List Step) → AreReady steps → (k : ℕ) (one : Step) → slice_get steps k ≡ Some one → Ready one
  ready_each [] all k one e = absurd cc
  ready_each (s ∷ steps) all zero one e = subst Ready (same_Some s one e) all.0
  ready_each (s ∷ steps) all (suc k) one e = ready_each steps all.1 k one e

  pub walked : (t : Ty) (indices : List (ℕ × Operand)) (ns : List ℕ) (steps : List Step) → type_fits p.layout p.sizes t ≡ true → indices_fit p.«module» p.layout p.sizes t indices ≡ true → all_given (map (index_of p registers) indices) ≡ Some ns
      → ArePath (source_of p) (length registers) code t indices steps → ((k : ℕ) (one : Step) → slice_get steps k ≡ Some one → Ready one) × (leads_on steps ≡ path_offset p.layout p.sizes p.«module».types t ns)
  walked t indices ns steps fits ok has is = let both = path_is t indices ns steps fits ok has is in (ready_each steps both.0, both.1)

-- ---- rows

gep_both : (o : Option ℕ) (q : Option (List ℕ)) (make : ℕ → List ℕ → Valued) (into : Option ℕ) (s : State) → Live (computed into (reading o (λ at. given NoValue q (λ ns. make at ns))) s) → (u : ℕ) × (ns : List ℕ) × (o ≡ Some u) × (q ≡ Some ns)
gep_both None q make into s live = absurd (live refl)
gep_both (Some u) None make into s live = absurd (live refl)
gep_both (Some u) (Some ns) make into s live = (u, ns, refl, refl)

gep_known : (p : Program) (into : Option ℕ) (t : Ty) (a : Operand) (indices : List (ℕ × Operand)) (s : State) → Live (computed into (gep_value p s.frame.registers t a indices) s)
    → (u : ℕ) × (ns : List ℕ) × (pointer_of p s.frame.registers a ≡ Some u) × (all_given (map (index_of p s.frame.registers) indices) ≡ Some ns)
unfolding gep_value
gep_known p into t a indices s live = gep_both (pointer_of p s.frame.registers a) (all_given (map (index_of p s.frame.registers) indices)) (λ at ns. Number (address_after p t at ns)) into s live

gep_row : (p : Program) (into : Option ℕ) (t : Ty) (a : Operand) (indices : List (ℕ × Operand)) (s : State) (u : ℕ) (ns : List ℕ) → pointer_of p s.frame.registers a ≡ Some u → all_given (map (index_of p s.frame.registers) indices) ≡ Some ns
    → computed into (gep_value p s.frame.registers t a indices) s ≡ computed into (Number (address_after p t u ns)) s
unfolding gep_value
gep_row p into t a indices s u ns e f = rw (e, f) refl

-- the row of a cell of pointer arithmetic
pub record Walks (p : Program) (code : Code) (s : State) (old : List ℕ) (row : Row) (into : Option ℕ) (x from to : ℕ) : Type 0 where
  pub base : ℕ
  pub address : Reads old code.constants p.layout.pointer x base
  pub each : (k : ℕ) (one : Step) → slice_get (slice_range code.steps from to) k ≡ Some one → IsReadyStep old code.constants one
  pub is : row ≡ computed into (Number ((value_in old code.constants x + leads old code.constants p.layout.pointer (slice_range code.steps from to)) % 2 ^ p.layout.pointer)) s

module _ (p : Program) (formed : IsTrue (is_formed p.layout)) (table : table_holds p.layout p.sizes 0 p.«module».types ≡ true) (code : Code) (i : Instr) (s : State) (at : ℕ) (old : List ℕ) (here : IsFrameAt p.«module» s.frame at old) (fits : op_fits p.«module» p.layout p.sizes i.op ≡ true) (live : Live (row_of_op p i.result i.op s)) where
  pub gep_walks : (into x from to : ℕ) (r : IsGep (source_of p) (length s.frame.registers) code into x from to i) → Walks p code s old (row_of_op p i.result i.op s) i.result x from to
  gep_walks into x from to r =
      let q : Op = op.Gep r.t r.a r.indices in
      let ok : op_fits p.«module» p.layout p.sizes q ≡ true = subst (λ (z : Op). op_fits p.«module» p.layout p.sizes z ≡ true) r.is fits in
      let parts = and_parts (type_fits p.layout p.sizes r.t) (operand_fits p.«module» p.layout p.sizes r.a && indices_fit p.«module» p.layout p.sizes r.t r.indices) ok in
      let both = and_parts (operand_fits p.«module» p.layout p.sizes r.a) (indices_fit p.«module» p.layout p.sizes r.t r.indices) parts.1 in
      let known = gep_known p i.result r.t r.a r.indices s (subst (λ (z : Op). Live (row_of_op p i.result z s)) r.is live) in
      let pointer = pointer_width p.layout formed in
      let base : Reads old code.constants p.layout.pointer x known.0 = reads p s.frame.registers old code.constants here.covers p.layout.pointer x known.0 r.a (some p.layout.pointer pointer) (most p.layout.pointer pointer) both.0 r.base known.2 in
      let path = walked p formed table code s.frame.registers old here.covers r.t r.indices known.1 r.steps parts.0 both.1 known.3 r.path in
      let far : leads old code.constants p.layout.pointer (slice_range code.steps from to) ≡ path_offset p.layout p.sizes p.«module».types r.t known.1 = ap (leads old code.constants p.layout.pointer) r.range.is ∙ path.1 in
      record {
        base = known.0;
        address = base;
        each = subst (λ (l : List Step). (k : ℕ) (one : Step) → slice_get l k ≡ Some one → IsReadyStep old code.constants one) (sym r.range.is) path.0;
        is = ap (λ (z : Op). row_of_op p i.result z s) r.is ∙ gep_row p i.result r.t r.a r.indices s known.0 known.1 known.2 known.3
            ∙ ap (λ (k : ℕ). computed i.result (Number ((k + path_offset p.layout p.sizes p.«module».types r.t known.1) % 2 ^ p.layout.pointer)) s) (sym base.is)
            ∙ ap (λ (k : ℕ). computed i.result (Number ((value_in old code.constants x + k) % 2 ^ p.layout.pointer)) s) (sym far);
      }

  pub gep_ready : (into x from to : ℕ) (r : IsGep (source_of p) (length s.frame.registers) code into x from to i) → into < length old → IsReadyGep old code.constants code p.layout.pointer into x from to
  gep_ready into x from to r inside =
      let w = gep_walks into x from to r in
      let pointer = pointer_width p.layout formed in
      record {
        some = some p.layout.pointer pointer;
        most = most p.layout.pointer pointer;
        base = w.address.slot;
        ordered = r.range.ordered;
        within = r.range.within;
        each = w.each;
        result = inside;
      }
