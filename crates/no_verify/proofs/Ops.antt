-- An instruction that is formed and typed, with operands that are known and types that fit, is one that a machine does.
use Rattle.std.proofs.Common.{◌≡◌, ℕ, suc, count_ones, ℤ, ◌^◌, Bool, true, false, ◌&&◌, ◌||◌, ◌==◌, nat_lt, nat_le, List, [], ◌∷◌, map, length, slice_get, is_some, if◌then◌else◌, Option, Some, None, refl, sym, ap, subst, ◌∙◌, arith, rules}
use Rattle.std.specs.Int.{is_power_of_two}
use Rattle.std.specs.List.{list_all}
use Rattle.std.proofs.lemmas.Bool.{and_parts, and_from, eqb-true, eq-eqb, lt-ltb}
use Rattle.std.proofs.lemmas.Nat.{ones_le_self}
use Rattle.no_ir.specs.declared.types.Ty.{Ty, out-Ty}
use Rattle.no_ir.specs.declared.types.Ty.TheOpen.{Ty-F}
use Rattle.no_ir.specs.declared.constant.Const.{Const, out-Const, the_lemmas}
use Rattle.no_ir.specs.declared.constant.Const.TheVariants as const
use Rattle.no_ir.specs.declared.constant.Const.TheOpen.{Const-F}
use Rattle.no_ir.specs.declared.constant.Place.{Place}
use Rattle.no_ir.specs.declared.constant.Symbol.{Symbol}
use Rattle.no_ir.specs.declared.constant.Symbol.TheVariants as symbol
use Rattle.no_ir.specs.declared.instruction.CastOp.{CastOp}
use Rattle.no_ir.specs.declared.instruction.CastOp.TheVariants as cast
use Rattle.no_ir.specs.declared.instruction.Operand.{Operand}
use Rattle.no_ir.specs.declared.instruction.Operand.TheVariants as operand
use Rattle.no_ir.specs.declared.instruction.Op.{Op}
use Rattle.no_ir.specs.declared.instruction.Op.TheVariants as op
use Rattle.no_ir.specs.declared.function.Module.{Module}
use Rattle.no_ir.specs.declared.function.Role.{Role}
use Rattle.no_layout.specs.declared.extent.Extent.{Extent}
use Rattle.no_layout.specs.declared.layout.Layout.{Layout}
use Rattle.no_room.specs.Fits.{type_fits}
use Rattle.no_module.specs.Formed.{Within, alignment_formed, count_formed, integer_formed, op_formed, operand_formed}
use Rattle.no_module.specs.Named.{resolved}
use Rattle.no_module.specs.Scalars.{integer, is_result, is_void, scalar_of, scalar_step}
use Rattle.no_module.specs.Scalars as scalars
use Rattle.no_module.specs.Widths.{is_width}
use Rattle.no_module.specs.declared.scalar.Scalar.{Scalar}
use Rattle.no_module.specs.declared.scalar.Scalar.TheVariants as scalar
use Rattle.no_verify_types.specs.Addresses.{constant_field, field_of, indices_lead, inner_lead, part_in, part_of}
use Rattle.no_verify_types.specs.Constants.{value_step}
use Rattle.no_verify_types.specs.Typing.{argument_fits, bare_function, both_fit, callee_fits, converts, count_fits, direct, field_in, goes_between, integer_fits, named_step, number_of, number_step, op_typed, operand_fits, returns, stated_field}
use Rattle.no_verify_structure.specs.Large.{base_fits}
use Rattle.no_module.specs.Instructions.{operands_of, types_of}
use Rattle.no_verify_structure.specs.Parts.{constant_keeps, operand_keeps}
use Rattle.no_verify_structure.specs.Unknown.{place_known}
use Rattle.no_sound.specs.Indices as run
use Rattle.no_sound.specs.Sound as sound
use Rattle.no_sound.specs.Widths.{width_of, width_step}
use Rattle.no_verify.proofs.Lists.{all_both}
use Rattle.no_verify.proofs.Places.{led, operand_ok, place_ok}

none_some : {A : Type 0} (x : A) → None ≡ Some x → ⊥
none_some x e = absurd cc

-- ---- types of values

scalar_is : (s : Ty-F Ty) → is_some (scalar_step s) ≡ true → sound.is_scalar_step s ≡ true
scalar_is (Ty-F.Int w) e = go (is_width w) refl e
  where
    go : (b : Bool) → is_width w ≡ b → is_some (if b then Some (scalar.Int w) else None) ≡ true → is_width w ≡ true
    go true is e = is
    go false is e = absurd cc
scalar_is Ty-F.Ptr e = refl
scalar_is Ty-F.Void e = e
scalar_is (Ty-F.Array count element) e = e
scalar_is (Ty-F.Struct packed fields) e = e
scalar_is (Ty-F.Named k) e = e

-- how many bits a value of a type has
scalar_width : Layout → Scalar → ℕ
scalar_width l (scalar.Int w) = w
scalar_width l scalar.Ptr = l.pointer

width_is : (l : Layout) (x : Ty-F Ty) (s : Scalar) → scalar_step x ≡ Some s → width_step l x ≡ scalar_width l s
unfolding scalar_width
width_is l (Ty-F.Int w) s e = go (is_width w) e
  where
    go : (b : Bool) → (if b then Some (scalar.Int w) else None) ≡ Some s → w ≡ scalar_width l s
    go true e = ap (scalar_width l) (same (scalar.Int w) s e)
      where
        same : (x y : Scalar) → Some x ≡ Some y → x ≡ y
        same x y e = cc
    go false e = absurd (none_some s e)
width_is l Ty-F.Ptr s e = ap (scalar_width l) (same scalar.Ptr s e)
  where
    same : (x y : Scalar) → Some x ≡ Some y → x ≡ y
    same x y e = cc
width_is l Ty-F.Void s e = absurd (none_some s e)
width_is l (Ty-F.Array count element) s e = absurd (none_some s e)
width_is l (Ty-F.Struct packed fields) s e = absurd (none_some s e)
width_is l (Ty-F.Named k) s e = absurd (none_some s e)

-- ---- conversions

converted : (l : Layout) (o : CastOp) (s t : Scalar) → goes_between o s t ≡ true → sound.goes_between o (scalar_width l s) (scalar_width l t) ≡ true
unfolding scalar_width
converted l cast.Trunc (scalar.Int v) (scalar.Int w) e = e
converted l cast.Trunc (scalar.Int v) scalar.Ptr e = absurd cc
converted l cast.Trunc scalar.Ptr t e = absurd cc
converted l cast.ZExt (scalar.Int v) (scalar.Int w) e = e
converted l cast.ZExt (scalar.Int v) scalar.Ptr e = absurd cc
converted l cast.ZExt scalar.Ptr (scalar.Int w) e = absurd cc
converted l cast.ZExt scalar.Ptr scalar.Ptr e = absurd cc
converted l cast.SExt (scalar.Int v) (scalar.Int w) e = e
converted l cast.SExt (scalar.Int v) scalar.Ptr e = absurd cc
converted l cast.SExt scalar.Ptr (scalar.Int w) e = absurd cc
converted l cast.SExt scalar.Ptr scalar.Ptr e = absurd cc
converted l cast.PtrToInt s t e = refl
converted l cast.IntToPtr s t e = refl
converted l cast.BitCast scalar.Ptr scalar.Ptr e = eq-eqb l.pointer l.pointer refl
converted l cast.BitCast scalar.Ptr (scalar.Int w) e = absurd cc
converted l cast.BitCast (scalar.Int v) t e = absurd cc

cast_ok : (l : Layout) (o : CastOp) (t u : Ty) → converts o (scalar_of t) (scalar_of u) ≡ true
    → (sound.is_scalar t ≡ true) × (sound.is_scalar u ≡ true) × (sound.goes_between o (width_of l t) (width_of l u) ≡ true)
cast_ok l o t u e = go (scalar_of t) (scalar_of u) refl refl e
  where
    go : (s r : Option Scalar) → scalar_of t ≡ s → scalar_of u ≡ r → converts o s r ≡ true
        → (sound.is_scalar t ≡ true) × (sound.is_scalar u ≡ true) × (sound.goes_between o (width_of l t) (width_of l u) ≡ true)
    go (Some s) (Some r) is at e = (
      scalar_is (out-Ty t) (ap is_some is),
      scalar_is (out-Ty u) (ap is_some at),
      ap (λ (w : ℕ). sound.goes_between o w (width_of l u)) (width_is l (out-Ty t) s is)
          ∙ ap (sound.goes_between o (scalar_width l s)) (width_is l (out-Ty u) r at)
          ∙ converted l o s r e,
    )
    go (Some s) None is at e = absurd cc
    go None r is at e = absurd cc

-- ---- alignments

pub align_ok : (align : Option ℕ) → alignment_formed align ≡ true → sound.align_fits align ≡ true
align_ok None e = refl
align_ok (Some n) e =
    let one : count_ones n ≡ 1 = eqb-true (count_ones n) 1 (and_parts (is_power_of_two n) (nat_le n 65536) e).0 in
    lt-ltb 0 n (omega (arith, one, ones_le_self n))

-- ---- indices

number_is : (c : Const) → sound.constant_number c ≡ number_step (out-Const c)
number_is (const.Int n) = search (rules, the_lemmas)
number_is _ = search (rules, the_lemmas)

operand_number_is : (a : Operand) → sound.operand_number a ≡ number_of a
operand_number_is (operand.Reg r) = refl
operand_number_is (operand.Const c) = number_is c

field_same : (fields : List Ty) (o : Option ℕ) (u : Ty) → field_of fields (field_in o) ≡ Some u → sound.field_of fields o ≡ Some u
field_same fields None u e = absurd (none_some u e)
field_same fields (Some n) u e = go (nat_lt n (2 ^ 31)) e
  where
    go : (b : Bool) → field_of fields (if b then Some n else None) ≡ Some u → (if b then slice_get fields n else None) ≡ Some u
    go true e = e
    go false e = absurd (none_some u e)

stated_same : (fields : List Ty) (index : ℕ × Operand) (u : Ty) → field_of fields (stated_field index) ≡ Some u → sound.field_of fields (sound.field_number index) ≡ Some u
stated_same fields index u e = go (index.0 == 32) e
  where
    go : (b : Bool) → field_of fields (if b then field_in (number_of index.1) else None) ≡ Some u → sound.field_of fields (if b then sound.operand_number index.1 else None) ≡ Some u
    go true e = ap (sound.field_of fields) (operand_number_is index.1) ∙ field_same fields (number_of index.1) u e
    go false e = absurd (none_some u e)

part_known : (s : Ty-F Ty) (index : ℕ × Operand) (u : Ty) → part_in s (stated_field index) ≡ Some u → sound.known_part s index ≡ Some u
part_known (Ty-F.Array count element) index u e = e
part_known (Ty-F.Struct packed fields) index u e = stated_same fields index u e
part_known Ty-F.Void index u e = absurd (none_some u e)
part_known (Ty-F.Int w) index u e = absurd (none_some u e)
part_known Ty-F.Ptr index u e = absurd (none_some u e)
part_known (Ty-F.Named k) index u e = absurd (none_some u e)

module _ (m : Module) (l : Layout) (sizes : List Extent) where
  inner_ok : (t : Ty) (indices : List (ℕ × Operand)) → list_all (sound.index_fits m l sizes) indices ≡ true → inner_lead m.types t (map stated_field indices) ≡ true
      → sound.inner_fit m l sizes t indices ≡ true
  inner_ok t [] all e = refl
  inner_ok t (index ∷ others) all e =
      let parts = and_parts (sound.index_fits m l sizes index) (list_all (sound.index_fits m l sizes) others) all in
      let on = led (part_of (resolved m.types t) (stated_field index)) (λ u. inner_lead m.types u (map stated_field others)) e in
      and_from _ _ parts.0
      (ap (λ (o : Option Ty). run.told_of false o (λ u. sound.inner_fit m l sizes u others)) (part_known (out-Ty (resolved m.types t)) index on.0 on.1)
      ∙ inner_ok on.0 others parts.1 on.2)

  indices_ok : (t : Ty) (indices : List (ℕ × Operand)) → list_all (sound.index_fits m l sizes) indices ≡ true → indices_lead m.types t (map stated_field indices) ≡ true
      → sound.indices_fit m l sizes t indices ≡ true
  indices_ok t [] all e = refl
  indices_ok t (index ∷ others) all e =
      let parts = and_parts (sound.index_fits m l sizes index) (list_all (sound.index_fits m l sizes) others) all in
      and_from _ _ parts.0 (inner_ok t others parts.1 e)

-- ---- a callee by its name

bare_leads : (types : List (List ℕ × Ty)) (t : Ty) (s : Symbol) (zs : List ℤ) (k : ℕ) → bare_function s (length zs) ≡ Some k → indices_lead types t (map constant_field zs) ≡ true
bare_leads types t s [] k e = refl
bare_leads types t (symbol.Function j) (z ∷ zs) k e = go (length (z ∷ zs) == 0) refl e
  where
    go : (b : Bool) → (length (z ∷ zs) == 0) ≡ b → (if b then Some j else None) ≡ Some k → indices_lead types t (map constant_field (z ∷ zs)) ≡ true
    go true is e = let none : suc (length zs) ≡ 0 = eqb-true (length (z ∷ zs)) 0 is in absurd (omega (arith, none))
    go false is e = absurd (none_some k e)
bare_leads types t (symbol.Global j) (z ∷ zs) k e = absurd (none_some k e)
bare_leads types t (symbol.Unknown name) (z ∷ zs) k e = absurd (none_some k e)

-- ---- instructions

no_type : (m : Module) (role : Role) (y : Const-F Const) → value_step m role None y ≡ true → ⊥
no_type m role Const-F.Zero e = absurd cc
no_type m role (Const-F.Int n) e = absurd cc
no_type m role (Const-F.Str text) e = absurd cc
no_type m role (Const-F.Array elements) e = absurd cc
no_type m role (Const-F.Struct fields) e = absurd cc
no_type m role (Const-F.Address place) e = absurd cc
no_type m role (Const-F.AddressAsInt place) e = absurd cc
no_type m role (Const-F.IntAsPtr n) e = absurd cc

module _ (m : Module) (l : Layout) (sizes : List Extent) (width : (l.pointer == 32 || l.pointer == 64) ≡ true)
    (role : Role) (f : Within) (result : Ty) (types : List (Option Scalar)) (registers : ℕ → Bool) where
  some_type : (s : Option Scalar) (a : Operand) → operand_fits m role types s a ≡ true → is_some s ≡ true
  some_type (Some s) a e = refl
  some_type None (operand.Reg r) e = absurd cc
  some_type None (operand.Const c) e = absurd (no_type m role (out-Const c) e)

  plain : (t : Ty) (a : Operand) → operand_fits m role types (scalar_of t) a ≡ true → sound.is_scalar t ≡ true
  plain t a e = scalar_is (out-Ty t) (some_type (scalar_of t) a e)

  -- its addresses are known, and step through types that fit
  abbrev Kept : Operand → Type 0
  Kept a = (operand_keeps registers (place_known m) a ≡ true) × (operand_keeps (λ r. true) (base_fits l sizes) a ≡ true)

  ok : (s : Option Scalar) (a : Operand) → Kept a → operand_fits m role types s a ≡ true → sound.operand_fits m l sizes a ≡ true
  ok s a h e = operand_ok m l sizes width role types registers s a h.0 h.1 e

  -- the operands of an instruction
  abbrev AreKept : List Operand → Type 0
  AreKept others = (list_all (operand_keeps registers (place_known m)) others ≡ true) × (list_all (operand_keeps (λ r. true) (base_fits l sizes)) others ≡ true)

  first : (a : Operand) (others : List Operand) → AreKept (a ∷ others) → Kept a
  first a others h = ((and_parts _ (list_all (operand_keeps registers (place_known m)) others) h.0).0, (and_parts _ (list_all (operand_keeps (λ r. true) (base_fits l sizes)) others) h.1).0)

  more : (a : Operand) (others : List Operand) → AreKept (a ∷ others) → AreKept others
  more a others h = (
    (and_parts (operand_keeps registers (place_known m) a) (list_all (operand_keeps registers (place_known m)) others) h.0).1,
    (and_parts (operand_keeps (λ r. true) (base_fits l sizes) a) (list_all (operand_keeps (λ r. true) (base_fits l sizes)) others) h.1).1,
  )

  -- operands that stand in other things
  each_ok : {X : Type 0} (at : X → Operand) (type_at : X → Option Scalar) (test : X → Bool) (xs : List X) → AreKept (map at xs)
      → ((x : X) → test x ≡ true → operand_fits m role types (type_at x) (at x) ≡ true) → list_all test xs ≡ true
      → (goal : X → Bool) → ((x : X) → test x ≡ true → sound.operand_fits m l sizes (at x) ≡ true → goal x ≡ true) → list_all goal xs ≡ true
  each_ok at type_at test [] h typed e goal step = refl
  each_ok at type_at test (x ∷ xs) h typed e goal step =
      let parts = and_parts (test x) (list_all test xs) e in
      and_from _ _ (step x parts.0 (ok (type_at x) (at x) (first (at x) (map at xs) h) (typed x parts.0)))
      (each_ok at type_at test xs (more (at x) (map at xs) h) typed parts.1 goal step)

  two : (s : Option Scalar) (a b : Operand) (rest : List Operand) → AreKept (a ∷ b ∷ rest) → both_fit m role types s a b ≡ true
      → (sound.operand_fits m l sizes a && sound.operand_fits m l sizes b) ≡ true
  two s a b rest h e =
      let parts = and_parts (operand_fits m role types s a) (operand_fits m role types s b) e in
      and_from _ _ (ok s a (first a (b ∷ rest) h) parts.0) (ok s b (first b rest (more a (b ∷ rest) h)) parts.1)

  count_ok : (count : Option (ℕ × Operand)) → count_formed f count ≡ true → count_fits m role types count ≡ true → ((c : ℕ × Operand) → count ≡ Some c → Kept c.1)
      → sound.count_fits m l sizes count ≡ true
  count_ok None formed typed h = refl
  count_ok (Some c) formed typed h =
      and_from _ _ (and_parts (is_width c.0) (operand_formed f _ c.1) formed).0 (ok (integer c.0) c.1 (h c refl) typed)

  argument_ok : (x : Ty × Operand) → argument_fits m role types x ≡ true → sound.operand_fits m l sizes x.1 ≡ true → sound.arg_fits m l sizes x ≡ true
  argument_ok x typed e = and_from _ _ (plain x.0 x.1 typed) e

  returned_ok : (x : Option (Ty × Operand)) → returns m role types result x ≡ true → ((v : Ty × Operand) → x ≡ Some v → Kept v.1) → sound.op_fits m l sizes (op.Ret x) ≡ true
  returned_ok None e h = refl
  returned_ok (Some x) e h =
      let typed = (and_parts _ (argument_fits m role types x) e).1 in
      argument_ok x typed (ok (scalar_of x.0) x.1 (h x refl) typed)

  -- ---- calls

  bare_ok : (c : Const) (k : ℕ) → named_step (out-Const c) ≡ Some k → Kept (operand.Const c) → sound.operand_fits m l sizes (operand.Const c) ≡ true
  bare_ok (const.Address place) k e h =
      let is : out-Const (const.Address place) ≡ Const-F.Address place = search (rules, the_lemmas) in
      let at : (g : Place → Bool) → constant_keeps g (const.Address place) ≡ g place = λ g. search (rules, the_lemmas) in
      place_ok m l sizes width place (sym (at (place_known m)) ∙ h.0) (sym (at (base_fits l sizes)) ∙ h.1)
      (bare_leads m.types place.base place.symbol place.indices k (sym (ap (λ (y : Const-F Const). named_step y) is) ∙ e))
  bare_ok (const.AddressAsInt place) k e h =
      let is : out-Const (const.AddressAsInt place) ≡ Const-F.AddressAsInt place = search (rules, the_lemmas) in
      absurd (none_some k (sym (ap (λ (y : Const-F Const). named_step y) is) ∙ e))
  bare_ok _ k e h = refl

  callee_ok : (t : Ty) (args : List (Ty × Operand)) (callee : Operand) → callee_fits m role types t callee args (direct callee) ≡ true → Kept callee
      → sound.operand_fits m l sizes callee ≡ true
  callee_ok t args (operand.Reg r) e h = refl
  callee_ok t args (operand.Const c) e h = go (direct (operand.Const c)) refl e
    where
      go : (o : Option ℕ) → direct (operand.Const c) ≡ o → callee_fits m role types t (operand.Const c) args o ≡ true → sound.operand_fits m l sizes (operand.Const c) ≡ true
      go None is typed = ok (Some scalar.Ptr) (operand.Const c) h typed
      go (Some k) is typed = bare_ok c k is h

  -- ---- all of them

  module _ (o : Op) where
    abbrev Fine : Type 0
    Fine = op_formed f o ≡ true → op_typed m role result types o ≡ true → AreKept (operands_of o) → list_all (type_fits l sizes) (types_of o) ≡ true → sound.op_fits m l sizes o ≡ true

  pub op_ok : (o : Op) → Fine o
  unfolding op_typed
  op_ok (op.Binary o w a b) formed typed kept fit = and_from _ _ (and_parts (is_width w) _ formed).0 (two (integer w) a b [] kept typed)
  op_ok (op.Compare p t a b) formed typed kept fit =
      and_from _ _ (plain t a (and_parts (operand_fits m role types (scalar_of t) a) _ typed).0) (two (scalar_of t) a b [] kept typed)
  op_ok (op.Cast o t a u) formed typed kept fit =
      let parts = and_parts (converts o (scalar_of t) (scalar_of u)) (operand_fits m role types (scalar_of t) a) typed in
      let goes = cast_ok l o t u parts.0 in
      and_from _ _ (and_from _ _ goes.0 goes.1) (and_from _ _ goes.2 (ok (scalar_of t) a (first a [] kept) parts.1))
  op_ok (op.Freeze t a) formed typed kept fit = and_from _ _ (plain t a typed) (ok (scalar_of t) a (first a [] kept) typed)
  op_ok (op.Select c t a b) formed typed kept fit =
      let parts = and_parts (operand_fits m role types (integer 1) c) (both_fit m role types (scalar_of t) a b) typed in
      and_from _ _ (and_from _ _ (plain t a (and_parts (operand_fits m role types (scalar_of t) a) _ parts.1).0) (ok (integer 1) c (first c (a ∷ b ∷ []) kept) parts.0))
      (two (scalar_of t) a b [] (more c (a ∷ b ∷ []) kept) parts.1)
  op_ok (op.Phi t pairs) formed typed kept fit =
      let parts = and_parts (scalars.is_scalar t) _ typed in
      and_from _ _ (scalar_is (out-Ty t) parts.0)
      (each_ok (λ (pair : Operand × ℕ). pair.0) (λ pair. scalar_of t) (λ (pair : Operand × ℕ). operand_fits m role types (scalar_of t) pair.0) pairs kept (λ pair e. e) parts.1
      (sound.pair_fits m l sizes) (λ pair e fits. fits))
  op_ok (op.Alloca t count align) formed typed kept fit =
      let parts = and_parts (count_formed f count) (alignment_formed align) (and_parts _ (count_formed f count && alignment_formed align) formed).1 in
      and_from _ _ (and_parts (type_fits l sizes t) true fit).0 (and_from _ _ (count_ok count parts.0 typed (counted count kept)) (align_ok align parts.1))
    where
      counted : (count : Option (ℕ × Operand)) → AreKept (operands_of (op.Alloca t count align)) → (c : ℕ × Operand) → count ≡ Some c → Kept c.1
      counted None kept c e = absurd (none_some c e)
      counted (Some d) kept c e = subst (λ (x : ℕ × Operand). Kept x.1) (same d c e) (first d.1 [] kept)
        where
          same : (x y : ℕ × Operand) → Some x ≡ Some y → x ≡ y
          same x y e = cc
  op_ok (op.Load volatile t a) formed typed kept fit =
      let parts = and_parts (scalars.is_scalar t) _ typed in
      and_from _ _ (scalar_is (out-Ty t) parts.0) (ok (Some scalar.Ptr) a (first a [] kept) parts.1)
  op_ok (op.Store volatile t v a) formed typed kept fit =
      let parts = and_parts (operand_fits m role types (scalar_of t) v) (operand_fits m role types (Some scalar.Ptr) a) typed in
      and_from _ _ (plain t v parts.0)
      (and_from _ _ (ok (scalar_of t) v (first v (a ∷ []) kept) parts.0) (ok (Some scalar.Ptr) a (first a [] (more v (a ∷ []) kept)) parts.1))
  op_ok (op.Gep t a indices) formed typed kept fit =
      let parts = and_parts (operand_fits m role types (Some scalar.Ptr) a) _ typed in
      let lead = and_parts (list_all (integer_fits m role types) indices) _ parts.1 in
      let form = (and_parts (operand_formed f _ a) (list_all (integer_formed f) indices) (and_parts _ (operand_formed f _ a && list_all (integer_formed f) indices) formed).1).1 in
      let all = each_ok (λ (index : ℕ × Operand). index.1) (λ index. integer index.0) (λ (index : ℕ × Operand). integer_formed f index && integer_fits m role types index) indices
      (more a (map (λ (index : ℕ × Operand). index.1) indices) kept) (λ index e. (and_parts (integer_formed f index) (integer_fits m role types index) e).1)
      (all_both (integer_formed f) (integer_fits m role types) indices form lead.0)
      (sound.index_fits m l sizes)
      (λ index e fits. and_from _ _ (and_parts (is_width index.0) (operand_formed f _ index.1) (and_parts (integer_formed f index) (integer_fits m role types index) e).0).0 fits) in
      and_from _ _ (and_parts (type_fits l sizes t) true fit).0
      (and_from _ _ (ok (Some scalar.Ptr) a (first a (map (λ (index : ℕ × Operand). index.1) indices) kept) parts.0) (indices_ok m l sizes t indices all lead.1))
  op_ok (op.Call t callee args) formed typed kept fit =
      let parts = and_parts (list_all (argument_fits m role types) args) (callee_fits m role types t callee args (direct callee)) (and_parts (is_result t) _ typed).1 in
      and_from _ _ (callee_ok t args callee parts.1 (first callee (map (λ (x : Ty × Operand). x.1) args) kept))
      (each_ok (λ (x : Ty × Operand). x.1) (λ x. scalar_of x.0) (argument_fits m role types) args (more callee (map (λ (x : Ty × Operand). x.1) args) kept) (λ x e. e) parts.0
      (sound.arg_fits m l sizes) argument_ok)
  op_ok (op.Br k) formed typed kept fit = refl
  op_ok (op.CondBr c k j) formed typed kept fit = ok (integer 1) c (first c [] kept) typed
  op_ok (op.Switch w a k cases) formed typed kept fit =
      and_from _ _ (and_parts (is_width w) _ formed).0 (ok (integer w) a (first a [] kept) (and_parts (operand_fits m role types (integer w) a) _ typed).0)
  op_ok (op.Ret x) formed typed kept fit = returned_ok x typed (value_of x kept)
    where
      value_of : (x : Option (Ty × Operand)) → AreKept (operands_of (op.Ret x)) → (v : Ty × Operand) → x ≡ Some v → Kept v.1
      value_of None kept v e = absurd (none_some v e)
      value_of (Some y) kept v e = subst (λ (z : Ty × Operand). Kept z.1) (same y v e) (first y.1 [] kept)
        where
          same : (x y : Ty × Operand) → Some x ≡ Some y → x ≡ y
          same x y e = cc
  op_ok op.Unreachable formed typed kept fit = refl
