-- Addresses that are typed, known and not too large lead somewhere in a program, and so do operands.
use Rattle.std.proofs.Common.{◌≡◌, ℕ, ℤ, pos, negsuc, int_lt, ◌%◌, ◌^◌, ◌<◌, inl, inr, Bool, true, false, ◌||◌, ◌==◌, nat_lt, List, [], ◌∷◌, map, slice_get, if◌then◌else◌, Option, Some, None, refl, sym, ap, subst, ◌∙◌, arith, rules}
use Rattle.std.proofs.lemmas.Bool.{and_parts, and_from, or_cases, eqb-true, ltb-true}
use Rattle.no_ir.specs.declared.types.Ty.{Ty, out-Ty}
use Rattle.no_ir.specs.declared.types.Ty.TheOpen.{Ty-F}
use Rattle.no_ir.specs.declared.constant.Const.{Const, out-Const, the_lemmas}
use Rattle.no_ir.specs.declared.constant.Const.TheVariants as const
use Rattle.no_ir.specs.declared.constant.Const.TheOpen.{Const-F}
use Rattle.no_ir.specs.declared.constant.Place.{Place}
use Rattle.no_ir.specs.declared.constant.Symbol.{Symbol}
use Rattle.no_ir.specs.declared.constant.Symbol.TheVariants as symbol
use Rattle.no_ir.specs.declared.instruction.Operand.{Operand}
use Rattle.no_ir.specs.declared.instruction.Operand.TheVariants as operand
use Rattle.no_ir.specs.declared.function.Module.{Module}
use Rattle.no_ir.specs.declared.function.Role.{Role}
use Rattle.no_eval.specs.Numbers.{modulo}
use Rattle.no_layout.specs.declared.extent.Extent.{Extent}
use Rattle.no_layout.specs.declared.layout.Layout.{Layout}
use Rattle.no_module.specs.Named.{resolved}
use Rattle.no_module.specs.declared.scalar.Scalar.{Scalar}
use Rattle.no_verify_types.specs.Addresses.{constant_field, field_below, field_of, has_address, indices_lead, inner_lead, leads_on, part_in, part_of, place_fits}
use Rattle.no_verify_types.specs.Constants.{value_fits, value_step}
use Rattle.no_verify_structure.specs.Large.{base_fits}
use Rattle.no_verify_structure.specs.Parts.{constant_keeps, operand_keeps}
use Rattle.no_verify_structure.specs.Unknown.{place_known, symbol_known}
use Rattle.no_verify_types.specs.Typing.{operand_fits}
use Rattle.no_sound.specs.Indices as run
use Rattle.no_sound.specs.Sound as sound

-- ---- where indices lead

none_some : {A : Type 0} (x : A) → None ≡ Some x → ⊥
none_some x e = absurd cc

same_number : (i n : ℕ) → Some i ≡ Some n → i ≡ n
same_number i n e = cc

-- an index that leads on
pub led : (o : Option Ty) (f : Ty → Bool) → leads_on o f ≡ true → (u : Ty) × (o ≡ Some u) × (f u ≡ true)
led None f e = absurd cc
led (Some u) f e = (u, refl, e)

module _ (p : ℕ) (width : (p == 32 || p == 64) ≡ true) where
  low_number : (n : ℕ) → n < 2 ^ 31 → n % 2 ^ p ≡ n
  low_number n lt = elim (or_cases (p == 32) (p == 64) width) [
    | inl is ↦ rw (eqb-true p 32 is) (omega arith)
    | inr is ↦ rw (eqb-true p 64 is) (omega arith)
  ]

  below_is : (n i : ℕ) → field_below n ≡ Some i → (nat_lt n (2 ^ 31) ≡ true) × (n ≡ i)
  below_is n i e = go (nat_lt n (2 ^ 31)) refl e
    where
      go : (b : Bool) → nat_lt n (2 ^ 31) ≡ b → (if b then Some n else None) ≡ Some i → (nat_lt n (2 ^ 31) ≡ true) × (n ≡ i)
      go true is e = (is, same_number n i e)
      go false is e = absurd (none_some i e)

  -- the number of a field, as an index of the pointer's width
  field_is : (z : ℤ) (i : ℕ) → constant_field z ≡ Some i → (nat_lt i (2 ^ 31) ≡ true) × (modulo p z ≡ i)
  field_is (negsuc n) i e = absurd (none_some i e)
  field_is (pos n) i e =
      let low = below_is n i (not_less (int_lt (pos n) (pos 0)) e) in
      (subst (λ (k : ℕ). nat_lt k (2 ^ 31) ≡ true) low.1 low.0, low_number n (ltb-true n (2 ^ 31) low.0) ∙ low.1)
    where
      not_less : (b : Bool) → (if b then None else field_below n) ≡ Some i → field_below n ≡ Some i
      not_less true e = absurd (none_some i e)
      not_less false e = e

  part_is : (s : Ty-F Ty) (z : ℤ) (u : Ty) → part_in s (constant_field z) ≡ Some u → run.part_in s (modulo p z) ≡ Some u
  part_is (Ty-F.Array count element) z u e = e
  part_is (Ty-F.Struct packed fields) z u e = go (constant_field z) refl e
    where
      go : (o : Option ℕ) → constant_field z ≡ o → field_of fields o ≡ Some u → (if nat_lt (modulo p z) (2 ^ 31) then slice_get fields (modulo p z) else None) ≡ Some u
      go None is e = absurd (none_some u e)
      go (Some i) is e = let low = field_is z i is in rw (low.1, low.0) e
  part_is Ty-F.Void z u e = absurd (none_some u e)
  part_is (Ty-F.Int w) z u e = absurd (none_some u e)
  part_is Ty-F.Ptr z u e = absurd (none_some u e)
  part_is (Ty-F.Named k) z u e = absurd (none_some u e)

  module _ (types : List (List ℕ × Ty)) where
    inner : (t : Ty) (zs : List ℤ) → inner_lead types t (map constant_field zs) ≡ true → run.inner_leads types t (map (modulo p) zs) ≡ true
    inner t [] e = refl
    inner t (z ∷ zs) e =
        let on = led (part_of (resolved types t) (constant_field z)) (λ u. inner_lead types u (map constant_field zs)) e in
        ap (λ (o : Option Ty). run.told_of false o (λ u. run.inner_leads types u (map (modulo p) zs))) (part_is (out-Ty (resolved types t)) z on.0 on.1)
        ∙ inner on.0 zs on.2

    leads : (t : Ty) (zs : List ℤ) → indices_lead types t (map constant_field zs) ≡ true → run.path_leads types t (map (modulo p) zs) ≡ true
    leads t [] e = refl
    leads t (z ∷ zs) e = inner t zs e

symbol_is : (m : Module) (s : Symbol) → symbol_known m s ≡ true → sound.symbol_fits m s ≡ true
symbol_is m (symbol.Global k) e = e
symbol_is m (symbol.Function k) e = e
symbol_is m (symbol.Unknown name) e = e

-- ---- addresses and operands of a module that was accepted

module _ (m : Module) (l : Layout) (sizes : List Extent) (width : (l.pointer == 32 || l.pointer == 64) ≡ true) where
  pub place_ok : (place : Place) → place_known m place ≡ true → base_fits l sizes place ≡ true → indices_lead m.types place.base (map constant_field place.indices) ≡ true
      → sound.place_fits m l sizes place ≡ true
  place_ok place known base lead =
      and_from _ _ (symbol_is m place.symbol known) (and_from _ _ base (leads l.pointer width m.types place.base place.indices lead))

  pub typed_place : (role : Role) (place : Place) → place_known m place ≡ true → base_fits l sizes place ≡ true → place_fits m role place ≡ true
      → sound.place_fits m l sizes place ≡ true
  typed_place role place known base typed = place_ok place known base (and_parts (has_address m role place.symbol) _ typed).1

  constant_ok : (role : Role) (s : Option Scalar) (c : Const) → constant_keeps (place_known m) c ≡ true → constant_keeps (base_fits l sizes) c ≡ true → value_fits m role s c ≡ true
      → sound.constant_fits m l sizes c ≡ true
  constant_ok role s (const.Address place) known base typed =
      let is : out-Const (const.Address place) ≡ Const-F.Address place = search (rules, the_lemmas) in
      let at : (f : Place → Bool) → constant_keeps f (const.Address place) ≡ f place = λ f. search (rules, the_lemmas) in
      typed_place role place (sym (at (place_known m)) ∙ known) (sym (at (base_fits l sizes)) ∙ base)
      (and_parts _ (place_fits m role place) (sym (ap (λ (y : Const-F Const). value_step m role s y) is) ∙ typed)).1
  constant_ok role s (const.AddressAsInt place) known base typed =
      let is : out-Const (const.AddressAsInt place) ≡ Const-F.AddressAsInt place = search (rules, the_lemmas) in
      let at : (f : Place → Bool) → constant_keeps f (const.AddressAsInt place) ≡ f place = λ f. search (rules, the_lemmas) in
      typed_place role place (sym (at (place_known m)) ∙ known) (sym (at (base_fits l sizes)) ∙ base)
      (and_parts _ (place_fits m role place) (sym (ap (λ (y : Const-F Const). value_step m role s y) is) ∙ typed)).1
  constant_ok role s _ known base typed = refl

  pub operand_ok : (role : Role) (types : List (Option Scalar)) (registers : ℕ → Bool) (s : Option Scalar) (a : Operand)
      → operand_keeps registers (place_known m) a ≡ true → operand_keeps (λ r. true) (base_fits l sizes) a ≡ true → operand_fits m role types s a ≡ true
      → sound.operand_fits m l sizes a ≡ true
  operand_ok role types registers s (operand.Reg r) known base typed = refl
  operand_ok role types registers s (operand.Const c) known base typed = constant_ok role s c known base typed
