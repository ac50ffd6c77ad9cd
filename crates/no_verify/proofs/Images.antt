-- A first value that is typed, with addresses that are known and types that fit, is one of which the bytes can be made.
use Rattle.std.proofs.Common.{◌≡◌, ℕ, Bool, true, false, ◌||◌, ◌==◌, List, [], ◌∷◌, map, length, if◌then◌else◌, Option, Some, None, refl, sym, ap, subst, ◌∙◌}
use Rattle.std.specs.List.{list_all}
use Rattle.std.proofs.lemmas.Bool.{and_parts, and_from, eqb-true, eq-eqb}
use Rattle.std.proofs.lemmas.List.{length-map}
use Rattle.no_ir.specs.declared.types.Ty.{Ty, out-Ty}
use Rattle.no_ir.specs.declared.types.Ty.TheOpen.{Ty-F}
use Rattle.no_ir.specs.declared.constant.Const.{Const, roll-Const}
use Rattle.no_ir.specs.declared.constant.Const.TheOpen.{Const-F}
use Rattle.no_ir.specs.declared.constant.Const.TheFolds.{fold-roll-Const, ind-Const, map-Const}
use Rattle.no_ir.specs.declared.constant.Place.{Place}
use Rattle.no_ir.specs.declared.function.Module.{Module}
use Rattle.no_ir.specs.declared.function.Role.{Role}
use Rattle.no_layout.specs.declared.extent.Extent.{Extent}
use Rattle.no_layout.specs.declared.layout.Layout.{Layout}
use Rattle.no_module.specs.Named.{resolved, resolved_step}
use Rattle.no_module.specs.Scalars.{each_meets, is_of, scalar_of, scalar_step}
use Rattle.no_module.specs.Widths.{is_width}
use Rattle.no_module.specs.declared.scalar.Scalar.{Scalar}
use Rattle.no_module.specs.declared.scalar.Scalar.TheVariants as scalar
use Rattle.no_verify_types.specs.Addresses.{place_fits}
use Rattle.no_verify_types.specs.Constants as typing
use Rattle.no_verify_structure.specs.Large.{base_fits}
use Rattle.no_verify_structure.specs.Parts as parts
use Rattle.no_verify_structure.specs.Unknown.{place_known}
use Rattle.no_sound.specs.Image as image
use Rattle.no_verify.proofs.Places.{typed_place}

-- ---- integer types and ptr

int_is : (s : Ty-F Ty) → typing.integer_type (scalar_step s) ≡ true → image.int_step s ≡ true
int_is (Ty-F.Int w) e = go (is_width w) refl e
  where
    go : (b : Bool) → is_width w ≡ b → typing.integer_type (if b then Some (scalar.Int w) else None) ≡ true → is_width w ≡ true
    go true is e = is
    go false is e = absurd cc
int_is Ty-F.Ptr e = absurd cc
int_is Ty-F.Void e = absurd cc
int_is (Ty-F.Array count element) e = absurd cc
int_is (Ty-F.Struct packed fields) e = absurd cc
int_is (Ty-F.Named k) e = absurd cc

number_typed : (n : ℕ) (o : Option Scalar) → typing.number_fits n o ≡ true → typing.integer_type o ≡ true
number_typed n None e = absurd cc
number_typed n (Some (scalar.Int w)) e = refl
number_typed n (Some scalar.Ptr) e = absurd cc

pointer_is : (s : Ty-F Ty) → is_of scalar.Ptr (scalar_step s) ≡ true → image.pointer_step s ≡ true
pointer_is (Ty-F.Int w) e = go (is_width w) e
  where
    go : (b : Bool) → is_of scalar.Ptr (if b then Some (scalar.Int w) else None) ≡ true → false ≡ true
    go true e = e
    go false e = e
pointer_is Ty-F.Ptr e = refl
pointer_is Ty-F.Void e = absurd cc
pointer_is (Ty-F.Array count element) e = absurd cc
pointer_is (Ty-F.Struct packed fields) e = absurd cc
pointer_is (Ty-F.Named k) e = absurd cc

module _ (m : Module) (l : Layout) (sizes : List Extent) (width : (l.pointer == 32 || l.pointer == 64) ≡ true) (role : Role) where
  abbrev Begins : Const → Type 0
  Begins c = (t : Ty) → parts.constant_keeps (place_known m) c ≡ true → parts.constant_keeps (base_fits l sizes) c ≡ true → typing.constant_fits m role c t ≡ true
      → image.init_fits m l sizes c t ≡ true

  -- ---- what is of an array: a named type stands for no text and no list of elements

  text_is : (t : Ty) (s : Ty-F Ty) (text : List ℕ) → out-Ty t ≡ s → typing.text_fits (length text) s ≡ true → image.text_fits (out-Ty (resolved_step m.types t s)) text ≡ true
  text_is t (Ty-F.Array count element) text shape e =
      let is = and_parts (length text == count) (typing.byte_step (out-Ty element)) e in
      ap (λ (s : Ty-F Ty). image.text_fits s text) shape ∙ and_from _ _ (byte_is (out-Ty element) is.1) (eq-eqb count (length text) (sym (eqb-true (length text) count is.0)))
    where
      byte_is : (s : Ty-F Ty) → typing.byte_step s ≡ true → image.byte_step s ≡ true
      byte_is (Ty-F.Int w) e = e
      byte_is Ty-F.Void e = e
      byte_is Ty-F.Ptr e = e
      byte_is (Ty-F.Array count element) e = e
      byte_is (Ty-F.Struct packed fields) e = e
      byte_is (Ty-F.Named k) e = e
  text_is t Ty-F.Void text shape e = absurd cc
  text_is t (Ty-F.Int w) text shape e = absurd cc
  text_is t Ty-F.Ptr text shape e = absurd cc
  text_is t (Ty-F.Struct packed fields) text shape e = absurd cc
  text_is t (Ty-F.Named k) text shape e = absurd cc

  module _ (S : Type 0) (v : S → Const) (h : (d : S) → Begins (v d)) where
    abbrev kept : (Place → Bool) → List S → List Bool
    kept f ds = map (parts.constant_keeps f) (map v ds)

    elements_is : (ds : List S) (t : Ty) → list_all (λ b. b) (kept (place_known m) ds) ≡ true → list_all (λ b. b) (kept (base_fits l sizes) ds) ≡ true
        → list_all (λ (fits : Ty → Bool). fits t) (map (typing.constant_fits m role) (map v ds)) ≡ true
        → list_all (λ (fits : Ty → Bool). fits t) (map (image.init_fits m l sizes) (map v ds)) ≡ true
    elements_is [] t known base e = refl
    elements_is (d ∷ ds) t known base e =
        let k = and_parts (parts.constant_keeps (place_known m) (v d)) _ known in
        let b = and_parts (parts.constant_keeps (base_fits l sizes) (v d)) _ base in
        let here = and_parts (typing.constant_fits m role (v d) t) _ e in
        and_from _ _ (h d t k.0 b.0 here.0) (elements_is ds t k.1 b.1 here.1)

    fields_is : (ds : List S) (ts : List Ty) → list_all (λ b. b) (kept (place_known m) ds) ≡ true → list_all (λ b. b) (kept (base_fits l sizes) ds) ≡ true
        → each_meets (map (typing.constant_fits m role) (map v ds)) ts ≡ true → image.each_fits ts (map (image.init_fits m l sizes) (map v ds)) ≡ true
    fields_is [] [] known base e = refl
    fields_is [] (t ∷ ts) known base e = absurd cc
    fields_is (d ∷ ds) [] known base e = absurd cc
    fields_is (d ∷ ds) (t ∷ ts) known base e =
        let k = and_parts (parts.constant_keeps (place_known m) (v d)) _ known in
        let b = and_parts (parts.constant_keeps (base_fits l sizes) (v d)) _ base in
        let here = and_parts (typing.constant_fits m role (v d) t) _ e in
        and_from _ _ (h d t k.0 b.0 here.0) (fields_is ds ts k.1 b.1 here.1)

    array_is : (ds : List S) (t : Ty) (s : Ty-F Ty) → out-Ty t ≡ s → list_all (λ b. b) (kept (place_known m) ds) ≡ true → list_all (λ b. b) (kept (base_fits l sizes) ds) ≡ true
        → typing.elements_fit (map (typing.constant_fits m role) (map v ds)) s ≡ true
        → image.elements_fit (out-Ty (resolved_step m.types t s)) (map (image.init_fits m l sizes) (map v ds)) ≡ true
    array_is ds t (Ty-F.Array count element) shape known base e =
        let is = and_parts (length (map (typing.constant_fits m role) (map v ds)) == count) _ e in
        let some : length (map (typing.constant_fits m role) (map v ds)) ≡ count = eqb-true _ count is.0 in
        let many : count ≡ length (map (image.init_fits m l sizes) (map v ds)) =
        sym some ∙ length-map (map v ds) (typing.constant_fits m role) ∙ sym (length-map (map v ds) (image.init_fits m l sizes)) in
        ap (λ (s : Ty-F Ty). image.elements_fit s (map (image.init_fits m l sizes) (map v ds))) shape
        ∙ and_from _ _ (eq-eqb count _ many) (elements_is ds element known base is.1)
    array_is ds t Ty-F.Void shape known base e = absurd cc
    array_is ds t (Ty-F.Int w) shape known base e = absurd cc
    array_is ds t Ty-F.Ptr shape known base e = absurd cc
    array_is ds t (Ty-F.Struct packed fields) shape known base e = absurd cc
    array_is ds t (Ty-F.Named k) shape known base e = absurd cc

    struct_is : (ds : List S) (s : Ty-F Ty) → list_all (λ b. b) (kept (place_known m) ds) ≡ true → list_all (λ b. b) (kept (base_fits l sizes) ds) ≡ true
        → typing.fields_fit (map (typing.constant_fits m role) (map v ds)) s ≡ true → image.fields_fit s (map (image.init_fits m l sizes) (map v ds)) ≡ true
    struct_is ds (Ty-F.Struct packed ts) known base e = fields_is ds ts known base e
    struct_is ds Ty-F.Void known base e = absurd cc
    struct_is ds (Ty-F.Int w) known base e = absurd cc
    struct_is ds Ty-F.Ptr known base e = absurd cc
    struct_is ds (Ty-F.Array count element) known base e = absurd cc
    struct_is ds (Ty-F.Named k) known base e = absurd cc

    -- ---- all constants

    abbrev Layer : (Place → Bool) → Const-F S → Type 0
    Layer f y = parts.constant_step f (map-Const Const Bool (parts.constant_keeps f) (map-Const S Const v y)) ≡ true

    layer : (y : Const-F S) (t : Ty) → Layer (place_known m) y → Layer (base_fits l sizes) y
        → typing.constant_step m role (map-Const Const (Ty → Bool) (typing.constant_fits m role) (map-Const S Const v y)) t ≡ true
        → image.init_step m l sizes (map-Const Const (Ty → Bool) (image.init_fits m l sizes) (map-Const S Const v y)) t ≡ true
    layer Const-F.Zero t known base e = refl
    layer (Const-F.Int n) t known base e = int_is (out-Ty t) (number_typed n (scalar_of t) e)
    layer (Const-F.Str text) t known base e = text_is t (out-Ty t) text refl e
    layer (Const-F.Array ds) t known base e = array_is ds t (out-Ty t) refl known base e
    layer (Const-F.Struct ds) t known base e = struct_is ds (out-Ty (resolved m.types t)) known base e
    layer (Const-F.Address place) t known base e =
        let is = and_parts (is_of scalar.Ptr (scalar_of t)) (place_fits m role place) e in
        and_from _ _ (pointer_is (out-Ty t) is.0) (typed_place m l sizes width role place known base is.1)
    layer (Const-F.AddressAsInt place) t known base e =
        let is = and_parts (typing.integer_type (scalar_of t)) (place_fits m role place) e in
        and_from _ _ (int_is (out-Ty t) is.0) (typed_place m l sizes width role place known base is.1)
    layer (Const-F.IntAsPtr n) t known base e = pointer_is (out-Ty t) e

    one_layer : (y : Const-F S) → Begins (roll-Const (map-Const S Const v y))
    one_layer y t known base e =
        let x = map-Const S Const v y in
        ap (λ (f : Ty → Bool). f t) (fold-roll-Const (Ty → Bool) (image.init_step m l sizes) x)
        ∙ layer y t (sym (fold-roll-Const Bool (parts.constant_step (place_known m)) x) ∙ known) (sym (fold-roll-Const Bool (parts.constant_step (base_fits l sizes)) x) ∙ base)
        (ap (λ (f : Ty → Bool). f t) (sym (fold-roll-Const (Ty → Bool) (typing.constant_step m role) x)) ∙ e)

  pub begins : (c : Const) → Begins c
  begins c = ind-Const Begins (λ x y e. subst (λ (z : Const-F Const). Begins (roll-Const z)) e (one_layer _ (λ d. d.0) (λ d. d.1) y)) c
