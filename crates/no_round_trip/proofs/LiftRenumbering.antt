-- Types whose references have other numbers.
use Rattle.std.proofs.Common.{◌≡◌, ℕ, Bool, List, [], ◌∷◌, ◌++◌, map, Result, Ok, refl, sym, ap, subst, ◌∙◌}
use Rattle.std.proofs.lemmas.List.{map-append}
use Rattle.no_ir.specs.declared.types.Ty.{Ty, out-Ty, roll-Ty}
use Rattle.no_ir.specs.declared.types.Ty.TheOpen.{Ty-F}
use Rattle.no_ir.specs.declared.types.Ty.TheFolds.{ind-Ty, fold-roll-Ty, map-Ty}
use Rattle.no_ir.specs.declared.types.Ty.TheViews.{roll-out-Ty, out-roll-Ty}
use Rattle.no_ir.specs.declared.types.Ty.TheVariants as ty
use Rattle.no_ir.specs.declared.types.Ty.TheVariants.{rolls-Void, rolls-Int, rolls-Ptr, rolls-Array, rolls-Struct, rolls-Named}
use Rattle.no_read_types.specs.Graph.{joined, reference_step, references}
use Rattle.no_read_types.specs.Lifted.{renumber_step, renumbered}
use Rattle.no_read_types.specs.Lifting.{a_struct, struct_in}

-- ---- form by form

module _ (number : ℕ → ℕ) where
  layer : (x : Ty-F Ty) (t : Ty) → roll-Ty x ≡ t → renumbered number t ≡ renumber_step number (map-Ty Ty Ty (renumbered number) x)
  layer x t e = ap (renumbered number) (sym e) ∙ fold-roll-Ty Ty (renumber_step number) x

  pub int_other : (w : ℕ) → renumbered number (ty.Int w) ≡ ty.Int w
  int_other w = layer (Ty-F.Int w) (ty.Int w) (rolls-Int w)

  pub ptr_other : renumbered number ty.Ptr ≡ ty.Ptr
  ptr_other = layer Ty-F.Ptr ty.Ptr rolls-Ptr

  pub named_other : (n : ℕ) → renumbered number (ty.Named n) ≡ ty.Named (number n)
  named_other n = layer (Ty-F.Named n) (ty.Named n) (rolls-Named n)

  pub array_other : (n : ℕ) (element : Ty) → renumbered number (ty.Array n element) ≡ ty.Array n (renumbered number element)
  array_other n element = layer (Ty-F.Array n element) (ty.Array n element) (rolls-Array n element)

  pub struct_other : (packed : Bool) (fields : List Ty) → renumbered number (ty.Struct packed fields) ≡ ty.Struct packed (map (renumbered number) fields)
  struct_other packed fields = layer (Ty-F.Struct packed fields) (ty.Struct packed fields) (rolls-Struct packed fields)

references_layer : (x : Ty-F Ty) (t : Ty) → roll-Ty x ≡ t → references t ≡ reference_step (map-Ty Ty (List ℕ) references x)
references_layer x t e = ap references (sym e) ∙ fold-roll-Ty (List ℕ) reference_step x

-- ---- references

abbrev Refers : (ℕ → ℕ) → Ty → Type 0
Refers number t = references (renumbered number t) ≡ map number (references t)

module _ (number : ℕ → ℕ) (S : Type 0) (v : S → Ty) (h : (d : S) → Refers number (v d)) where
  fields_refer : (ds : List S) → joined (map references (map (renumbered number) (map v ds))) ≡ map number (joined (map references (map v ds)))
  fields_refer [] = refl
  fields_refer (d ∷ ds) = ap (λ l. l ++ joined (map references (map (renumbered number) (map v ds)))) (h d) ∙ ap (λ l. map number (references (v d)) ++ l) (fields_refer ds)
      ∙ sym (map-append number (references (v d)) (joined (map references (map v ds))))

  step_refers : (y : Ty-F S) → references (renumber_step number (map-Ty Ty Ty (renumbered number) (map-Ty S Ty v y))) ≡ map number (reference_step (map-Ty Ty (List ℕ) references (map-Ty S Ty v y)))
  step_refers Ty-F.Void = references_layer Ty-F.Void ty.Void rolls-Void
  step_refers (Ty-F.Int w) = references_layer (Ty-F.Int w) (ty.Int w) (rolls-Int w)
  step_refers Ty-F.Ptr = references_layer Ty-F.Ptr ty.Ptr rolls-Ptr
  step_refers (Ty-F.Array n d) = references_layer (Ty-F.Array n (renumbered number (v d))) (ty.Array n (renumbered number (v d))) (rolls-Array n (renumbered number (v d))) ∙ h d
  step_refers (Ty-F.Struct p ds) = references_layer (Ty-F.Struct p (map (renumbered number) (map v ds))) (ty.Struct p (map (renumbered number) (map v ds))) (rolls-Struct p (map (renumbered number) (map v ds))) ∙ fields_refer ds
  step_refers (Ty-F.Named n) = references_layer (Ty-F.Named (number n)) (ty.Named (number n)) (rolls-Named (number n))

  one_refers : (y : Ty-F S) → Refers number (roll-Ty (map-Ty S Ty v y))
  one_refers y =
      let x = map-Ty S Ty v y in
      ap references (layer number x (roll-Ty x) refl) ∙ step_refers y ∙ ap (map number) (sym (references_layer x (roll-Ty x) refl))

-- the references of a type with other numbers
pub other_references : (number : ℕ → ℕ) (t : Ty) → references (renumbered number t) ≡ map number (references t)
other_references number t = ind-Ty (Refers number) (λ x y e. subst (λ (z : Ty-F Ty). Refers number (roll-Ty z)) e (one_refers number _ (λ d. d.0) (λ d. d.1) y)) t

-- ---- the same numbers

abbrev same : ℕ → ℕ
same n = n

abbrev Stays : Ty → Type 0
Stays t = renumbered same t ≡ t

module _ (S : Type 0) (v : S → Ty) (h : (d : S) → Stays (v d)) where
  fields_stay : (ds : List S) → map (renumbered same) (map v ds) ≡ map v ds
  fields_stay [] = refl
  fields_stay (d ∷ ds) = let first = h d in let more = fields_stay ds in λ i. first i ∷ more i

  step_stays : (y : Ty-F S) → renumber_step same (map-Ty Ty Ty (renumbered same) (map-Ty S Ty v y)) ≡ roll-Ty (map-Ty S Ty v y)
  step_stays Ty-F.Void = sym rolls-Void
  step_stays (Ty-F.Int w) = sym (rolls-Int w)
  step_stays Ty-F.Ptr = sym rolls-Ptr
  step_stays (Ty-F.Array n d) = ap (λ (t : Ty). ty.Array n t) (h d) ∙ sym (rolls-Array n (v d))
  step_stays (Ty-F.Struct p ds) = ap (λ (l : List Ty). ty.Struct p l) (fields_stay ds) ∙ sym (rolls-Struct p (map v ds))
  step_stays (Ty-F.Named n) = sym (rolls-Named n)

  one_stays : (y : Ty-F S) → Stays (roll-Ty (map-Ty S Ty v y))
  one_stays y = let x = map-Ty S Ty v y in layer same x (roll-Ty x) refl ∙ step_stays y

pub same_numbers : (number : ℕ → ℕ) → ((n : ℕ) → number n ≡ n) → (t : Ty) → renumbered number t ≡ t
same_numbers number e t =
    let is : number ≡ same = λ i n. e n i in
    ap (λ (f : ℕ → ℕ). renumbered f t) is ∙ ind-Ty Stays (λ x y e. subst (λ (z : Ty-F Ty). Stays (roll-Ty z)) e (one_stays _ (λ d. d.0) (λ d. d.1) y)) t

-- ---- structs

-- a struct with its fields
pub record IsStruct (t : Ty) : Type 0 where
  pub packed : Bool
  pub fields : List Ty
  pub is : t ≡ ty.Struct packed fields

pub struct_is : (t b : Ty) → a_struct t ≡ Ok b → IsStruct t
struct_is t b e = by (out-Ty t) refl e
  where
    by : (x : Ty-F Ty) → out-Ty t ≡ x → struct_in t x ≡ Ok b → IsStruct t
    by (Ty-F.Struct p fs) is k = record { packed = p; fields = fs; is = sym (roll-out-Ty t) ∙ ap roll-Ty is ∙ rolls-Struct p fs }
    by Ty-F.Void is k = absurd cc
    by (Ty-F.Int w) is k = absurd cc
    by Ty-F.Ptr is k = absurd cc
    by (Ty-F.Array n t) is k = absurd cc
    by (Ty-F.Named n) is k = absurd cc

pub out_at : (x : Ty-F Ty) (t : Ty) → roll-Ty x ≡ t → out-Ty t ≡ x
out_at x t e = ap out-Ty (sym e) ∙ out-roll-Ty x

pub struct_passes : (p : Bool) (fs : List Ty) (t : Ty) → t ≡ ty.Struct p fs → a_struct t ≡ Ok t
struct_passes p fs t e = ap (struct_in t) (ap out-Ty e ∙ out_at (Ty-F.Struct p fs) (ty.Struct p fs) (rolls-Struct p fs))

-- a struct stays one
pub struct_renumbered : (number : ℕ → ℕ) (t b : Ty) → a_struct t ≡ Ok b → a_struct (renumbered number t) ≡ Ok (renumbered number t)
struct_renumbered number t b e =
    let s = struct_is t b e in
    struct_passes s.packed (map (renumbered number) s.fields) (renumbered number t) (ap (renumbered number) s.is ∙ struct_other number s.packed s.fields)
