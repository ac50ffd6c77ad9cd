-- Shapes, and the sets that stand for them.
use Rattle.std.proofs.Common.{◌≡◌, ◌∙◌, refl, sym, ap, subst, ℕ, ◌+◌, ◌<◌, ◌≤◌, inl, inr, Bool, true, false, List, [], ◌∷◌, ◌++◌, length, get_or, Vec, arith}
use Rattle.std.specs.Prelude.{Some, bytes_eq, position, slice_get, if◌then◌else◌}
use Rattle.std.specs.Global.{Global}
use Rattle.std.proofs.lemmas.Bool.{cases_eq, false≢true, or_left, or_right}
use Rattle.std.proofs.lemmas.List.Quantifiers.{position-Some}
use Rattle.std.proofs.lemmas.List.Folds.{list_any-append}
use Rattle.std.proofs.lemmas.List.{length_push}
use Rattle.std.proofs.lemmas.Option.{same_Some, slice_get_read, slice_get_within}
use Rattle.std.proofs.lemmas.Slice.Eq.{bytes_eq-Decides}
use Rattle.no_ir.specs.Naming.{is_known, with_name}
use Rattle.no_ir.specs.declared.function.Function.{Function}
use Rattle.no_calls.specs.Rows.{row}
use Rattle.no_calls.specs.Shapes.{HasShapes, ShapeAdded, function_shape, is_proper}
use Rattle.no_calls.proofs.Tables.{row_kept, row_last}

pub place_below : (x : List ℕ) (shapes : List (List ℕ)) (c : ℕ) → position (bytes_eq x) shapes ≡ Some c → c < length shapes
place_below x shapes c e = (position-Some (bytes_eq x) shapes c [] e).0

-- ---- shapes that were added

known_there : (shapes : List (List ℕ)) (x : List ℕ) → is_known (shapes ++ x ∷ []) x ≡ true
known_there shapes x = list_any-append (bytes_eq x) shapes (x ∷ []) ∙ or_right (is_known shapes x) (is_known (x ∷ []) x) (or_left (bytes_eq x x) false ((bytes_eq-Decides x x).1 refl))

known_kept : (shapes : List (List ℕ)) (x y : List ℕ) → is_known shapes x ≡ true → is_known (shapes ++ y ∷ []) x ≡ true
known_kept shapes x y e = list_any-append (bytes_eq x) shapes (y ∷ []) ∙ or_left (is_known shapes x) (is_known (y ∷ []) x) e

pub shape_added : (g : Function) (taken : Bool) (old new : List (List ℕ)) (shape : List ℕ) → shape ≡ function_shape g → new ≡ with_name old shape → ShapeAdded g taken old new
shape_added g taken old new shape is named = subst (λ (l : List (List ℕ)). ShapeAdded g taken old l) (sym named) (subst (λ (s : List ℕ). ShapeAdded g taken old (with_name old s)) (sym is) (by_known (is_known old (function_shape g)) refl))
  where
    by_known : (b : Bool) → is_known old (function_shape g) ≡ b → ShapeAdded g taken old (if b then old else old ++ function_shape g ∷ [])
    by_known true e = record { kept = λ s h. h; there = λ t p. e; few = omega arith }
    by_known false e = record { kept = λ s h. known_kept old s (function_shape g) h; there = λ t p. known_there old (function_shape g); few = let l : length (old ++ function_shape g ∷ []) ≡ length old + 1 = length_push old (function_shape g) in omega (arith, l) }

pub shape_not_taken : (g : Function) (taken : Bool) (old : List (List ℕ)) → taken ≡ false → ShapeAdded g taken old old
shape_not_taken g taken old e = record { kept = λ s h. h; there = λ t p. absurd (false≢true (sym e ∙ t)); few = omega arith }

pub shape_not_proper : (g : Function) (taken : Bool) (old : List (List ℕ)) (shape : List ℕ) → shape ≡ function_shape g → is_proper shape ≡ false → ShapeAdded g taken old old
shape_not_proper g taken old shape is e = record { kept = λ s h. h; there = λ t p. absurd (false≢true (sym e ∙ (ap is_proper is ∙ p))); few = omega arith }

pub shapes_none : (functions : List Function) (taken : List Bool) (shapes : List (List ℕ)) → HasShapes functions taken 0 shapes
shapes_none functions taken shapes = λ k g lt is t p. absurd (omega arith)

pub shapes_more : (functions : List Function) (taken : List Bool) (n : ℕ) (g : Function) (flag : Bool) (old new : List (List ℕ)) → n < length functions → g ≡ get_or functions n g → flag ≡ get_or taken n false → ShapeAdded g flag old new → HasShapes functions taken n old → HasShapes functions taken (n + 1) new
shapes_more functions taken n g flag old new lt is set added so_far = λ k h below at t p. elim (cases_eq k n) [
  | inl same ↦
      let here : slice_get functions n ≡ Some g = slice_get_read functions (length functions) n g refl lt is in
      let g_is : g ≡ h = same_Some g h (sym here ∙ (ap (λ (i : ℕ). slice_get functions i) (sym same) ∙ at)) in
      subst (λ (f : Function). is_known new (function_shape f) ≡ true) g_is
      (added.there (set ∙ (ap (λ (i : ℕ). get_or taken i false) (sym same) ∙ t)) (ap (λ (f : Function). is_proper (function_shape f)) g_is ∙ p))
  | inr other ↦ added.kept (function_shape h) (so_far k h (omega arith) at t p)
]

-- ---- tables that are made function by function

module _ (F : ℕ → Function → List ℕ) (functions : List Function) where
  pub rows_next : (rows new : List (Vec ℕ Global)) (v : Vec ℕ Global) (n : ℕ) (g : Function) → length rows ≡ n → new ≡ rows ++ v ∷ [] → v.items ≡ F n g → n < length functions → g ≡ get_or functions n g
      → ((k : ℕ) (h : Function) → k < n → slice_get functions k ≡ Some h → row rows k ≡ F k h) → (k : ℕ) (h : Function) → k < n + 1 → slice_get functions k ≡ Some h → row new k ≡ F k h
  rows_next rows new v n g wide longer made lt is so_far k h below at = elim (cases_eq k n) [
    | inl same ↦
        let here : slice_get functions n ≡ Some g = slice_get_read functions (length functions) n g refl lt is in
        let g_is : g ≡ h = same_Some g h (sym here ∙ (ap (λ (i : ℕ). slice_get functions i) (sym same) ∙ at)) in
        ap (λ (i : ℕ). row new i) (same ∙ sym wide) ∙ (ap (λ (t : List (Vec ℕ Global)). row t (length rows)) longer ∙ (row_last rows v ∙ (made ∙ (ap (λ (i : ℕ). F i g) (sym same) ∙ ap (F k) g_is))))
    | inr other ↦ ap (λ (t : List (Vec ℕ Global)). row t k) longer ∙ (row_kept rows v k (omega (arith, wide)) ∙ so_far k h (omega arith) at)
  ]

  pub rows_whole : (rows : List (Vec ℕ Global)) (n : ℕ) → length functions ≤ n → ((k : ℕ) (h : Function) → k < n → slice_get functions k ≡ Some h → row rows k ≡ F k h) → (k : ℕ) (h : Function) → slice_get functions k ≡ Some h → row rows k ≡ F k h
  rows_whole rows n all made k h at = let lt : k < length functions = slice_get_within functions k h at in made k h (omega arith) at
