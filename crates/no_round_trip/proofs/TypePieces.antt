-- The pieces of a type, form by form.
use Rattle.std.proofs.Common.{◌≡◌, ℕ, Bool, List, [], ◌∷◌, ◌++◌, map, codes, refl, sym, ap, ◌∙◌}
use Rattle.no_ir.specs.declared.types.Ty.{Ty, roll-Ty}
use Rattle.no_ir.specs.declared.types.Ty.TheOpen.{Ty-F}
use Rattle.no_ir.specs.declared.types.Ty.TheFolds.{fold-roll-Ty, map-Ty}
use Rattle.no_ir.specs.declared.types.Ty.TheVariants as ty
use Rattle.no_ir.specs.declared.types.Ty.TheVariants.{rolls-Void, rolls-Int, rolls-Ptr, rolls-Array, rolls-Struct, rolls-Named}
use Rattle.no_print.specs.Pieces.{Piece, spaced, word, sign, behind_commas, with_commas}
use Rattle.no_print.specs.Names.{local_name, name_at, int_type}
use Rattle.no_print.specs.Types.{struct_pieces, array_pieces, type_step, type_pieces}

abbrev Spelling : Type 0
Spelling = List ℕ → List Piece

-- items of a list, each made of another
behind_map : {A : Type 0} (h : A → Spelling) (all : List A) → behind_commas (λ (field : Spelling). field spaced) (map h all) ≡ behind_commas (λ a. h a spaced) all
behind_map h [] = refl
behind_map h (a ∷ all) = ap (λ l. sign [] (44 ∷ []) ++ (h a spaced ++ l)) (behind_map h all)

pub commas_map : {A : Type 0} (h : A → Spelling) (gap : List ℕ) (all : List A) → with_commas (λ gap (field : Spelling). field gap) gap (map h all) ≡ with_commas (λ gap a. h a gap) gap all
commas_map h gap [] = refl
commas_map h gap (a ∷ all) = ap (λ l. h a gap ++ l) (behind_map h all)

module _ (names : List (List ℕ)) (gap : List ℕ) where
  layer : (x : Ty-F Ty) (t : Ty) → roll-Ty x ≡ t → type_pieces names t gap ≡ type_step names (map-Ty Ty Spelling (type_pieces names) x) gap
  layer x t e = ap (λ (t : Ty). type_pieces names t gap) (sym e) ∙ ap (λ (f : Spelling). f gap) (fold-roll-Ty Spelling (type_step names) x)

  pub void_pieces : type_pieces names ty.Void gap ≡ word gap (codes "void")
  void_pieces = layer Ty-F.Void ty.Void rolls-Void

  pub int_pieces : (w : ℕ) → type_pieces names (ty.Int w) gap ≡ int_type gap w
  int_pieces w = layer (Ty-F.Int w) (ty.Int w) (rolls-Int w)

  pub ptr_pieces : type_pieces names ty.Ptr gap ≡ word gap (codes "ptr")
  ptr_pieces = layer Ty-F.Ptr ty.Ptr rolls-Ptr

  pub named_pieces : (n : ℕ) → type_pieces names (ty.Named n) gap ≡ local_name gap (name_at names n)
  named_pieces n = layer (Ty-F.Named n) (ty.Named n) (rolls-Named n)

  pub array_is : (n : ℕ) (element : Ty) → type_pieces names (ty.Array n element) gap ≡ array_pieces gap n (type_pieces names element)
  array_is n element = layer (Ty-F.Array n element) (ty.Array n element) (rolls-Array n element)

  pub struct_is : (packed : Bool) (fields : List Ty) → type_pieces names (ty.Struct packed fields) gap ≡ struct_pieces packed gap (with_commas (λ gap t. type_pieces names t gap) spaced fields)
  struct_is packed fields = layer (Ty-F.Struct packed fields) (ty.Struct packed fields) (rolls-Struct packed fields) ∙ ap (struct_pieces packed gap) (commas_map (type_pieces names) spaced fields)
