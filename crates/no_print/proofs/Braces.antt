-- What stands in braces is not empty where there are fields.
use Rattle.std.proofs.Common.{◌≡◌, ℕ, ◌<◌, true, false, List, [], ◌∷◌, ◌++◌, map, length, codes, refl, sym, ap, subst, arith}
use Rattle.no_ir.specs.declared.constant.Const.{Const}
use Rattle.no_ir.specs.declared.types.Ty.{Ty, out-Ty}
use Rattle.no_ir.specs.declared.types.Ty.TheOpen.{Ty-F}
use Rattle.no_ir.specs.declared.types.Ty.TheFolds.{fold_out-Ty, map-Ty}
use Rattle.no_ir.specs.declared.types.Ty.TheVariants as ty
use Rattle.no_print.specs.Constants.{Spelled, const_pieces, member, typed}
use Rattle.no_print.specs.Pieces.{Piece, sign, spaced, with_commas}
use Rattle.no_print.specs.Types.{fields_with, in_braces, type_pieces, type_step}

-- there is a first piece
record IsSome (pieces : List Piece) : Type 0 where
  head : Piece
  tail : List Piece
  is : pieces ≡ head ∷ tail

some : (p : Piece) (pieces : List Piece) → IsSome (p ∷ pieces)
some p pieces = record { head = p; tail = pieces; is = refl }

some_append : (a b : List Piece) → IsSome a → IsSome (a ++ b)
some_append a b s = record { head = s.head; tail = s.tail ++ b; is = ap (λ (l : List Piece). l ++ b) s.is }

braces_are_some : (gap : List ℕ) (pieces : List Piece) → IsSome (in_braces gap pieces)
braces_are_some gap [] = some _ _
braces_are_some gap (p ∷ pieces) = some _ _

step_is_some : (names : List (List ℕ)) (t : Ty-F (List ℕ → List Piece)) (gap : List ℕ) → IsSome (type_step names t gap)
step_is_some names Ty-F.Void gap = some _ _
step_is_some names (Ty-F.Int w) gap = some _ _
step_is_some names Ty-F.Ptr gap = some _ _
step_is_some names (Ty-F.Array count element) gap = some _ _
step_is_some names (Ty-F.Struct false fields) gap = braces_are_some gap (fields_with fields)
step_is_some names (Ty-F.Struct true fields) gap = some _ _
step_is_some names (Ty-F.Named n) gap = some _ _

type_is_some : (names : List (List ℕ)) (t : Ty) (gap : List ℕ) → IsSome (type_pieces names t gap)
type_is_some names t gap =
    subst IsSome (sym (ap (λ (f : List ℕ → List Piece). f gap) (fold_out-Ty (List ℕ → List Piece) (type_step names) t)))
    (step_is_some names (map-Ty Ty (List ℕ → List Piece) (type_pieces names) (out-Ty t)) gap)

-- pieces in braces, of which there is one
braced : (gap : List ℕ) (pieces : List Piece) → IsSome pieces → in_braces gap pieces ≡ sign gap (codes "{") ++ (pieces ++ sign spaced (codes "}"))
braced gap [] s = absurd cc
braced gap (p ∷ pieces) s = refl

-- the fields of a struct type, of which there is one
pub braced_types : (names : List (List ℕ)) (gap : List ℕ) (fields : List Ty) → 0 < length fields
    → in_braces gap (fields_with (map (type_pieces names) fields)) ≡ sign gap (codes "{") ++ (fields_with (map (type_pieces names) fields) ++ sign spaced (codes "}"))
braced_types names gap [] some = absurd (omega arith)
braced_types names gap (t ∷ fields) some = braced gap (fields_with (map (type_pieces names) (t ∷ fields))) (some_append (type_pieces names t spaced) _ (type_is_some names t spaced))

module _ (s : Spelled) where
  abbrev pub fields_at : List Const → List Ty → List Piece
  fields_at fields types = with_commas (λ (gap : List ℕ) (field : List ℕ → List Piece). field gap) spaced (typed s (map (const_pieces s) fields) types)

  fields_are_some : (c : Const) (fields : List Const) (types : List Ty) → IsSome (fields_at (c ∷ fields) types)
  fields_are_some c fields [] = some_append (member s spaced ty.Void (const_pieces s c)) _ (some_append (type_pieces s.named ty.Void spaced) _ (type_is_some s.named ty.Void spaced))
  fields_are_some c fields (t ∷ types) = some_append (member s spaced t (const_pieces s c)) _ (some_append (type_pieces s.named t spaced) _ (type_is_some s.named t spaced))

  -- the fields of a struct, of which there is one
  pub braced_fields : (gap : List ℕ) (fields : List Const) (types : List Ty) → 0 < length fields → in_braces gap (fields_at fields types) ≡ sign gap (codes "{") ++ (fields_at fields types ++ sign spaced (codes "}"))
  braced_fields gap [] types some = absurd (omega arith)
  braced_fields gap (c ∷ fields) types some = braced gap (fields_at (c ∷ fields) types) (fields_are_some c fields types)
