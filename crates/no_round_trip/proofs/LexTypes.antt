-- Types and names are forms.
use Rattle.std.proofs.Common.{ℕ, Bool, true, false, List, [], ◌∷◌, ◌++◌, map, codes, decimal, ◌==◌, if◌then◌else◌, refl, sym, subst}
use Rattle.std.specs.Fmt.{signed_decimal}
use Rattle.no_ir.specs.declared.types.Ty.{Ty, roll-Ty}
use Rattle.no_ir.specs.declared.types.Ty.TheOpen.{Ty-F}
use Rattle.no_ir.specs.declared.types.Ty.TheFolds.{fold-roll-Ty, ind-Ty, map-Ty}
use Rattle.no_lex.specs.declared.token.TokenKind.TheVariants as kind
use Rattle.no_print.specs.Pieces.{Piece, glued, spaced, sign, word, integer}
use Rattle.no_eval.specs.Numbers.{signed}
use Rattle.no_print.specs.Names.{global_name, local_name, label_line, string, spelling, label_spelling, quoted, name_at, int_type, number, truth}
use Rattle.no_print.specs.Types.{in_braces, fields_with, struct_pieces, array_pieces, type_step, type_pieces}
use Rattle.no_round_trip.proofs.LexForms.{IsForm, AllAre, alone, behind_space, braces_form, forms_form, integer_form, piece_form, sign_apart, sign_then, word_form, word_then, then_form, fits_then}
use Rattle.no_round_trip.proofs.LexSpellings.{decimal_kind, global_kind, int_kind, label_is, local_kind, quoted_kind, signed_kind}

-- ---- names, strings and numbers

pub global_form : (name : List ℕ) → IsForm (λ gap. global_name gap name)
global_form name = piece_form kind.Global (64 ∷ spelling name) (global_kind name) refl

pub local_form : (name : List ℕ) → IsForm (λ gap. local_name gap name)
local_form name = piece_form kind.Local (37 ∷ spelling name) (local_kind name) refl

pub label_form : (name : List ℕ) → IsForm (λ gap. label_line gap name)
label_form name = piece_form kind.Label (label_spelling name ++ 58 ∷ []) (label_is name) refl

pub string_form : (bytes : List ℕ) → IsForm (λ gap. string gap bytes)
string_form bytes = piece_form kind.Quoted (quoted bytes) (quoted_kind bytes) refl

pub int_form : (w : ℕ) → IsForm (λ gap. int_type gap w)
int_form w = word_form (105 ∷ decimal w) (int_kind w)

truth_by : (t : Bool) → IsForm (λ gap. word gap (if t then codes "false" else codes "true"))
truth_by true = word_form (codes "false") refl
truth_by false = word_form (codes "true") refl

number_by : (t : Bool) (w n : ℕ) → IsForm (λ gap. if t then truth gap n else integer gap (signed_decimal (signed w n)))
number_by true w n = truth_by (n == 0)
number_by false w n = integer_form (signed_decimal (signed w n)) (signed_kind (signed w n))

pub number_form : (w n : ℕ) → IsForm (λ gap. number w gap n)
number_form w n = number_by (w == 1) w n

-- ---- types

array_form : (count : ℕ) (element : List ℕ → List Piece) → IsForm element → IsForm (λ gap. array_pieces gap count element)
array_form count element f =
    sign_then 91 (integer glued (decimal count) ++ (word spaced (codes "x") ++ (element spaced ++ sign glued (codes "]")))) refl
    (fits_then (integer glued (decimal count)) _ (alone _ (integer_form (decimal count) (decimal_kind count)))
    (behind_space _ (word_then (codes "x") (element spaced ++ sign glued (codes "]")) refl
    (behind_space _ (then_form element (sign glued (codes "]")) f (sign_apart 93 glued [] refl refl refl tt))))))

struct_form : (packed : Bool) (fields : List (List ℕ → List Piece)) → AllAre IsForm fields → IsForm (λ gap. struct_pieces packed gap (fields_with fields))
struct_form false fields all = braces_form (fields_with fields) ((forms_form fields all).fits spaced refl)
struct_form true fields all =
    sign_then 60 (in_braces glued (fields_with fields) ++ sign glued (codes ">")) refl
    (fits_then (in_braces glued (fields_with fields)) (sign glued (codes ">")) (alone _ (braces_form (fields_with fields) ((forms_form fields all).fits spaced refl))) (sign_apart 62 glued [] refl refl refl tt))

module _ (names : List (List ℕ)) where
  module _ (S : Type 0) (v : S → Ty) (h : (d : S) → IsForm (type_pieces names (v d))) where
    fields_forms : (ds : List S) → AllAre IsForm (map (type_pieces names) (map v ds))
    fields_forms [] = tt
    fields_forms (d ∷ ds) = (h d, fields_forms ds)

    layer : (y : Ty-F S) → IsForm (type_step names (map-Ty Ty (List ℕ → List Piece) (type_pieces names) (map-Ty S Ty v y)))
    layer Ty-F.Void = word_form (codes "void") refl
    layer (Ty-F.Int w) = int_form w
    layer Ty-F.Ptr = word_form (codes "ptr") refl
    layer (Ty-F.Array count d) = array_form count (type_pieces names (v d)) (h d)
    layer (Ty-F.Struct packed ds) = struct_form packed (map (type_pieces names) (map v ds)) (fields_forms ds)
    layer (Ty-F.Named n) = local_form (name_at names n)

    one_layer : (y : Ty-F S) → IsForm (type_pieces names (roll-Ty (map-Ty S Ty v y)))
    one_layer y = subst IsForm (sym (fold-roll-Ty (List ℕ → List Piece) (type_step names) (map-Ty S Ty v y))) (layer y)

  pub type_form : (t : Ty) → IsForm (type_pieces names t)
  type_form t = ind-Ty (λ u. IsForm (type_pieces names u)) (λ x y e. subst (λ (z : Ty-F Ty). IsForm (type_pieces names (roll-Ty z))) e (one_layer _ (λ d. d.0) (λ d. d.1) y)) t
