-- Constants are forms, at whatever types.
use Rattle.std.proofs.Common.{ℕ, List, [], ◌∷◌, ◌++◌, map, codes, ℤ, refl, sym, subst}
use Rattle.std.specs.Fmt.{signed_decimal}
use Rattle.no_ir.specs.declared.types.Ty.{Ty, out-Ty}
use Rattle.no_ir.specs.declared.types.Ty.TheOpen.{Ty-F}
use Rattle.no_ir.specs.declared.types.Ty.TheVariants as ty
use Rattle.no_ir.specs.declared.constant.Const.{Const, roll-Const}
use Rattle.no_ir.specs.declared.constant.Const.TheOpen.{Const-F}
use Rattle.no_ir.specs.declared.constant.Const.TheFolds.{fold-roll-Const, ind-Const, map-Const}
use Rattle.no_ir.specs.declared.constant.Place.{Place}
use Rattle.no_lex.specs.declared.token.TokenKind.TheVariants as kind
use Rattle.no_print.specs.Pieces.{Piece, glued, spaced, piece, sign, word, integer, behind_commas, with_commas}
use Rattle.no_eval.specs.Numbers.{signed}
use Rattle.no_print.specs.Names.{global_name, int_type, string}
use Rattle.no_print.specs.Constants.{Spelled, index_width, index_pieces, zero_in, width_in, element_in, fields_in, int_as_address, type_at, symbol_name, gep_place, place_by, place_pieces, resolved, member, typed, array_const, struct_const, address_as_int, const_step, const_pieces}
use Rattle.no_round_trip.proofs.LexForms.{IsForm, AllAre, IsApart, all_are, alone, apart_then, behind, behind_space, braces_form, comma_then, commas_apart, fits_then, forms_form, integer_form, list_form, sign_apart, sign_then, then_form, word_form, word_then}
use Rattle.no_round_trip.proofs.LexSpellings.{signed_kind}
use Rattle.no_round_trip.proofs.LexTypes.{global_form, int_form, number_form, string_form, type_form}

pub close_apart : IsApart (sign glued (codes ")"))
close_apart = sign_apart 41 glued [] refl refl refl tt

index_form : (i : ℤ) → IsForm (λ gap. int_type gap (index_width i) ++ integer spaced (signed_decimal i))
index_form i = then_form (λ gap. int_type gap (index_width i)) (integer spaced (signed_decimal i)) (int_form (index_width i)) (behind_space _ (integer_form (signed_decimal i) (signed_kind i)))

zero_form : (t : Ty-F Ty) → IsForm (λ gap. zero_in gap t)
zero_form (Ty-F.Int w) = number_form w 0
zero_form Ty-F.Ptr = word_form (codes "null") refl
zero_form Ty-F.Void = word_form (codes "zeroinitializer") refl
zero_form (Ty-F.Array n t) = word_form (codes "zeroinitializer") refl
zero_form (Ty-F.Struct packed fields) = word_form (codes "zeroinitializer") refl
zero_form (Ty-F.Named n) = word_form (codes "zeroinitializer") refl

address_form : (n : ℕ) → IsForm (λ gap. int_as_address gap n)
address_form n =
    word_then (codes "inttoptr") _ refl (sign_apart 40 spaced _ refl refl refl (fits_then (int_type glued 64) _ (alone _ (int_form 64))
    (behind_space _ (then_form (λ gap. integer gap (signed_decimal (signed 64 n))) _ (integer_form (signed_decimal (signed 64 n)) (signed_kind (signed 64 n)))
    (behind_space _ (word_then (codes "to") _ refl (behind_space _ (word_then (codes "ptr") (sign glued (codes ")")) refl close_apart))))))))

module _ (s : Spelled) where
  -- ---- addresses

  gep_form : (place : Place) → IsForm (λ gap. gep_place s gap place)
  gep_form place =
      word_then (codes "getelementptr") _ refl (sign_apart 40 spaced _ refl refl refl (fits_then (type_at s glued place.base) _ (alone _ (type_form s.named place.base))
      (comma_then _ (fits_then (word spaced (codes "ptr")) _ (behind_space _ (word_form (codes "ptr") refl)).fits
      (behind_space _ (then_form (λ gap. global_name gap (symbol_name s place.symbol)) _ (global_form (symbol_name s place.symbol))
      (indices place.indices)))))))
    where
      indices : (all : List ℤ) → IsApart (behind_commas index_pieces all ++ sign glued (codes ")"))
      indices all = apart_then (behind_commas index_pieces all) _ (commas_apart index_pieces all (all_are _ (λ i. (index_form i).fits spaced refl) all)) close_apart

  by_form : (place : Place) (indices : List ℤ) → IsForm (λ gap. place_by s gap place indices)
  by_form place [] = global_form (symbol_name s place.symbol)
  by_form place (i ∷ indices) = gep_form place

  pub place_form : (place : Place) → IsForm (λ gap. place_pieces s gap place)
  place_form place = by_form place place.indices

  -- ---- constants

  -- at each type
  abbrev IsConst : (Ty → List ℕ → List Piece) → Type 0
  IsConst c = (t : Ty) → IsForm (c t)

  member_form : (t : Ty) (c : Ty → List ℕ → List Piece) → IsConst c → IsForm (λ gap. member s gap t c)
  member_form t c f = then_form (λ gap. type_at s gap t) (c t spaced) (type_form s.named t) (behind_space (c t) (f t))

  integer_address_form : (t : Ty) (place : Place) → IsForm (λ gap. address_as_int s gap t place)
  integer_address_form t place =
      word_then (codes "ptrtoint") _ refl (sign_apart 40 spaced _ refl refl refl (fits_then (word glued (codes "ptr")) _ (alone _ (word_form (codes "ptr") refl))
      (behind_space _ (then_form (λ gap. place_pieces s gap place) _ (place_form place)
      (behind_space _ (word_then (codes "to") _ refl (behind_space _ (then_form (λ gap. type_at s gap t) (sign glued (codes ")")) (type_form s.named t) close_apart))))))))

  typed_forms : (members : List (Ty → List ℕ → List Piece)) (types : List Ty) → AllAre IsConst members → AllAre IsForm (typed s members types)
  typed_forms [] types all = tt
  typed_forms (c ∷ members) [] all = (member_form ty.Void c all.0, typed_forms members [] all.1)
  typed_forms (c ∷ members) (t ∷ types) all = (member_form t c all.0, typed_forms members types all.1)

  elements : (t : Ty) (members : List (Ty → List ℕ → List Piece)) → AllAre IsConst members → AllAre (λ c. IsForm (λ gap. member s gap t c)) members
  elements t [] all = tt
  elements t (c ∷ members) all = (member_form t c all.0, elements t members all.1)

  array_form : (t : Ty) (members : List (Ty → List ℕ → List Piece)) → AllAre IsConst members → IsForm (λ gap. array_const s gap t members)
  array_form t members all =
      sign_then 91 _ refl (fits_then (with_commas (λ g c. member s g t c) glued members) (sign glued (codes "]")) (alone _ (list_form (λ g c. member s g t c) members (elements t members all))) (sign_apart 93 glued [] refl refl refl tt))

  struct_form : (types : List Ty) (members : List (Ty → List ℕ → List Piece)) → AllAre IsConst members → IsForm (λ gap. struct_const s gap types members)
  struct_form types members all = braces_form (with_commas behind spaced (typed s members types)) ((forms_form (typed s members types) (typed_forms members types all)).fits spaced refl)

  text_form : (bytes : List ℕ) → IsForm (λ gap. piece kind.CMark gap (codes "c") ++ string glued bytes)
  text_form bytes = record { fits = λ gap blanks. (record { blanks = blanks; spells = refl }, refl, alone _ (string_form bytes)); begins = λ b gap. refl }

  module _ (S : Type 0) (v : S → Const) (h : (d : S) → IsConst (const_pieces s (v d))) where
    members_are : (ds : List S) → AllAre IsConst (map (const_pieces s) (map v ds))
    members_are [] = tt
    members_are (d ∷ ds) = (h d, members_are ds)

    layer : (y : Const-F S) → IsConst (const_step s (map-Const Const (Ty → List ℕ → List Piece) (const_pieces s) (map-Const S Const v y)))
    layer Const-F.Zero t = zero_form (out-Ty (resolved s t))
    layer (Const-F.Int n) t = number_form (width_in (out-Ty (resolved s t))) n
    layer (Const-F.Str bytes) t = text_form bytes
    layer (Const-F.Array ds) t = array_form (element_in (out-Ty (resolved s t))) (map (const_pieces s) (map v ds)) (members_are ds)
    layer (Const-F.Struct ds) t = struct_form (fields_in (out-Ty (resolved s t))) (map (const_pieces s) (map v ds)) (members_are ds)
    layer (Const-F.Address place) t = place_form place
    layer (Const-F.AddressAsInt place) t = integer_address_form t place
    layer (Const-F.IntAsPtr n) t = address_form n

    one_layer : (y : Const-F S) → IsConst (const_pieces s (roll-Const (map-Const S Const v y)))
    one_layer y = subst IsConst (sym (fold-roll-Const (Ty → List ℕ → List Piece) (const_step s) (map-Const S Const v y))) (layer y)

  pub const_form : (c : Const) → (t : Ty) → IsForm (const_pieces s c t)
  const_form c = ind-Const (λ b. IsConst (const_pieces s b)) (λ x y e. subst (λ (z : Const-F Const). IsConst (const_pieces s (roll-Const z))) e (one_layer _ (λ d. d.0) (λ d. d.1) y)) c
