-- The pieces of a constant, form by form.
use Rattle.std.proofs.Common.{◌≡◌, ℕ, List, [], ◌∷◌, ◌++◌, map, codes, refl, sym, ap, ◌∙◌}
use Rattle.no_lex.specs.declared.token.TokenKind.TheVariants as kind
use Rattle.no_ir.specs.declared.types.Ty.{Ty, out-Ty}
use Rattle.no_ir.specs.declared.constant.Const.{Const, roll-Const}
use Rattle.no_ir.specs.declared.constant.Const.TheOpen.{Const-F}
use Rattle.no_ir.specs.declared.constant.Const.TheFolds.{fold-roll-Const, map-Const}
use Rattle.no_ir.specs.declared.constant.Const.TheVariants as const
use Rattle.no_ir.specs.declared.constant.Const.TheVariants.{rolls-Zero, rolls-Int, rolls-Str, rolls-Array, rolls-Struct, rolls-Address, rolls-AddressAsInt, rolls-IntAsPtr}
use Rattle.no_ir.specs.declared.constant.Place.{Place}
use Rattle.no_print.specs.Pieces.{Piece, glued, spaced, piece, sign, behind_commas, with_commas}
use Rattle.no_print.specs.Names.{number, string}
use Rattle.no_print.specs.Types.{in_braces}
use Rattle.no_print.specs.Constants.{Spelled, zero_in, width_in, element_in, fields_in, int_as_address, place_pieces, resolved, member, typed, address_as_int, const_step, const_pieces}

abbrev Spelling : Type 0
Spelling = Ty → List ℕ → List Piece

behind_map : {A B : Type 0} (f : B → List Piece) (h : A → B) (all : List A) → behind_commas f (map h all) ≡ behind_commas (λ a. f (h a)) all
behind_map f h [] = refl
behind_map f h (a ∷ all) = ap (λ l. sign [] (44 ∷ []) ++ (f (h a) ++ l)) (behind_map f h all)

pub commas_over : {A B : Type 0} (f : List ℕ → B → List Piece) (h : A → B) (gap : List ℕ) (all : List A) → with_commas f gap (map h all) ≡ with_commas (λ g a. f g (h a)) gap all
commas_over f h gap [] = refl
commas_over f h gap (a ∷ all) = ap (λ l. f gap (h a) ++ l) (behind_map (f spaced) h all)

module _ (s : Spelled) (t : Ty) (gap : List ℕ) where
  layer : (x : Const-F Const) (c : Const) → roll-Const x ≡ c → const_pieces s c t gap ≡ const_step s (map-Const Const Spelling (const_pieces s) x) t gap
  layer x c e = ap (λ (c : Const). const_pieces s c t gap) (sym e) ∙ ap (λ (f : Spelling). f t gap) (fold-roll-Const Spelling (const_step s) x)

  pub zero_is : const_pieces s const.Zero t gap ≡ zero_in gap (out-Ty (resolved s t))
  zero_is = layer Const-F.Zero const.Zero rolls-Zero

  pub int_is : (n : ℕ) → const_pieces s (const.Int n) t gap ≡ number (width_in (out-Ty (resolved s t))) gap n
  int_is n = layer (Const-F.Int n) (const.Int n) (rolls-Int n)

  pub text_is : (bytes : List ℕ) → const_pieces s (const.Str bytes) t gap ≡ piece kind.CMark gap (codes "c") ++ string glued bytes
  text_is bytes = layer (Const-F.Str bytes) (const.Str bytes) (rolls-Str bytes)

  pub array_is : (all : List Const) → const_pieces s (const.Array all) t gap
      ≡ sign gap (codes "[") ++ (with_commas (λ g c. member s g (element_in (out-Ty (resolved s t))) (const_pieces s c)) glued all ++ sign glued (codes "]"))
  array_is all = layer (Const-F.Array all) (const.Array all) (rolls-Array all)
      ∙ ap (λ l. sign gap (codes "[") ++ (l ++ sign glued (codes "]"))) (commas_over (λ g (c : Spelling). member s g (element_in (out-Ty (resolved s t))) c) (const_pieces s) glued all)

  pub struct_is : (all : List Const) → const_pieces s (const.Struct all) t gap
      ≡ in_braces gap (with_commas (λ g (field : List ℕ → List Piece). field g) spaced (typed s (map (const_pieces s) all) (fields_in (out-Ty (resolved s t)))))
  struct_is all = layer (Const-F.Struct all) (const.Struct all) (rolls-Struct all)

  pub address_is : (place : Place) → const_pieces s (const.Address place) t gap ≡ place_pieces s gap place
  address_is place = layer (Const-F.Address place) (const.Address place) (rolls-Address place)

  pub integer_is : (place : Place) → const_pieces s (const.AddressAsInt place) t gap ≡ address_as_int s gap t place
  integer_is place = layer (Const-F.AddressAsInt place) (const.AddressAsInt place) (rolls-AddressAsInt place)

  pub pointer_is : (n : ℕ) → const_pieces s (const.IntAsPtr n) t gap ≡ int_as_address gap n
  pointer_is n = layer (Const-F.IntAsPtr n) (const.IntAsPtr n) (rolls-IntAsPtr n)
