-- Whether a constant begins as a place does, and the types that are read at brackets.
use Rattle.std.proofs.Common.{◌<◌, ◌≤◌, ◌≡◌, ℕ, Bool, true, false, ◌&&◌, ◌||◌, ◌==◌, List, [], ◌∷◌, codes, drop, bytes_eq, slice_get, unwrap_or, Result, Ok, Err, suc, zero, if◌then◌else◌, refl, sym, ap, subst, ◌∙◌}
use Rattle.std.proofs.lemmas.Slice.Eq.{bytes_eq-Decides}
use Rattle.no_lex.specs.declared.token.Token.{Token}
use Rattle.no_lex.specs.declared.token.TokenKind.{TokenKind}
use Rattle.no_lex.specs.declared.token.TokenKind.TheVariants as kind
use Rattle.no_ir.specs.declared.types.Ty.{Ty, out-Ty, roll-Ty}
use Rattle.no_ir.specs.declared.types.Ty.TheOpen.{Ty-F}
use Rattle.no_ir.specs.declared.types.Ty.TheVariants as ty
use Rattle.no_ir.specs.declared.types.Ty.TheVariants.{rolls-Void, rolls-Int, rolls-Ptr, rolls-Array, rolls-Struct, rolls-Named}
use Rattle.no_ir.specs.declared.types.Ty.TheViews.{out-roll-Ty}
use Rattle.no_read_rules.specs.declared.fault.Flaw.{Flaw}
use Rattle.no_read_rules.specs.declared.fault.Flaw.TheVariants.{Syntax}
use Rattle.no_read_rules.specs.declared.types.TypeHead.{TypeHead}
use Rattle.no_read_rules.specs.declared.types.TypeHead.TheVariants as type_of
use Rattle.no_read_rules.specs.Rules.{Rule, plain}
use Rattle.no_read_rules.specs.Scope.{Meaning}
use Rattle.no_read_rules.specs.Spelled.{spelled, kind_number, is_kind, is_word}
use Rattle.no_read_rules.specs.Types.{type_head, leaf_of, array_parts, struct_parts, packed_parts, after_type_head, a_type}
use Rattle.no_read_rules.specs.Unescaped.{name_of}
use Rattle.no_read_constants.specs.Places.{symbol_named, bare_or, place_head, after_place_head, a_place, begins_place}
use Rattle.no_read_constants.specs.declared.places.PlaceHead.{PlaceHead}
use Rattle.no_read_constants.specs.Constants.{named_in, resolved, shape_in, as_int, word_const, leaf_by, leaf_head, bracket_at, as_leaf, const_by, const_head}
use Rattle.no_read_constants.specs.declared.constants.Shape.{Shape}
use Rattle.no_read_constants.specs.declared.constants.Shape.TheVariants as shape
use Rattle.no_read_constants.specs.declared.constants.LeafHead.{LeafHead}
use Rattle.no_read_constants.specs.declared.constants.ConstHead.{ConstHead}
use Rattle.no_read_constants.specs.declared.constants.ConstHead.TheVariants as head
use Rattle.no_round_trip.specs.Spells.{AreBytes, WidthFits, TypeFits, TypesFit}
use Rattle.no_round_trip.proofs.RuleOpening.{Opens, kept_value, plain_opens, then_opens}
use Rattle.no_round_trip.proofs.TypeHeads.{HeadAgain, head_again}

-- ---- places

place_first : (m : Meaning) (token : Token) (h : PlaceHead) → place_head m token ≡ Ok h → begins_place m.text token ≡ true
place_first m token h e = by (is_kind kind.Global token) (is_word m.text (codes "getelementptr") token) e
  where
    by : (g w : Bool) → bare_or (if g then Ok (symbol_named m (name_of (drop 1 (spelled m.text token)))) else Err Syntax) w ≡ Ok h → (g || w) ≡ true
    by true w k = refl
    by false true k = refl
    by false false k = absurd cc

pub place_opens : (m : Meaning) (depth : ℕ) → Opens (begins_place m.text) true (a_place m depth)
unfolding a_place
place_opens m depth = then_opens (begins_place m.text) true (plain (place_head m)) (after_place_head m depth) (plain_opens (begins_place m.text) true (place_head m) (place_first m))

-- ---- other constants

no_word : (s : Shape) (l : LeafHead) → word_const s (codes "getelementptr") ≡ Ok l → ⊥
no_word (shape.Int w) l e = by (w == 1) e
  where
    by : (b : Bool) → as_int (if b && false then Ok 1 else (if b && false then Ok 0 else Err Syntax)) ≡ Ok l → ⊥
    by true k = absurd cc
    by false k = absurd cc
no_word shape.Ptr l e = absurd cc
no_word shape.Array l e = absurd cc
no_word shape.Struct l e = absurd cc
no_word shape.Other l e = absurd cc

no_leaf : (s : Shape) (k : TokenKind) (bytes : List ℕ) (l : LeafHead) → leaf_by s k bytes ≡ Ok l → (kind_number k == kind_number kind.Global || (kind_number k == kind_number kind.Word && bytes_eq bytes (codes "getelementptr"))) ≡ false
no_leaf s kind.Word bytes l e = by (bytes_eq bytes (codes "getelementptr")) refl
  where
    by : (b : Bool) → bytes_eq bytes (codes "getelementptr") ≡ b → b ≡ false
    by true is = absurd (no_word s l (sym (ap (word_const s) ((bytes_eq-Decides bytes (codes "getelementptr")).0 is)) ∙ e))
    by false is = refl
no_leaf s kind.Global bytes l e = absurd cc
no_leaf s _ bytes l e = refl

no_bracket : (s : Shape) (k : TokenKind) (bytes : List ℕ) (h : ConstHead) → const_by s k bytes ≡ Ok h → (kind_number k == kind_number kind.Global || (kind_number k == kind_number kind.Word && bytes_eq bytes (codes "getelementptr"))) ≡ false
no_bracket s kind.Word bytes h e = by (leaf_by s kind.Word bytes) refl e
  where
    by : (r : Result LeafHead Flaw) → leaf_by s kind.Word bytes ≡ r → as_leaf r ≡ Ok h → (bytes_eq bytes (codes "getelementptr")) ≡ false
    by (Ok l) is k = no_leaf s kind.Word bytes l is
    by (Err flaw) is k = absurd cc
no_bracket s kind.Global bytes h e = absurd cc
no_bracket s _ bytes h e = refl

pub leaf_opens : (text : List ℕ) (s : Shape) → Opens {S = Unit {0}} (begins_place text) false (plain (leaf_head text s))
leaf_opens text s = plain_opens {S = Unit {0}} (begins_place text) false (leaf_head text s) (λ token l e. no_leaf s token.kind (spelled text token) l e)

pub bracket_opens : (text : List ℕ) (s : Shape) → Opens {S = Unit {0}} (begins_place text) false (plain (const_head text s))
bracket_opens text s = plain_opens {S = Unit {0}} (begins_place text) false (const_head text s) (λ token h e. no_bracket s token.kind (spelled text token) h e)

-- ---- brackets

-- what a bracket that was read says of the type: an array is read at an array's type, and a struct at a struct's
abbrev pub BracketAgain : Ty-F Ty → ConstHead → Type 0
BracketAgain (Ty-F.Array n e) head.Array = Unit {0}
BracketAgain (Ty-F.Struct p fs) head.Struct = Unit {0}
BracketAgain (Ty-F.Struct p fs) head.Packed = Unit {0}
BracketAgain x (head.Leaf l) = Unit {0}
BracketAgain x _ = ⊥

same_head : (x y : ConstHead) → (let r : Result ConstHead Flaw = Ok x in r) ≡ Ok y → x ≡ y
same_head x y e = cc

at_bracket : (x : Ty-F Ty) (bytes : List ℕ) (h : ConstHead) → bracket_at (shape_in x) bytes ≡ Ok h → BracketAgain x h
at_bracket (Ty-F.Array n f) bytes h e = by (bytes_eq bytes (codes "[")) e
  where
    by : (b : Bool) → (if b then Ok head.Array else Err Syntax) ≡ Ok h → BracketAgain (Ty-F.Array n f) h
    by true k = subst (BracketAgain (Ty-F.Array n f)) (same_head head.Array h k) tt
    by false k = absurd cc
at_bracket (Ty-F.Struct p fs) bytes h e = by (bytes_eq bytes (codes "{")) (bytes_eq bytes (codes "<")) e
  where
    by : (b c : Bool) → (if b then Ok head.Struct else (if c then Ok head.Packed else Err Syntax)) ≡ Ok h → BracketAgain (Ty-F.Struct p fs) h
    by true c k = subst (BracketAgain (Ty-F.Struct p fs)) (same_head head.Struct h k) tt
    by false true k = subst (BracketAgain (Ty-F.Struct p fs)) (same_head head.Packed h k) tt
    by false false k = absurd cc
at_bracket Ty-F.Void bytes h e = absurd cc
at_bracket (Ty-F.Int w) bytes h e = absurd cc
at_bracket Ty-F.Ptr bytes h e = absurd cc
at_bracket (Ty-F.Named n) bytes h e = absurd cc

leaf_bracket : (x : Ty-F Ty) (l : LeafHead) → BracketAgain x (head.Leaf l)
leaf_bracket Ty-F.Void l = tt
leaf_bracket (Ty-F.Int w) l = tt
leaf_bracket Ty-F.Ptr l = tt
leaf_bracket (Ty-F.Array n e) l = tt
leaf_bracket (Ty-F.Struct p fs) l = tt
leaf_bracket (Ty-F.Named n) l = tt

wrapped : (x : Ty-F Ty) (r : Result LeafHead Flaw) (h : ConstHead) → as_leaf r ≡ Ok h → BracketAgain x h
wrapped x (Ok l) h e = subst (BracketAgain x) (same_head (head.Leaf l) h e) (leaf_bracket x l)
wrapped x (Err flaw) h e = absurd cc

pub bracket_again : (x : Ty-F Ty) (k : TokenKind) (bytes : List ℕ) (h : ConstHead) → const_by (shape_in x) k bytes ≡ Ok h → BracketAgain x h
bracket_again x kind.Sign bytes h e = at_bracket x bytes h e
bracket_again x kind.Word bytes h e = wrapped x (leaf_by (shape_in x) kind.Word bytes) h e
bracket_again x kind.Integer bytes h e = wrapped x (leaf_by (shape_in x) kind.Integer bytes) h e
bracket_again x kind.CMark bytes h e = wrapped x (leaf_by (shape_in x) kind.CMark bytes) h e
bracket_again x _ bytes h e = absurd cc

unwrapped : (r : Result LeafHead Flaw) (l : LeafHead) → as_leaf r ≡ Ok (head.Leaf l) → r ≡ Ok l
unwrapped (Ok f) l e = let same : f ≡ l = cc in ap (λ (x : LeafHead). let r : Result LeafHead Flaw = Ok x in r) same
unwrapped (Err flaw) l e = absurd cc

no_sign : (s : Shape) (bytes : List ℕ) (l : LeafHead) → bracket_at s bytes ≡ Ok (head.Leaf l) → ⊥
no_sign shape.Array bytes l k = by (bytes_eq bytes (codes "[")) k
  where
    by : (b : Bool) → (if b then Ok head.Array else Err Syntax) ≡ Ok (head.Leaf l) → ⊥
    by true q = cc
    by false q = cc
no_sign shape.Struct bytes l k = by (bytes_eq bytes (codes "{")) (bytes_eq bytes (codes "<")) k
  where
    by : (b c : Bool) → (if b then Ok head.Struct else (if c then Ok head.Packed else Err Syntax)) ≡ Ok (head.Leaf l) → ⊥
    by true c q = cc
    by false true q = cc
    by false false q = cc
no_sign (shape.Int w) bytes l k = cc
no_sign shape.Ptr bytes l k = cc
no_sign shape.Other bytes l k = cc

-- a beginning without a bracket is one where brackets may stand too
pub leaf_under : (s : Shape) (k : TokenKind) (bytes : List ℕ) (l : LeafHead) → const_by s k bytes ≡ Ok (head.Leaf l) → leaf_by s k bytes ≡ Ok l
leaf_under s kind.Sign bytes l e = absurd (no_sign s bytes l e)
leaf_under s k bytes l e = unwrapped (leaf_by s k bytes) l e

-- ---- types that were read

fits_at : (x : Ty-F Ty) (t found : Ty) → found ≡ t → roll-Ty x ≡ t → WidthFits x → TypeFits found
fits_at x t found is e f = subst WidthFits (sym (ap out-Ty (is ∙ sym e) ∙ out-roll-Ty x)) f

same_type_of : (a b : Ty) → (let r : Result Ty Flaw = Ok a in r) ≡ Ok b → b ≡ a
same_type_of a b e = cc

module _ (m : Meaning) where
  flat_fits : (h : TypeHead) (t : Ty) → HeadAgain m h → leaf_of h ≡ Ok t → TypeFits t
  flat_fits (type_of.Int w) t a e = fits_at (Ty-F.Int w) (ty.Int w) t (same_type_of (ty.Int w) t e) (rolls-Int w) (a.some, a.most)
  flat_fits type_of.Ptr t a e = fits_at Ty-F.Ptr ty.Ptr t (same_type_of ty.Ptr t e) rolls-Ptr tt
  flat_fits (type_of.Named n) t a e = fits_at (Ty-F.Named n) (ty.Named n) t (same_type_of (ty.Named n) t e) (rolls-Named n) tt
  flat_fits type_of.Array t a e = absurd cc
  flat_fits type_of.Struct t a e = absurd cc
  flat_fits type_of.Packed t a e = absurd cc

  array_fits : (inner : Rule (Unit {0}) Ty) (tokens : List Token) (t : Ty) → (array_parts m inner).means tt tokens t tt → TypeFits t
  unfolding array_parts
  array_fits inner tokens t r = fits_at (Ty-F.Array r.first r.in_back.in_back.first) (ty.Array r.first r.in_back.in_back.first) t r.in_back.in_back.in_back.in_back.1 (rolls-Array r.first r.in_back.in_back.first) tt

  struct_fits : (inner : Rule (Unit {0}) Ty) (tokens : List Token) (t : Ty) → (struct_parts m inner).means tt tokens t tt → TypeFits t
  unfolding struct_parts
  struct_fits inner tokens t r = fits_at (Ty-F.Struct false r.first) (ty.Struct false r.first) t r.in_back.1 (rolls-Struct false r.first) tt

  packed_fits : (inner : Rule (Unit {0}) Ty) (tokens : List Token) (t : Ty) → (packed_parts m inner).means tt tokens t tt → TypeFits t
  unfolding packed_parts
  packed_fits inner tokens t r = fits_at (Ty-F.Struct true r.in_back.first) (ty.Struct true r.in_back.first) t r.in_back.in_back.in_back.1 (rolls-Struct true r.in_back.first) tt

  rest_fits : (inner : Rule (Unit {0}) Ty) (h : TypeHead) (tokens : List Token) (t : Ty) → HeadAgain m h → (after_type_head m inner h).means tt tokens t tt → TypeFits t
  rest_fits inner (type_of.Int w) tokens t a r = fits_at (Ty-F.Int w) (ty.Int w) t r.1 (rolls-Int w) (a.some, a.most)
  rest_fits inner type_of.Ptr tokens t a r = fits_at Ty-F.Ptr ty.Ptr t r.1 rolls-Ptr tt
  rest_fits inner (type_of.Named n) tokens t a r = fits_at (Ty-F.Named n) (ty.Named n) t r.1 (rolls-Named n) tt
  rest_fits inner type_of.Array tokens t a r = array_fits inner tokens t r
  rest_fits inner type_of.Struct tokens t a r = struct_fits inner tokens t r
  rest_fits inner type_of.Packed tokens t a r = packed_fits inner tokens t r

  -- a type that was read fits
  pub read_fits : (depth : ℕ) (tokens : List Token) (t : Ty) → AreBytes m.text → (a_type m depth).means tt tokens t tt → TypeFits t
  unfolding a_type
  read_fits zero tokens t bytes r = flat_fits r.value t (head_again m bytes r.read.token r.value (kept_value tt (type_head m r.read.token) r.value tt r.read.value)) r.passes
  read_fits (suc depth) tokens t bytes r =
      rest_fits (a_type m depth) r.first r.back t (head_again m bytes r.in_front.token r.first (kept_value tt (type_head m r.in_front.token) r.first tt r.in_front.value)) r.in_back

  there_fits : (types : List Ty) (n : ℕ) (t : Ty) → TypesFit types → TypeFits t → TypeFits (unwrap_or (slice_get types n) t)
  there_fits [] n t all fits = fits
  there_fits (u ∷ types) zero t all fits = all.0
  there_fits (u ∷ types) (suc n) t all fits = there_fits types n t all.1 fits

  -- what a type that fits names fits
  pub resolved_fits : (t : Ty) → TypesFit m.types → TypeFits t → TypeFits (resolved m t)
  resolved_fits t all fits = by (out-Ty t)
    where
      by : (x : Ty-F Ty) → TypeFits (named_in t m.types x)
      by (Ty-F.Named n) = there_fits m.types n t all fits
      by _ = fits

-- types that the text names by themselves
pub int_fits : (w : ℕ) → 0 < w → w ≤ 64 → TypeFits (ty.Int w)
int_fits w some most = fits_at (Ty-F.Int w) (ty.Int w) (ty.Int w) refl (rolls-Int w) (some, most)

pub ptr_fits : TypeFits ty.Ptr
ptr_fits = fits_at Ty-F.Ptr ty.Ptr ty.Ptr refl rolls-Ptr tt

pub void_fits : TypeFits ty.Void
void_fits = fits_at Ty-F.Void ty.Void ty.Void refl rolls-Void tt
