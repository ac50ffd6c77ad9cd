-- A type that was read is read again where it is spelled.
use Rattle.std.proofs.Common.{◌≡◌, ℕ, suc, zero, ◌<◌, ◌^◌, true, false, List, [], ◌∷◌, ◌++◌, decimal, codes, Result, Ok, Err, refl, sym, ap, subst, ◌∙◌, append-nil}
use Rattle.no_lex.specs.declared.token.Token.{Token}
use Rattle.no_ir.specs.declared.types.Ty.{Ty}
use Rattle.no_ir.specs.declared.types.Ty.TheVariants as ty
use Rattle.no_read_rules.specs.declared.fault.Flaw.{Flaw}
use Rattle.no_read_rules.specs.declared.fault.Flaw.TheVariants.{Syntax}
use Rattle.no_read_rules.specs.declared.types.TypeHead.{TypeHead}
use Rattle.no_read_rules.specs.declared.types.TypeHead.TheVariants as head
use Rattle.no_read_rules.specs.Lists.{items}
use Rattle.no_read_rules.specs.Rules.{Rule, plain, done, ◌>>=◌, checked, IsSolid}
use Rattle.no_read_rules.specs.Scope.{Meaning}
use Rattle.no_read_rules.specs.Spelled.{is_sign, a_word, a_sign}
use Rattle.no_read_rules.specs.Types.{sign_type, type_head, leaf_of, count_token, array_parts, struct_parts, packed_parts, after_type_head, a_type, must_be}
use Rattle.no_read_rules.proofs.TypeLaws.{type_solid}
use Rattle.no_print.specs.Pieces.{Piece, glued, spaced, word, sign, integer, behind_commas, with_commas}
use Rattle.no_print.specs.Types.{in_braces, type_pieces}
use Rattle.no_round_trip.specs.Spells.{AreBytes, Spells, Again, over}
use Rattle.no_round_trip.proofs.RuleFrame.{then_spells, made_spells, checked_spells, done_spells}
use Rattle.no_round_trip.proofs.RuleItems.{ItemsAre, items_are, items_again}
use Rattle.no_round_trip.proofs.RuleListing.{IsClose, word_spells, sign_spells}
use Rattle.no_round_trip.proofs.RuleOpening.{Opens, kept_value, plain_opens, checked_opens, then_opens}
use Rattle.no_round_trip.proofs.TypeSame.{must_again}
use Rattle.no_round_trip.proofs.TypeHeads.{head_again, head_pieces, head_spells, head_no_sign, count_small, count_spells}
use Rattle.no_round_trip.proofs.TypePieces.{int_pieces, ptr_pieces, named_pieces, array_is, struct_is}

-- ---- how types begin

pub type_opens : (m : Meaning) (depth : ℕ) (close : List ℕ) → sign_type close ≡ Err Syntax → Opens (is_sign m.text close) false (a_type m depth)
unfolding a_type
type_opens m zero close r = checked_opens (is_sign m.text close) false (plain (type_head m)) leaf_of (plain_opens (is_sign m.text close) false (type_head m) (head_no_sign m close r))
type_opens m (suc depth) close r =
    then_opens (is_sign m.text close) false (plain (type_head m)) (after_type_head m (a_type m depth)) (plain_opens (is_sign m.text close) false (type_head m) (head_no_sign m close r))

pub brace : IsClose (codes "}")
brace = record { same = refl; other = refl }

-- ---- braces

-- what a rule that takes a token spells has a piece
pub record HasPiece (pieces : List Piece) : Type 0 where
  pub first : Piece
  pub others : List Piece
  pub is : pieces ≡ first ∷ others

pub has_piece : {S A : Type 0} (text : List ℕ) (p : Rule S A) (s t : S) (a : A) (pieces : List Piece) → IsSolid p → Spells text p s pieces a t → HasPiece pieces
has_piece text p s t a [] solid h = absurd (solid s t a (h [] tt))
has_piece text p s t a (q ∷ pieces) solid h = record { first = q; others = pieces; is = refl }

braces_filled : (gap : List ℕ) (pieces rest : List Piece) → HasPiece pieces → in_braces gap (pieces ++ rest) ≡ sign gap (codes "{") ++ ((pieces ++ rest) ++ sign spaced (codes "}"))
braces_filled gap pieces rest h = rw h.is refl

-- the blanks in front of the closing brace
abbrev pub brace_gap : {A : Type 0} → List A → List ℕ
brace_gap [] = glued
brace_gap (a ∷ all) = spaced

-- the first of a list has a piece
abbrev pub FirstHas : {A : Type 0} → (List ℕ → A → List Piece) → List A → Type 0
FirstHas f [] = Unit {0}
FirstHas f (a ∷ all) = HasPiece (f spaced a)

pub braces_are : {A : Type 0} (gap : List ℕ) (f : List ℕ → A → List Piece) (all : List A) → FirstHas f all
    → in_braces gap (with_commas f spaced all) ≡ sign gap (codes "{") ++ (with_commas f spaced all ++ sign (brace_gap all) (codes "}"))
braces_are gap f [] h = refl
braces_are gap f (a ∷ all) h = braces_filled gap (f spaced a) (behind_commas (f spaced) all) h

-- ---- forms

same_type_of : (a b : Ty) → (let r : Result Ty Flaw = Ok a in r) ≡ Ok b → a ≡ b
same_type_of a b e = cc

abbrev pub Units : Unit {0} → Unit {0} → Type 0
Units s z = Unit {0}

module _ (m : Meaning) (text : List ℕ) (bytes : AreBytes m.text) where
  abbrev Inner : ℕ → Type 0
  Inner depth = (gap : List ℕ) → Again Units text (a_type m depth) (a_type (over m text) depth) (λ t. type_pieces m.named t gap)

  -- an array, behind its bracket
  array_spells : (depth n : ℕ) (element : Ty) → n < 2 ^ 32 → Spells text (a_type (over m text) depth) tt (type_pieces m.named element spaced) element tt
      → Spells text (array_parts (over m text) (a_type (over m text) depth)) tt
      (integer glued (decimal n) ++ (word spaced (codes "x") ++ (type_pieces m.named element spaced ++ sign glued (codes "]")))) (ty.Array n element) tt
  unfolding array_parts
  array_spells depth n element small inner =
      then_spells text (plain (count_token text)) (λ n. a_word text (codes "x") >>= λ _. a_type (over m text) depth >>= λ element. a_sign text (codes "]") >>= λ _. done (ty.Array n element)) tt tt tt
      (integer glued (decimal n)) (word spaced (codes "x") ++ (type_pieces m.named element spaced ++ sign glued (codes "]"))) n (ty.Array n element)
      (count_spells text glued n small)
      (then_spells text (a_word text (codes "x")) (λ _. a_type (over m text) depth >>= λ element. a_sign text (codes "]") >>= λ _. done (ty.Array n element)) tt tt tt
      (word spaced (codes "x")) (type_pieces m.named element spaced ++ sign glued (codes "]")) tt (ty.Array n element)
      (word_spells text spaced tt (codes "x") refl)
      (then_spells text (a_type (over m text) depth) (λ element. a_sign text (codes "]") >>= λ _. done (ty.Array n element)) tt tt tt
      (type_pieces m.named element spaced) (sign glued (codes "]")) element (ty.Array n element) inner
      (then_spells text (a_sign text (codes "]")) (λ _. done (ty.Array n element)) tt tt tt (sign glued (codes "]")) [] tt (ty.Array n element)
      (sign_spells text glued tt (codes "]") refl) (done_spells text tt (ty.Array n element)))))

  array_again : (depth : ℕ) (inner : Inner depth) (tokens : List Token) (t : Ty) → (array_parts m (a_type m depth)).means tt tokens t tt
      → (n : ℕ) × (element : Ty) × (t ≡ ty.Array n element) × Spells text (array_parts (over m text) (a_type (over m text) depth)) tt
      (integer glued (decimal n) ++ (word spaced (codes "x") ++ (type_pieces m.named element spaced ++ sign glued (codes "]")))) (ty.Array n element) tt
  unfolding array_parts
  array_again depth inner tokens t r =
      let n : ℕ = r.first in
      let e = r.in_back.in_back in
      let element : Ty = e.first in
      let small : n < 2 ^ 32 = count_small m.text r.in_front.token n (kept_value tt (count_token m.text r.in_front.token) n tt r.in_front.value) in
      (n, element, e.in_back.in_back.1, array_spells depth n element small (inner spaced tt tt tt e.front element tt e.in_front).2)

  -- fields, from behind the opening brace
  fields_again : (depth : ℕ) (inner : Inner depth) (tokens : List Token) (all : List Ty) → (items m.text (codes "}") (a_type m depth)).means tt tokens all tt
      → Spells text (items text (codes "}") (a_type (over m text) depth)) tt (with_commas (λ gap t. type_pieces m.named t gap) spaced all ++ sign (brace_gap all) (codes "}")) all tt
  fields_again depth inner tokens all r =
      (items_again Units m.text text (codes "}") (a_type m depth) (a_type (over m text) depth) (λ gap t. type_pieces m.named t gap) brace inner
      (type_opens (over m text) depth (codes "}") refl) spaced (brace_gap all) tt tt tt tokens all tt r).2

  -- the first field has a piece
  field_pieces : (depth : ℕ) (inner : Inner depth) (tokens : List Token) (all : List Ty) → (items m.text (codes "}") (a_type m depth)).means tt tokens all tt → FirstHas (λ gap t. type_pieces m.named t gap) all
  field_pieces depth inner tokens all r = by all (items_are m.text (codes "}") (a_type m depth) tt tt tokens all r)
    where
      by : (all : List Ty) → ItemsAre m.text (codes "}") (a_type m depth) tt all tt → FirstHas (λ gap t. type_pieces m.named t gap) all
      by [] i = tt
      by (t ∷ others) i = has_piece text (a_type (over m text) depth) tt tt t (type_pieces m.named t spaced) (type_solid (over m text) depth) (inner spaced tt tt tt i.used t tt i.first).2

  abbrev fields_of : List Ty → List Piece
  fields_of all = with_commas (λ gap t. type_pieces m.named t gap) spaced all

  -- fields in braces, with what a struct's rule behind the opening brace spells
  struct_again : (depth : ℕ) (inner : Inner depth) (tokens : List Token) (t : Ty) → (struct_parts m (a_type m depth)).means tt tokens t tt
      → (all : List Ty) × (t ≡ ty.Struct false all) × ((gap : List ℕ) → in_braces gap (fields_of all) ≡ sign gap (codes "{") ++ (fields_of all ++ sign (brace_gap all) (codes "}")))
      × Spells text (struct_parts (over m text) (a_type (over m text) depth)) tt (fields_of all ++ sign (brace_gap all) (codes "}")) (ty.Struct false all) tt
  unfolding struct_parts
  struct_again depth inner tokens t r =
      let all : List Ty = r.first in (
        all,
        r.in_back.1,
        λ gap. braces_are gap (λ gap t. type_pieces m.named t gap) all (field_pieces depth inner r.front all r.in_front),
        made_spells text (items text (codes "}") (a_type (over m text) depth)) (λ fields. ty.Struct false fields) tt tt (fields_of all ++ sign (brace_gap all) (codes "}")) all (fields_again depth inner r.front all r.in_front),
      )

  packed_again : (depth : ℕ) (inner : Inner depth) (tokens : List Token) (t : Ty) → (packed_parts m (a_type m depth)).means tt tokens t tt
      → (all : List Ty) × (t ≡ ty.Struct true all) × Spells text (packed_parts (over m text) (a_type (over m text) depth)) tt (in_braces glued (fields_of all) ++ sign glued (codes ">")) (ty.Struct true all) tt
  unfolding packed_parts
  packed_again depth inner tokens t r =
      let list = r.in_back in
      let all : List Ty = list.first in
      let close : List Piece = sign (brace_gap all) (codes "}") in
      let braces = braces_are glued (λ gap t. type_pieces m.named t gap) all (field_pieces depth inner list.front all list.in_front) in
      let angle = then_spells text (a_sign text (codes ">")) (λ _. done (ty.Struct true all)) tt tt tt (sign glued (codes ">")) [] tt (ty.Struct true all) (sign_spells text glued tt (codes ">") refl) (done_spells text tt (ty.Struct true all)) in
      let listed = then_spells text (items text (codes "}") (a_type (over m text) depth)) (λ fields. a_sign text (codes ">") >>= λ _. done (ty.Struct true fields)) tt tt tt
      (fields_of all ++ close) (sign glued (codes ">")) all (ty.Struct true all) (fields_again depth inner list.front all list.in_front) angle in
      let whole = then_spells text (a_sign text (codes "{")) (λ _. items text (codes "}") (a_type (over m text) depth) >>= λ fields. a_sign text (codes ">") >>= λ _. done (ty.Struct true fields)) tt tt tt
      (sign glued (codes "{")) ((fields_of all ++ close) ++ sign glued (codes ">")) tt (ty.Struct true all) (sign_spells text glued tt (codes "{") refl) listed in
      (all, list.in_back.in_back.1, subst (λ l. Spells text (packed_parts (over m text) (a_type (over m text) depth)) tt (l ++ sign glued (codes ">")) (ty.Struct true all) tt) (sym braces) whole)

  -- ---- whole types

  leaf_again : (gap : List ℕ) (h : TypeHead) (t : Ty) → leaf_of h ≡ Ok t → type_pieces m.named t gap ≡ head_pieces m gap h
  leaf_again gap (head.Int w) t e = ap (λ (t : Ty). type_pieces m.named t gap) (sym (same_type_of (ty.Int w) t e)) ∙ int_pieces m.named gap w
  leaf_again gap head.Ptr t e = ap (λ (t : Ty). type_pieces m.named t gap) (sym (same_type_of ty.Ptr t e)) ∙ ptr_pieces m.named gap
  leaf_again gap (head.Named n) t e = ap (λ (t : Ty). type_pieces m.named t gap) (sym (same_type_of (ty.Named n) t e)) ∙ named_pieces m.named gap n
  leaf_again gap head.Array t e = absurd cc
  leaf_again gap head.Struct t e = absurd cc
  leaf_again gap head.Packed t e = absurd cc

  abbrev flat : Meaning → Rule (Unit {0}) Ty
  flat n = checked (plain (type_head n)) leaf_of

  flat_again : (gap : List ℕ) (tokens : List Token) (t : Ty) → (flat m).means tt tokens t tt → Spells text (flat (over m text)) tt (type_pieces m.named t gap) t tt
  flat_again gap tokens t r =
      let head_is = head_again m bytes r.read.token r.value (kept_value tt (type_head m r.read.token) r.value tt r.read.value) in
      subst (λ l. Spells text (flat (over m text)) tt l t tt) (sym (leaf_again gap r.value t r.passes))
      (checked_spells text (plain (type_head (over m text))) leaf_of tt tt (head_pieces m gap r.value) r.value t (head_spells m text gap r.value head_is) r.passes)

  -- what stands behind the beginning of a type
  record RestAgain (depth : ℕ) (h : TypeHead) (t : Ty) : Type 0 where
    pub pieces : List Piece
    pub are : (gap : List ℕ) → type_pieces m.named t gap ≡ head_pieces m gap h ++ pieces
    pub spells : Spells text (after_type_head (over m text) (a_type (over m text) depth) h) tt pieces t tt

  named_rest : (depth : ℕ) (h : TypeHead) (found t : Ty) → t ≡ found → ((gap : List ℕ) → type_pieces m.named found gap ≡ head_pieces m gap h)
      → Spells {S = Unit {0}} text (done found) tt [] found tt → (pieces : List Piece) × ((gap : List ℕ) → type_pieces m.named t gap ≡ head_pieces m gap h ++ pieces) × Spells {S = Unit {0}} text (done found) tt pieces t tt
  named_rest depth h found t is are spells =
      let both : (t : Ty) → t ≡ found → (pieces : List Piece) × ((gap : List ℕ) → type_pieces m.named t gap ≡ head_pieces m gap h ++ pieces) × Spells {S = Unit {0}} text (done found) tt pieces t tt = λ t e.
      ([], λ gap. ap (λ (u : Ty). type_pieces m.named u gap) e ∙ are gap ∙ sym (append-nil (head_pieces m gap h)), subst (λ u. Spells {S = Unit {0}} text (done found) tt [] u tt) (sym e) spells) in
      both t is

  rest_again : (depth : ℕ) (inner : Inner depth) (h : TypeHead) (tokens : List Token) (t : Ty) → (after_type_head m (a_type m depth) h).means tt tokens t tt → RestAgain depth h t
  rest_again depth inner (head.Int w) tokens t r =
      let x = named_rest depth (head.Int w) (ty.Int w) t r.1 (λ gap. int_pieces m.named gap w) (done_spells text tt (ty.Int w)) in record { pieces = x.0; are = x.1; spells = x.2 }
  rest_again depth inner head.Ptr tokens t r =
      let x = named_rest depth head.Ptr ty.Ptr t r.1 (λ gap. ptr_pieces m.named gap) (done_spells text tt ty.Ptr) in record { pieces = x.0; are = x.1; spells = x.2 }
  rest_again depth inner (head.Named n) tokens t r =
      let x = named_rest depth (head.Named n) (ty.Named n) t r.1 (λ gap. named_pieces m.named gap n) (done_spells text tt (ty.Named n)) in record { pieces = x.0; are = x.1; spells = x.2 }
  rest_again depth inner head.Array tokens t r =
      let x = array_again depth inner tokens t r in
      record {
        pieces = integer glued (decimal x.0) ++ (word spaced (codes "x") ++ (type_pieces m.named x.1 spaced ++ sign glued (codes "]")));
        are = λ gap. ap (λ (u : Ty). type_pieces m.named u gap) x.2 ∙ array_is m.named gap x.0 x.1;
        spells = subst (λ u. Spells text (array_parts (over m text) (a_type (over m text) depth)) tt (integer glued (decimal x.0) ++ (word spaced (codes "x") ++ (type_pieces m.named x.1 spaced ++ sign glued (codes "]")))) u tt) (sym x.2) x.3;
      }
  rest_again depth inner head.Struct tokens t r =
      let x = struct_again depth inner tokens t r in
      record {
        pieces = fields_of x.0 ++ sign (brace_gap x.0) (codes "}");
        are = λ gap. ap (λ (u : Ty). type_pieces m.named u gap) x.1 ∙ struct_is m.named gap false x.0 ∙ x.2 gap;
        spells = subst (λ u. Spells text (struct_parts (over m text) (a_type (over m text) depth)) tt (fields_of x.0 ++ sign (brace_gap x.0) (codes "}")) u tt) (sym x.1) x.3;
      }
  rest_again depth inner head.Packed tokens t r =
      let x = packed_again depth inner tokens t r in
      record {
        pieces = in_braces glued (fields_of x.0) ++ sign glued (codes ">");
        are = λ gap. ap (λ (u : Ty). type_pieces m.named u gap) x.1 ∙ struct_is m.named gap true x.0;
        spells = subst (λ u. Spells text (packed_parts (over m text) (a_type (over m text) depth)) tt (in_braces glued (fields_of x.0) ++ sign glued (codes ">")) u tt) (sym x.1) x.2;
      }

  pub type_again : (depth : ℕ) → Inner depth
  unfolding a_type
  type_again zero gap s z t tokens ty like r = (tt, tt, flat_again gap tokens ty r)
  type_again (suc depth) gap s z t tokens ty like r =
      let head_is = head_again m bytes r.in_front.token r.first (kept_value tt (type_head m r.in_front.token) r.first tt r.in_front.value) in
      let x = rest_again depth (type_again depth) r.first r.back ty r.in_back in (
        tt,
        tt,
        subst (λ l. Spells text (plain (type_head (over m text)) >>= after_type_head (over m text) (a_type (over m text) depth)) tt l ty tt) (sym (x.are gap))
            (then_spells text (plain (type_head (over m text))) (after_type_head (over m text) (a_type (over m text) depth)) tt tt tt (head_pieces m gap r.first) x.pieces r.first ty (head_spells m text gap r.first head_is) x.spells),
      )

  -- a type that has to be another
  pub same_again : (depth : ℕ) (want : Ty) (gap : List ℕ) (tokens : List Token) → (checked (a_type m depth) (must_be want)).means tt tokens tt tt
      → Spells text (checked (a_type (over m text) depth) (must_be want)) tt (type_pieces m.named want gap) tt tt
  same_again depth want gap tokens r =
      let x = must_again want r.value r.passes in
      checked_spells text (a_type (over m text) depth) (must_be want) tt tt (type_pieces m.named want gap) want tt (type_again depth gap tt tt tt tokens want tt (subst (λ u. (a_type m depth).means tt tokens u tt) x.0 r.read)).2 x.1
