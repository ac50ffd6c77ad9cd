-- A constant that was read is read again where it is spelled.
use Rattle.std.proofs.Common.{◌≡◌, ℕ, suc, zero, ◌<◌, ◌≤◌, ◌^◌, Bool, true, false, List, [], ◌∷◌, ◌++◌, map, codes, Option, Some, None, Result, Ok, Err, ◌⊎◌, inl, inr, if◌then◌else◌, refl, sym, ap, subst, ◌∙◌, append_assoc, append-nil, pow_mono, lt_of_lt_of_le, ◌==◌}
use Rattle.std.specs.Fmt.{signed_decimal}
use Rattle.no_lex.specs.declared.token.Token.{Token}
use Rattle.no_lex.specs.declared.token.TokenKind.TheVariants as kind
use Rattle.no_ir.specs.declared.types.Ty.{Ty, out-Ty}
use Rattle.no_ir.specs.declared.types.Ty.TheOpen.{Ty-F}
use Rattle.no_ir.specs.declared.constant.Const.{Const}
use Rattle.no_ir.specs.declared.constant.Const.TheVariants as const
use Rattle.no_ir.specs.declared.constant.Place.{Place}
use Rattle.no_read_rules.specs.declared.fault.Flaw.{Flaw}
use Rattle.no_read_rules.specs.declared.fault.Flaw.TheVariants.{Syntax}
use Rattle.no_read_rules.specs.Lists.{closes_list, items}
use Rattle.no_read_rules.specs.Rules.{Rule, plain, done, ◌>>=◌, checked, choose, if_next, IsSolid}
use Rattle.no_read_rules.specs.Scope.{Meaning}
use Rattle.no_read_rules.specs.Spelled.{spelled, kind_number, is_kind, is_sign}
use Rattle.no_read_rules.specs.Types.{a_type, must_be, sign_type}
use Rattle.no_read_rules.specs.Unescaped.{unescaped, inner}
use Rattle.no_read_rules.proofs.Laws.{first_solid, checked_solid}
use Rattle.no_read_rules.proofs.TypeLaws.{type_solid}
use Rattle.no_read_constants.specs.Places.{width_of, number_at, number_by, a_place, begins_place}
use Rattle.no_read_constants.specs.Constants.{named_in, resolved, shape_in, shape_of, element_in, fields_in, leaf_head, const_by, const_head, text_of, ptr_to_int, int_to_ptr, after_leaf, address, member, next_field, end_or, more_fields, some_fields, no_fields, fields, array_const, struct_const, packed_const, after_head, flat_const, bracket_const, a_const}
use Rattle.no_read_constants.specs.declared.constants.LeafHead.{LeafHead}
use Rattle.no_read_constants.specs.declared.constants.LeafHead.TheVariants as leaf
use Rattle.no_read_constants.specs.declared.constants.ConstHead.{ConstHead}
use Rattle.no_read_constants.specs.declared.constants.ConstHead.TheVariants as head
use Rattle.no_eval.specs.Numbers.{signed}
use Rattle.no_print.specs.Names.{quoted, string, number, int_type}
use Rattle.no_print.specs.Pieces.{Piece, glued, spaced, word, sign, integer, comma, behind_commas, with_commas}
use Rattle.no_print.specs.Types.{type_pieces, in_braces}
use Rattle.no_print.specs.Constants.{place_pieces, int_as_address, address_as_int, typed, const_pieces}
use Rattle.no_print.specs.Constants as print
use Rattle.no_round_trip.specs.Spells.{AreBytes, Spells, Again, over, spelled_by, WidthFits, TypeFits, TypesFit}
use Rattle.no_round_trip.proofs.WordBytes.{bytes_string, bytes_spelled}
use Rattle.no_round_trip.proofs.ConstFirst.{place_opens, leaf_opens, bracket_opens, BracketAgain, bracket_again, leaf_under, read_fits, resolved_fits}
use Rattle.no_round_trip.proofs.ConstHeads.{LeafAgain, leaf_again, leaf_first, flat_spells, bracket_spells}
use Rattle.no_round_trip.proofs.ConstPieces.{zero_is, int_is, text_is, array_is, struct_is, address_is, integer_is, pointer_is}
use Rattle.no_round_trip.proofs.RuleFrame.{plain_spells, done_spells, then_spells, made_spells, yes_spells, no_spells}
use Rattle.no_round_trip.proofs.RuleItems.{some_none, some_some, items_again}
use Rattle.no_round_trip.proofs.RuleListing.{IsClose, word_spells, sign_spells, closes, goes_on}
use Rattle.no_names.proofs.Again.{string_again}
use Rattle.no_round_trip.proofs.WordNumbers.{integer_again}
use Rattle.no_round_trip.proofs.RuleOpening.{Opens, begins_by, begins_alone, kept_value, then_opens, checked_opens}
use Rattle.no_round_trip.proofs.ConstPlaces.{number_small, width_small, width_spells, place_again}
use Rattle.no_round_trip.proofs.TypeSame.{must_again}
use Rattle.no_round_trip.proofs.RuleStanding.{Begins, begins, sign_tested}
use Rattle.no_round_trip.proofs.TypeAgain.{Units, has_piece, FirstHas, brace, brace_gap, braces_are, type_opens, same_again}
use Rattle.no_round_trip.proofs.WordWidths.{IsWidth, full}

square : IsClose (codes "]")
square = record { same = refl; other = refl }

-- ---- a named type counts as what it names, for reading and for spelling

pub resolved_same : (m : Meaning) (t : Ty) → print.resolved (spelled_by m) t ≡ resolved m t
resolved_same m t = by (out-Ty t)
  where
    by : (x : Ty-F Ty) → print.named_in (spelled_by m) t x ≡ named_in t m.types x
    by (Ty-F.Named n) = refl
    by _ = refl

module _ (m : Meaning) (text : List ℕ) (bytes : AreBytes m.text) where
  -- ---- constants without brackets

  -- what stands behind the beginning
  record RestAgain (depth : ℕ) (t : Ty) (l : LeafHead) (c : Const) : Type 0 where
    pub pieces : List Piece
    pub are : (gap : List ℕ) → const_pieces (spelled_by m) c t gap ≡ leaf_first (out-Ty (resolved m t)) gap l ++ pieces
    pub spells : Spells text (after_leaf (over m text) depth t l) tt pieces c tt

  text_again : (depth : ℕ) (t : Ty) (tokens : List Token) (c : Const) → (plain {S = Unit {0}} (text_of m.text)).means tt tokens c tt → RestAgain depth t leaf.Text c
  text_again depth t tokens c r = by (is_kind kind.Quoted r.token) (kept_value tt (text_of m.text r.token) c tt r.value)
    where
      found : List ℕ
      found = unescaped (inner (spelled m.text r.token))

      back : unescaped (inner (quoted found)) ≡ found
      back = string_again found (bytes_string (spelled m.text r.token) (bytes_spelled m.text r.token bytes))

      there : RestAgain depth t leaf.Text (const.Str found)
      there = record {
        pieces = string glued found;
        are = λ gap. text_is (spelled_by m) t gap found;
        spells = plain_spells {S = Unit {0}} text (λ k spelling. if kind_number k == kind_number kind.Quoted then Ok (const.Str (unescaped (inner spelling))) else Err Syntax) tt
            (record { gap = glued; kind = kind.Quoted; bytes = quoted found }) (const.Str found) (ap (λ (l : List ℕ). let r : Result Const Flaw = Ok (const.Str l) in r) back);
      }

      same : (x y : Const) → (let r : Result Const Flaw = Ok x in r) ≡ Ok y → x ≡ y
      same x y e = cc

      by : (b : Bool) → (if b then Ok (const.Str found) else Err Syntax) ≡ Ok c → RestAgain depth t leaf.Text c
      by true e = subst (RestAgain depth t leaf.Text) (same (const.Str found) c e) there
      by false e = absurd cc

  pointer_spells : (depth : ℕ) (t : Ty) (place : Place) → Spells text (a_place (over m text) depth) tt (place_pieces (spelled_by m) spaced place) place tt
      → Spells text (checked (a_type (over m text) depth) (must_be t)) tt (type_pieces m.named t spaced) tt tt
      → Spells text (ptr_to_int (over m text) depth t) tt (sign spaced (codes "(") ++ (word glued (codes "ptr") ++ (place_pieces (spelled_by m) spaced place
      ++ (word spaced (codes "to") ++ (type_pieces m.named t spaced ++ sign glued (codes ")")))))) (const.AddressAsInt place) tt
  unfolding ptr_to_int
  pointer_spells depth t place placed typed =
      let c : Const = const.AddressAsInt place in
      let five : List Piece = type_pieces m.named t spaced ++ sign glued (codes ")") in
      let four : List Piece = word spaced (codes "to") ++ five in
      let three : List Piece = place_pieces (spelled_by m) spaced place ++ four in
      then_spells text _ _ tt tt tt (sign spaced (codes "(")) (word glued (codes "ptr") ++ three) tt c (sign_spells text spaced tt (codes "(") refl)
      (then_spells text _ _ tt tt tt (word glued (codes "ptr")) three tt c (word_spells text glued tt (codes "ptr") refl)
      (then_spells text _ _ tt tt tt (place_pieces (spelled_by m) spaced place) four place c placed
      (then_spells text _ _ tt tt tt (word spaced (codes "to")) five tt c (word_spells text spaced tt (codes "to") refl)
      (then_spells text _ _ tt tt tt (type_pieces m.named t spaced) (sign glued (codes ")")) tt c typed
      (then_spells text _ _ tt tt tt (sign glued (codes ")")) [] tt c (sign_spells text glued tt (codes ")") refl) (done_spells text tt c))))))

  pointer_again : (depth : ℕ) (t : Ty) (tokens : List Token) (c : Const) → (ptr_to_int m depth t).means tt tokens c tt → RestAgain depth t leaf.PtrToInt c
  unfolding ptr_to_int
  pointer_again depth t tokens c r =
      let placed = r.in_back.in_back in
      let typed = placed.in_back.in_back in
      let place : Place = placed.first in
      let is : c ≡ const.AddressAsInt place = typed.in_back.in_back.1 in
      let spelled_place = (place_again m text bytes depth spaced tt tt tt placed.front place tt placed.in_front).2 in
      let spelled_type = same_again m text bytes depth t spaced typed.front typed.in_front in
      subst (RestAgain depth t leaf.PtrToInt) (sym is) (record {
        pieces = sign spaced (codes "(") ++ (word glued (codes "ptr") ++ (place_pieces (spelled_by m) spaced place ++ (word spaced (codes "to") ++ (type_pieces m.named t spaced ++ sign glued (codes ")")))));
        are = λ gap. integer_is (spelled_by m) t gap place;
        spells = pointer_spells depth t place spelled_place spelled_type;
      })

  integer_spells : (n : ℕ) → n < 2 ^ 64 → Spells text (int_to_ptr (over m text)) tt (sign spaced (codes "(") ++ (int_type glued 64 ++ (integer spaced (signed_decimal (signed 64 n))
      ++ (word spaced (codes "to") ++ (word spaced (codes "ptr") ++ sign glued (codes ")")))))) (const.IntAsPtr n) tt
  unfolding int_to_ptr
  integer_spells n small =
      let c : Const = const.IntAsPtr n in
      let four : List Piece = word spaced (codes "ptr") ++ sign glued (codes ")") in
      let three : List Piece = word spaced (codes "to") ++ four in
      let digits : List Piece = integer spaced (signed_decimal (signed 64 n)) in
      then_spells text _ _ tt tt tt (sign spaced (codes "(")) (int_type glued 64 ++ (digits ++ three)) tt c (sign_spells text spaced tt (codes "(") refl)
      (then_spells text _ _ tt tt tt (int_type glued 64) (digits ++ three) 64 c (width_spells text glued 64 full)
      (then_spells text _ _ tt tt tt digits three n c (plain_spells {S = Unit {0}} text (number_by 64) tt (record { gap = spaced; kind = kind.Integer; bytes = signed_decimal (signed 64 n) }) n (integer_again 64 n full.some full.most small))
      (then_spells text _ _ tt tt tt (word spaced (codes "to")) four tt c (word_spells text spaced tt (codes "to") refl)
      (then_spells text _ _ tt tt tt (word spaced (codes "ptr")) (sign glued (codes ")")) tt c (word_spells text spaced tt (codes "ptr") refl)
      (then_spells text _ _ tt tt tt (sign glued (codes ")")) [] tt c (sign_spells text glued tt (codes ")") refl) (done_spells text tt c))))))

  integer_pointer : (depth : ℕ) (t : Ty) (tokens : List Token) (c : Const) → (int_to_ptr m).means tt tokens c tt → RestAgain depth t leaf.IntToPtr c
  unfolding int_to_ptr
  integer_pointer depth t tokens c r =
      let sized = r.in_back in
      let counted = sized.in_back in
      let w : ℕ = sized.first in
      let n : ℕ = counted.first in
      let is : c ≡ const.IntAsPtr n = counted.in_back.in_back.in_back.in_back.1 in
      let width : IsWidth w = width_small m.text sized.in_front.token w (kept_value tt (width_of m.text sized.in_front.token) w tt sized.in_front.value) in
      let token = counted.in_front.token in
      let small : n < 2 ^ w = number_small w token.kind (spelled m.text token) n (kept_value tt (number_at m.text w token) n tt counted.in_front.value) in
      let most : 2 ^ w ≤ 2 ^ 64 = pow_mono width.most in
      subst (RestAgain depth t leaf.IntToPtr) (sym is) (record {
        pieces = sign spaced (codes "(") ++ (int_type glued 64 ++ (integer spaced (signed_decimal (signed 64 n)) ++ (word spaced (codes "to") ++ (word spaced (codes "ptr") ++ sign glued (codes ")")))));
        are = λ gap. pointer_is (spelled_by m) t gap n;
        spells = integer_spells n (lt_of_lt_of_le small most);
      })

  zero_again : (depth : ℕ) (t : Ty) (tokens : List Token) (c : Const) → c ≡ const.Zero → RestAgain depth t leaf.Zero c
  zero_again depth t tokens c is = subst (RestAgain depth t leaf.Zero) (sym is) (record {
    pieces = [];
    are = λ gap. zero_is (spelled_by m) t gap ∙ ap (λ (u : Ty). print.zero_in gap (out-Ty u)) (resolved_same m t) ∙ sym (append-nil (print.zero_in gap (out-Ty (resolved m t))));
    spells = done_spells text tt const.Zero;
  })

  number_again : (depth : ℕ) (t : Ty) (n : ℕ) (c : Const) → c ≡ const.Int n → RestAgain depth t (leaf.Int n) c
  number_again depth t n c is = subst (RestAgain depth t (leaf.Int n)) (sym is) (record {
    pieces = [];
    are = λ gap. int_is (spelled_by m) t gap n ∙ ap (λ (u : Ty). number (print.width_in (out-Ty u)) gap n) (resolved_same m t) ∙ sym (append-nil (number (print.width_in (out-Ty (resolved m t))) gap n));
    spells = done_spells text tt (const.Int n);
  })

  rest_again : (depth : ℕ) (t : Ty) (l : LeafHead) (tokens : List Token) (c : Const) → (after_leaf m depth t l).means tt tokens c tt → RestAgain depth t l c
  rest_again depth t leaf.Zero tokens c r = zero_again depth t tokens c r.1
  rest_again depth t (leaf.Int n) tokens c r = number_again depth t n c r.1
  rest_again depth t leaf.Text tokens c r = text_again depth t tokens c r
  rest_again depth t leaf.PtrToInt tokens c r = pointer_again depth t tokens c r
  rest_again depth t leaf.IntToPtr tokens c r = integer_pointer depth t tokens c r

  -- ---- addresses

  address_again : (depth : ℕ) (t : Ty) (gap : List ℕ) (tokens : List Token) (c : Const) → (address m depth).means tt tokens c tt → Spells text (address (over m text) depth) tt (const_pieces (spelled_by m) c t gap) c tt
  unfolding address
  address_again depth t gap tokens c r =
      let place : Place = r.first in
      let is : c ≡ const.Address place = r.in_back.1 in
      let made = made_spells text (a_place (over m text) depth) (λ place. const.Address place) tt tt (place_pieces (spelled_by m) gap place) place (place_again m text bytes depth gap tt tt tt r.front place tt r.in_front).2 in
      subst (λ (c : Const). Spells text (a_place (over m text) depth >>= λ place. done (const.Address place)) tt (const_pieces (spelled_by m) c t gap) c tt) (sym is)
      (subst (λ l. Spells text (a_place (over m text) depth >>= λ place. done (const.Address place)) tt l (const.Address place) tt) (sym (address_is (spelled_by m) t gap place)) made)

  address_opens : (depth : ℕ) → Opens (begins_place text) true (address (over m text) depth)
  unfolding address
  address_opens depth = then_opens (begins_place text) true (a_place (over m text) depth) (λ place. done (const.Address place)) (place_opens (over m text) depth)

  -- ---- members

  module _ (depth : ℕ) (fit : TypesFit m.types) (again : (t : Ty) → TypeFits t → (gap : List ℕ) (tokens : List Token) (c : Const) → (a_const m depth t).means tt tokens c tt
      → Spells text (a_const (over m text) depth t) tt (const_pieces (spelled_by m) c t gap) c tt) where
    abbrev inside : Ty → Rule (Unit {0}) Const
    inside = a_const m depth

    abbrev beyond : Ty → Rule (Unit {0}) Const
    beyond = a_const (over m text) depth

    -- a member is its type and the constant
    abbrev member_pieces : Ty → Const → List ℕ → List Piece
    member_pieces t c gap = print.member (spelled_by m) gap t (const_pieces (spelled_by m) c)

    member_again : (t : Ty) (gap : List ℕ) (tokens : List Token) (c : Const) → (member m depth inside t).means tt tokens c tt → Spells text (member (over m text) depth beyond t) tt (member_pieces t c gap) c tt
    unfolding member
    member_again t gap tokens c r =
        let typed = r.in_front in
        let is : typed.value ≡ t = (must_again t typed.value typed.passes).0 in
        let fits : TypeFits t = subst TypeFits is (read_fits m depth r.front typed.value bytes typed.read) in
        then_spells text (checked (a_type (over m text) depth) (must_be t)) (λ _. beyond t) tt tt tt (type_pieces m.named t gap) (const_pieces (spelled_by m) c t spaced) tt c
        (same_again m text bytes depth t gap r.front typed) (again t fits spaced r.back c r.in_back)

    member_solid : (t : Ty) → IsSolid (member (over m text) depth beyond t)
    unfolding member
    member_solid t = first_solid _ _ (checked_solid _ (must_be t) (type_solid (over m text) depth))

    member_opens : (t : Ty) (close : List ℕ) → sign_type close ≡ Err Syntax → Opens (is_sign text close) false (member (over m text) depth beyond t)
    unfolding member
    member_opens t close e = then_opens (is_sign text close) false (checked (a_type (over m text) depth) (must_be t)) (λ _. beyond t)
        (checked_opens (is_sign text close) false (a_type (over m text) depth) (must_be t) (type_opens (over m text) depth close e))

    -- ---- arrays

    array_again : (element : Ty) (gap : List ℕ) (tokens : List Token) (c : Const) → (array_const m depth inside element).means tt tokens c tt
        → (all : List Const) × (c ≡ const.Array all) × Spells text (array_const (over m text) depth beyond element) tt (with_commas (λ g c. member_pieces element c g) glued all ++ sign glued (codes "]")) (const.Array all) tt
    unfolding array_const
    array_again element gap tokens c r =
        let all : List Const = r.first in
        let each : (gap : List ℕ) → Again Units text (member m depth inside element) (member (over m text) depth beyond element) (λ c. member_pieces element c gap) = λ gap s z t tokens c like k. (tt, tt, member_again element gap tokens c k) in
        let listed = (items_again Units m.text text (codes "]") (member m depth inside element) (member (over m text) depth beyond element) (λ g c. member_pieces element c g) square each
        (member_opens element (codes "]") refl) glued glued tt tt tt r.front all tt r.in_front).2 in
        (all, r.in_back.1, made_spells text (items text (codes "]") (member (over m text) depth beyond element)) (λ all. const.Array all) tt tt (with_commas (λ g c. member_pieces element c g) glued all ++ sign glued (codes "]")) all listed)

    -- ---- fields

    -- each of these is spelled as a member of its type
    abbrev EachField : List Ty → List Const → Type 0
    EachField types [] = Unit {0}
    EachField [] (c ∷ all) = ⊥
    EachField (t ∷ types) (c ∷ all) = ((gap : List ℕ) → Spells text (member (over m text) depth beyond t) tt (member_pieces t c gap) c tt) × EachField types all

    next_reads : (t : Ty) (types : List Ty) (tokens : List Token) (c : Const) → (next_field m depth inside (codes "}") (t ∷ types)).means tt tokens (Some c) tt → (used : List Token) × (member m depth inside t).means tt used c tt
    unfolding next_field
    next_reads t types tokens c r = by r.first r.in_back
      where
        by : (b : Bool) → (choose b (done None) (member m depth inside t >>= λ c. done (Some c))).means tt r.back (Some c) tt → (used : List Token) × (member m depth inside t).means tt used c tt
        by true d = absurd (some_none c d.1)
        by false d = (d.front, subst (λ c. (member m depth inside t).means tt d.front c tt) (sym (some_some c d.first d.in_back.1)) d.in_front)

    more_are : (types : List Ty) (tokens : List Token) (all : List Const) → (more_fields m depth inside (codes "}") types).means tt tokens all tt → EachField types all
    unfolding more_fields
    more_are [] tokens all r = subst (EachField []) (sym r.in_back.1) tt
    more_are (t ∷ types) tokens all r = by r.first r.in_front r.in_back (more_are types)
      where
        by : (o : Option Const) → (next_field m depth inside (codes "}") (t ∷ types)).means tt r.front o tt → (end_or m depth inside (more_fields m depth inside (codes "}") types) o).means tt r.back all tt
            → ((tokens : List Token) (all : List Const) → (more_fields m depth inside (codes "}") types).means tt tokens all tt → EachField types all) → EachField (t ∷ types) all
        by None f d more = subst (EachField (t ∷ types)) (sym d.1) tt
        by (Some c) f d more =
            let used = next_reads t types r.front c f in
            subst (EachField (t ∷ types)) (sym d.in_back.1) (λ gap. member_again t gap used.0 c used.1, more d.front d.first d.in_front)

    some_are : (types : List Ty) (tokens : List Token) (all : List Const) → (some_fields m depth inside (codes "}") types).means tt tokens all tt → EachField types all
    unfolding some_fields
    some_are [] tokens all r = absurd (refused r.passes)
      where
        refused : (let e : Result (List Const) Flaw = Err Syntax in e) ≡ Ok all → ⊥
        refused e = cc
    some_are (t ∷ types) tokens all r =
        subst (EachField (t ∷ types)) (sym r.in_back.in_back.1) (λ gap. member_again t gap r.front r.first r.in_front, more_are types r.in_back.front r.in_back.first r.in_back.in_front)

    fields_are : (types : List Ty) (tokens : List Token) (all : List Const) → (fields m depth inside (codes "}") types).means tt tokens all tt → EachField types all
    unfolding fields no_fields
    fields_are types tokens all (inl r) = subst (EachField types) (sym r.1.in_back.1) tt
    fields_are types tokens all (inr r) = some_are types tokens all r.1

    -- ---- fields spelled

    abbrev written : List Ty → List Const → List (List ℕ → List Piece)
    written types all = typed (spelled_by m) (map (const_pieces (spelled_by m)) all) types

    abbrev field_at : List ℕ → (List ℕ → List Piece) → List Piece
    field_at gap field = field gap

    -- the first field has a piece
    first_has : (types : List Ty) (all : List Const) → EachField types all → FirstHas field_at (written types all)
    first_has types [] h = tt
    first_has [] (c ∷ all) h = absurd h
    first_has (t ∷ types) (c ∷ all) h = has_piece text (member (over m text) depth beyond t) tt tt c (member_pieces t c spaced) (member_solid t) (h.0 spaced)

    module _ (gap : List ℕ) where
      closed : Spells {S = Unit {0}} text (plain (closes_list text (codes "}"))) tt (sign gap (codes "}")) true tt
      closed = closes {S = Unit {0}} {A = Const} text (codes "}") gap (done const.Zero) brace tt

      onward : Spells {S = Unit {0}} text (plain (closes_list text (codes "}"))) tt comma false tt
      onward = goes_on {S = Unit {0}} {A = Const} text (codes "}") gap (done const.Zero) brace tt

      next_closes : (types : List Ty) → Spells text (next_field (over m text) depth beyond (codes "}") types) tt (sign gap (codes "}")) None tt
      unfolding next_field
      next_closes [] = then_spells text _ _ tt tt tt (sign gap (codes "}")) [] true None closed (done_spells text tt None)
      next_closes (t ∷ types) = then_spells text _ _ tt tt tt (sign gap (codes "}")) [] true None closed (done_spells text tt None)

      next_spells : (t : Ty) (types : List Ty) (c : Const) → Spells text (member (over m text) depth beyond t) tt (member_pieces t c spaced) c tt
          → Spells text (next_field (over m text) depth beyond (codes "}") (t ∷ types)) tt (comma ++ member_pieces t c spaced) (Some c) tt
      unfolding next_field
      next_spells t types c h = then_spells text _ _ tt tt tt comma (member_pieces t c spaced) false (Some c) onward (made_spells text (member (over m text) depth beyond t) (λ c. Some c) tt tt (member_pieces t c spaced) c h)

      more_spell : (types : List Ty) (all : List Const) → EachField types all → Spells text (more_fields (over m text) depth beyond (codes "}") types) tt (behind_commas (field_at spaced) (written types all) ++ sign gap (codes "}")) all tt
      unfolding more_fields
      more_spell [] [] h = then_spells text _ _ tt tt tt (sign gap (codes "}")) [] None [] (next_closes []) (done_spells text tt [])
      more_spell (t ∷ types) [] h = then_spells text _ (end_or (over m text) depth beyond (more_fields (over m text) depth beyond (codes "}") types)) tt tt tt (sign gap (codes "}")) [] None [] (next_closes (t ∷ types)) (done_spells text tt [])
      more_spell [] (c ∷ all) h = absurd h
      more_spell (t ∷ types) (c ∷ all) h =
          subst (λ l. Spells text (next_field (over m text) depth beyond (codes "}") (t ∷ types) >>= end_or (over m text) depth beyond (more_fields (over m text) depth beyond (codes "}") types)) tt l (c ∷ all) tt)
          (ap (λ l. comma ++ l) (sym (append_assoc (member_pieces t c spaced) (behind_commas (field_at spaced) (written types all)) (sign gap (codes "}")))))
          (then_spells text (next_field (over m text) depth beyond (codes "}") (t ∷ types)) (end_or (over m text) depth beyond (more_fields (over m text) depth beyond (codes "}") types)) tt tt tt
          (comma ++ member_pieces t c spaced) (behind_commas (field_at spaced) (written types all) ++ sign gap (codes "}")) (Some c) (c ∷ all) (next_spells t types c (h.0 spaced))
          (made_spells text (more_fields (over m text) depth beyond (codes "}") types) (λ others. c ∷ others) tt tt (behind_commas (field_at spaced) (written types all) ++ sign gap (codes "}")) all (more_spell types all h.1)))

      some_spell : (t : Ty) (types : List Ty) (c : Const) (all : List Const) → EachField (t ∷ types) (c ∷ all)
          → Spells text (some_fields (over m text) depth beyond (codes "}") (t ∷ types)) tt ((member_pieces t c spaced ++ behind_commas (field_at spaced) (written types all)) ++ sign gap (codes "}")) (c ∷ all) tt
      unfolding some_fields
      some_spell t types c all h =
          subst (λ l. Spells text (member (over m text) depth beyond t >>= λ c. more_fields (over m text) depth beyond (codes "}") types >>= λ others. done (c ∷ others)) tt l (c ∷ all) tt)
          (sym (append_assoc (member_pieces t c spaced) (behind_commas (field_at spaced) (written types all)) (sign gap (codes "}"))))
          (then_spells text (member (over m text) depth beyond t) (λ c. more_fields (over m text) depth beyond (codes "}") types >>= λ others. done (c ∷ others)) tt tt tt
          (member_pieces t c spaced) (behind_commas (field_at spaced) (written types all) ++ sign gap (codes "}")) c (c ∷ all) (h.0 spaced)
          (made_spells text (more_fields (over m text) depth beyond (codes "}") types) (λ others. c ∷ others) tt tt (behind_commas (field_at spaced) (written types all) ++ sign gap (codes "}")) all (more_spell types all h.1)))

      none_spell : Spells text (no_fields (over m text) depth beyond (codes "}")) tt (sign gap (codes "}")) [] tt
      unfolding no_fields
      none_spell = then_spells text _ _ tt tt tt (sign gap (codes "}")) [] tt [] (sign_spells text gap tt (codes "}") refl) (done_spells text tt [])

      fields_spell : (types : List Ty) (all : List Const) → EachField types all → Spells text (fields (over m text) depth beyond (codes "}") types) tt (with_commas field_at spaced (written types all) ++ sign gap (codes "}")) all tt
      unfolding fields
      fields_spell types [] h = yes_spells text (is_sign text (codes "}")) (no_fields (over m text) depth beyond (codes "}")) (some_fields (over m text) depth beyond (codes "}") types) tt (sign gap (codes "}")) [] tt
          (begins text (is_sign text (codes "}")) true (sign gap (codes "}")) (λ token h. sign_tested text (codes "}") (record { gap = gap; kind = kind.Sign; bytes = codes "}" }) token h)) none_spell
      fields_spell [] (c ∷ all) h = absurd h
      fields_spell (t ∷ types) (c ∷ all) h =
          no_spells text (is_sign text (codes "}")) (no_fields (over m text) depth beyond (codes "}")) (some_fields (over m text) depth beyond (codes "}") (t ∷ types)) tt
          ((member_pieces t c spaced ++ behind_commas (field_at spaced) (written types all)) ++ sign gap (codes "}")) (c ∷ all) tt
          (subst (Begins text (is_sign text (codes "}")) false) (sym (append_assoc (member_pieces t c spaced) (behind_commas (field_at spaced) (written types all)) (sign gap (codes "}"))))
          (begins_by text (is_sign text (codes "}")) false (member (over m text) depth beyond t) (member_opens t (codes "}") refl) tt tt c (member_pieces t c spaced) (behind_commas (field_at spaced) (written types all) ++ sign gap (codes "}")) (h.0 spaced)))
          (some_spell t types c all h)

    struct_spells : (types : List Ty) (gap : List ℕ) (all : List Const) → EachField types all
        → Spells text (struct_const (over m text) depth beyond types) tt (with_commas field_at spaced (written types all) ++ sign gap (codes "}")) (const.Struct all) tt
    unfolding struct_const
    struct_spells types gap all h = made_spells text (fields (over m text) depth beyond (codes "}") types) (λ all. const.Struct all) tt tt (with_commas field_at spaced (written types all) ++ sign gap (codes "}")) all (fields_spell gap types all h)

    struct_are : (types : List Ty) (tokens : List Token) (c : Const) → (struct_const m depth inside types).means tt tokens c tt → (all : List Const) × (c ≡ const.Struct all) × EachField types all
    unfolding struct_const
    struct_are types tokens c r = (r.first, r.in_back.1, fields_are types r.front r.first r.in_front)

    packed_are : (types : List Ty) (tokens : List Token) (c : Const) → (packed_const m depth inside types).means tt tokens c tt → (all : List Const) × (c ≡ const.Struct all) × EachField types all
    unfolding packed_const
    packed_are types tokens c r = let list = r.in_back in (list.first, list.in_back.in_back.1, fields_are types list.front list.first list.in_front)

    -- ---- a type's element and fields, for reading and for spelling

    same_element : (t : Ty) (x : Ty-F Ty) → BracketAgain x head.Array → print.element_in x ≡ element_in t x
    same_element t (Ty-F.Array n e) h = refl
    same_element t Ty-F.Void h = absurd h
    same_element t (Ty-F.Int w) h = absurd h
    same_element t Ty-F.Ptr h = absurd h
    same_element t (Ty-F.Struct p fs) h = absurd h
    same_element t (Ty-F.Named n) h = absurd h

    opens_array : (x : Ty-F Ty) → BracketAgain x head.Array → const_by (shape_in x) kind.Sign (codes "[") ≡ Ok head.Array
    opens_array (Ty-F.Array n e) h = refl
    opens_array Ty-F.Void h = absurd h
    opens_array (Ty-F.Int w) h = absurd h
    opens_array Ty-F.Ptr h = absurd h
    opens_array (Ty-F.Struct p fs) h = absurd h
    opens_array (Ty-F.Named n) h = absurd h

    same_fields : (x : Ty-F Ty) → print.fields_in x ≡ fields_in x
    same_fields (Ty-F.Struct p fs) = refl
    same_fields _ = refl

    opens_struct : (x : Ty-F Ty) → (BracketAgain x head.Struct) ⊎ (BracketAgain x head.Packed) → const_by (shape_in x) kind.Sign (codes "{") ≡ Ok head.Struct
    opens_struct (Ty-F.Struct p fs) h = refl
    opens_struct Ty-F.Void (inl h) = absurd h
    opens_struct Ty-F.Void (inr h) = absurd h
    opens_struct (Ty-F.Int w) (inl h) = absurd h
    opens_struct (Ty-F.Int w) (inr h) = absurd h
    opens_struct Ty-F.Ptr (inl h) = absurd h
    opens_struct Ty-F.Ptr (inr h) = absurd h
    opens_struct (Ty-F.Array n e) (inl h) = absurd h
    opens_struct (Ty-F.Array n e) (inr h) = absurd h
    opens_struct (Ty-F.Named n) (inl h) = absurd h
    opens_struct (Ty-F.Named n) (inr h) = absurd h

    -- ---- constants with brackets

    abbrev Bracketed : Ty → Const → List ℕ → Type 0
    Bracketed t c gap = Spells text (bracket_const (over m text) depth beyond t) tt (const_pieces (spelled_by m) c t gap) c tt

    leaf_whole : (t : Ty) (gap : List ℕ) (l : LeafHead) (tokens : List Token) (c : Const) → WidthFits (out-Ty (resolved m t)) → LeafAgain (out-Ty (resolved m t)) l → (after_leaf m (suc depth) t l).means tt tokens c tt → Bracketed t c gap
    leaf_whole t gap l tokens c fits h r =
        let x = rest_again (suc depth) t l tokens c r in
        subst (λ ps. Spells text (bracket_const (over m text) depth beyond t) tt ps c tt) (sym (x.are gap))
        (then_spells text (plain (const_head text (shape_of (resolved m t)))) (after_head (over m text) depth beyond t) tt tt tt (leaf_first (out-Ty (resolved m t)) gap l) x.pieces (head.Leaf l) c
        (bracket_spells text gap (out-Ty (resolved m t)) l fits h) x.spells)

    array_whole : (t : Ty) (gap : List ℕ) (tokens : List Token) (c : Const) → BracketAgain (out-Ty (resolved m t)) head.Array → (array_const m depth inside (element_in t (out-Ty (resolved m t)))).means tt tokens c tt → Bracketed t c gap
    array_whole t gap tokens c h r =
        let x : Ty-F Ty = out-Ty (resolved m t) in
        let y = array_again (element_in t x) gap tokens c r in
        let element : print.element_in (out-Ty (print.resolved (spelled_by m) t)) ≡ element_in t x = ap (λ (u : Ty). print.element_in (out-Ty u)) (resolved_same m t) ∙ same_element t x h in
        let are : const_pieces (spelled_by m) c t gap ≡ sign gap (codes "[") ++ (with_commas (λ g c. member_pieces (element_in t x) c g) glued y.0 ++ sign glued (codes "]")) =
        ap (λ (c : Const). const_pieces (spelled_by m) c t gap) y.1 ∙ array_is (spelled_by m) t gap y.0
        ∙ ap (λ (e : Ty). sign gap (codes "[") ++ (with_commas (λ g c. member_pieces e c g) glued y.0 ++ sign glued (codes "]"))) element in
        subst (λ ps. Spells text (bracket_const (over m text) depth beyond t) tt ps c tt) (sym are)
        (then_spells text (plain (const_head text (shape_in x))) (after_head (over m text) depth beyond t) tt tt tt (sign gap (codes "[")) (with_commas (λ g c. member_pieces (element_in t x) c g) glued y.0 ++ sign glued (codes "]")) head.Array c
        (plain_spells {S = Unit {0}} text (const_by (shape_in x)) tt (record { gap = gap; kind = kind.Sign; bytes = codes "[" }) head.Array (opens_array x h))
        (subst (λ (c : Const). Spells text (array_const (over m text) depth beyond (element_in t x)) tt (with_commas (λ g c. member_pieces (element_in t x) c g) glued y.0 ++ sign glued (codes "]")) c tt) (sym y.1) y.2))

    struct_whole : (t : Ty) (gap : List ℕ) (all : List Const) (c : Const) → c ≡ const.Struct all → (BracketAgain (out-Ty (resolved m t)) head.Struct) ⊎ (BracketAgain (out-Ty (resolved m t)) head.Packed)
        → EachField (fields_in (out-Ty (resolved m t))) all → Bracketed t c gap
    struct_whole t gap all c is h each =
        let x : Ty-F Ty = out-Ty (resolved m t) in
        let types : List Ty = fields_in x in
        let end : List ℕ = brace_gap (written types all) in
        let same : print.fields_in (out-Ty (print.resolved (spelled_by m) t)) ≡ types = ap (λ (u : Ty). print.fields_in (out-Ty u)) (resolved_same m t) ∙ same_fields x in
        let are : const_pieces (spelled_by m) c t gap ≡ sign gap (codes "{") ++ (with_commas field_at spaced (written types all) ++ sign end (codes "}")) =
        ap (λ (c : Const). const_pieces (spelled_by m) c t gap) is ∙ struct_is (spelled_by m) t gap all
        ∙ ap (λ (l : List Ty). in_braces gap (with_commas field_at spaced (written l all))) same ∙ braces_are gap field_at (written types all) (first_has types all each) in
        subst (λ ps. Spells text (bracket_const (over m text) depth beyond t) tt ps c tt) (sym are)
        (then_spells text (plain (const_head text (shape_in x))) (after_head (over m text) depth beyond t) tt tt tt (sign gap (codes "{")) (with_commas field_at spaced (written types all) ++ sign end (codes "}")) head.Struct c
        (plain_spells {S = Unit {0}} text (const_by (shape_in x)) tt (record { gap = gap; kind = kind.Sign; bytes = codes "{" }) head.Struct (opens_struct x h))
        (subst (λ (c : Const). Spells text (struct_const (over m text) depth beyond types) tt (with_commas field_at spaced (written types all) ++ sign end (codes "}")) c tt) (sym is) (struct_spells types end all each)))

    head_whole : (t : Ty) (gap : List ℕ) (h : ConstHead) (token : Token) (tokens : List Token) (c : Const) → TypeFits t → const_head m.text (shape_of (resolved m t)) token ≡ Ok h → (after_head m depth inside t h).means tt tokens c tt → Bracketed t c gap
    head_whole t gap (head.Leaf l) token tokens c fits e r =
        let x : Ty-F Ty = out-Ty (resolved m t) in
        leaf_whole t gap l tokens c (resolved_fits m t fit fits) (leaf_again x token.kind (spelled m.text token) l (leaf_under (shape_in x) token.kind (spelled m.text token) l e)) r
    head_whole t gap head.Array token tokens c fits e r =
        let x : Ty-F Ty = out-Ty (resolved m t) in array_whole t gap tokens c (bracket_again x token.kind (spelled m.text token) head.Array e) r
    head_whole t gap head.Struct token tokens c fits e r =
        let x : Ty-F Ty = out-Ty (resolved m t) in
        let y = struct_are (fields_in x) tokens c r in
        struct_whole t gap y.0 c y.1 (inl (bracket_again x token.kind (spelled m.text token) head.Struct e)) y.2
    head_whole t gap head.Packed token tokens c fits e r =
        let x : Ty-F Ty = out-Ty (resolved m t) in
        let y = packed_are (fields_in x) tokens c r in
        struct_whole t gap y.0 c y.1 (inr (bracket_again x token.kind (spelled m.text token) head.Packed e)) y.2

    bracket_again_all : (t : Ty) (gap : List ℕ) (tokens : List Token) (c : Const) → TypeFits t → (bracket_const m depth inside t).means tt tokens c tt → Bracketed t c gap
    bracket_again_all t gap tokens c fits r =
        head_whole t gap r.first r.in_front.token r.back c fits (kept_value tt (const_head m.text (shape_of (resolved m t)) r.in_front.token) r.first tt r.in_front.value) r.in_back

  -- ---- all constants

  flat_again : (fit : TypesFit m.types) (t : Ty) (gap : List ℕ) (tokens : List Token) (c : Const) → TypeFits t → (flat_const m t).means tt tokens c tt → Spells text (flat_const (over m text) t) tt (const_pieces (spelled_by m) c t gap) c tt
  flat_again fit t gap tokens c fits r =
      let l : LeafHead = r.first in
      let token = r.in_front.token in
      let x : Ty-F Ty = out-Ty (resolved m t) in
      let read = kept_value tt (leaf_head m.text (shape_of (resolved m t)) token) l tt r.in_front.value in
      let y = rest_again zero t l r.back c r.in_back in
      subst (λ ps. Spells text (flat_const (over m text) t) tt ps c tt) (sym (y.are gap))
      (then_spells text (plain (leaf_head text (shape_of (resolved m t)))) (after_leaf (over m text) zero t) tt tt tt (leaf_first x gap l) y.pieces l c
      (flat_spells text gap x l (resolved_fits m t fit fits) (leaf_again x token.kind (spelled m.text token) l read)) y.spells)

  place_or : (depth : ℕ) (t : Ty) (gap : List ℕ) (tokens : List Token) (c : Const) (other : Rule (Unit {0}) Const) → (address m depth).means tt tokens c tt
      → Spells text (if_next (begins_place text) (address (over m text) depth) other) tt (const_pieces (spelled_by m) c t gap) c tt
  place_or depth t gap tokens c other r =
      let spells = address_again depth t gap tokens c r in
      yes_spells text (begins_place text) (address (over m text) depth) other tt (const_pieces (spelled_by m) c t gap) c tt
      (begins_alone text (begins_place text) true (address (over m text) depth) (address_opens depth) tt tt c (const_pieces (spelled_by m) c t gap) spells) spells

  pub const_again : (fit : TypesFit m.types) (depth : ℕ) (t : Ty) → TypeFits t → (gap : List ℕ) (tokens : List Token) (c : Const) → (a_const m depth t).means tt tokens c tt
      → Spells text (a_const (over m text) depth t) tt (const_pieces (spelled_by m) c t gap) c tt
  unfolding a_const
  const_again fit zero t fits gap tokens c (inl r) = place_or zero t gap tokens c (flat_const (over m text) t) r.1
  const_again fit zero t fits gap tokens c (inr r) =
      let spells = flat_again fit t gap tokens c fits r.1 in
      let opens = then_opens (begins_place text) false (plain (leaf_head text (shape_of (resolved m t)))) (after_leaf (over m text) zero t) (leaf_opens text (shape_of (resolved m t))) in
      no_spells text (begins_place text) (address (over m text) zero) (flat_const (over m text) t) tt (const_pieces (spelled_by m) c t gap) c tt
      (begins_alone text (begins_place text) false (flat_const (over m text) t) opens tt tt c (const_pieces (spelled_by m) c t gap) spells) spells
  const_again fit (suc depth) t fits gap tokens c (inl r) = place_or (suc depth) t gap tokens c (bracket_const (over m text) depth (a_const (over m text) depth) t) r.1
  const_again fit (suc depth) t fits gap tokens c (inr r) =
      let spells = bracket_again_all depth fit (const_again fit depth) t gap tokens c fits r.1 in
      let opens = then_opens (begins_place text) false (plain (const_head text (shape_of (resolved m t)))) (after_head (over m text) depth (a_const (over m text) depth) t) (bracket_opens text (shape_of (resolved m t))) in
      no_spells text (begins_place text) (address (over m text) (suc depth)) (bracket_const (over m text) depth (a_const (over m text) depth) t) tt (const_pieces (spelled_by m) c t gap) c tt
      (begins_alone text (begins_place text) false (bracket_const (over m text) depth (a_const (over m text) depth) t) opens tt tt c (const_pieces (spelled_by m) c t gap) spells) spells
