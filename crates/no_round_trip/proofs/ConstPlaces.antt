-- A place that was read is read again where it is spelled.
use Rattle.std.proofs.Common.{◌≡◌, ℕ, ◌-◌, ◌*◌, ◌^◌, ◌<◌, Bool, true, false, ◌&&◌, ◌||◌, ◌==◌, List, [], ◌∷◌, ◌++◌, drop, ℤ, decimal, codes, position, bytes_eq, nat_lt, nat_le, Option, Some, None, Result, Ok, Err, inl, inr, if◌then◌else◌, refl, sym, ap, subst, ◌∙◌, append_assoc, arith, pow_pos}
use Rattle.std.specs.Fmt.{signed_decimal}
use Rattle.std.proofs.lemmas.Bool.{ltb-true, eqb-true, eqb-false}
use Rattle.no_lex.specs.declared.token.Token.{Token}
use Rattle.no_lex.specs.declared.token.TokenKind.{TokenKind}
use Rattle.no_lex.specs.declared.token.TokenKind.TheVariants as kind
use Rattle.no_ir.specs.declared.types.Ty.{Ty}
use Rattle.no_ir.specs.declared.types.Ty.TheVariants as ty
use Rattle.no_ir.specs.declared.constant.Symbol.{Symbol}
use Rattle.no_ir.specs.declared.constant.Place.{Place}
use Rattle.no_read_rules.specs.declared.fault.Flaw.{Flaw}
use Rattle.no_read_rules.specs.declared.fault.Flaw.TheVariants.{Syntax, Number}
use Rattle.no_read_rules.specs.declared.types.TypeHead.{TypeHead}
use Rattle.no_read_rules.specs.declared.types.TypeHead.TheVariants as head
use Rattle.no_read_rules.specs.Lists.{more_item}
use Rattle.no_read_rules.specs.Numbers.{is_negative, digits_of, kept, integer_at}
use Rattle.no_read_rules.specs.Numbers as numbers
use Rattle.no_read_rules.specs.Repeated.{repeat}
use Rattle.no_read_rules.specs.Rules.{plain, done, ◌>>=◌}
use Rattle.no_read_rules.specs.Scope.{Meaning}
use Rattle.no_read_rules.specs.Spelled.{spelled, kind_number, is_kind, is_word}
use Rattle.no_read_rules.specs.Types.{a_type, word_type}
use Rattle.no_read_rules.specs.Unescaped.{name_of}
use Rattle.no_read_constants.specs.Places.{or_global, symbol_named, symbol_of, int_width, width_of, truth_at, number_by, number_at, is_flag, an_index, indices, gep_parts, bare_or, place_head, after_place_head, a_place}
use Rattle.no_read_constants.specs.declared.places.PlaceHead.{PlaceHead}
use Rattle.no_read_constants.specs.declared.places.PlaceHead.TheVariants.{Bare, Gep}
use Rattle.no_eval.specs.Numbers.{signed}
use Rattle.no_print.specs.Names.{spelling, global_name, int_type}
use Rattle.no_print.specs.Pieces.{Piece, glued, spaced, word, sign, integer, comma, behind_commas}
use Rattle.no_print.specs.Types.{type_pieces}
use Rattle.no_print.specs.Constants.{index_width, index_pieces, symbol_name, place_pieces}
use Rattle.no_round_trip.specs.Spells.{AreBytes, Spells, Again, over, spelled_by}
use Rattle.no_round_trip.proofs.WordBytes.{bytes_name, bytes_spelled}
use Rattle.no_round_trip.proofs.RuleFound.{name_there, bytes_drop}
use Rattle.no_round_trip.proofs.RuleFrame.{plain_spells, done_spells, then_spells, made_spells}
use Rattle.no_round_trip.proofs.RuleItems.{repeated_again}
use Rattle.no_round_trip.proofs.RuleListing.{EachSpells, IsClose, word_spells, sign_spells, behind_spells}
use Rattle.no_names.proofs.Again.{name_again}
use Rattle.no_round_trip.proofs.WordNumbers.{IndexAgain, index_again}
use Rattle.no_round_trip.proofs.RuleOpening.{kept_value}
use Rattle.no_round_trip.proofs.RuleSkipping as skipping
use Rattle.no_round_trip.proofs.RuleStanding.{Begins, begins, word_tested}
use Rattle.no_round_trip.proofs.TypeAgain.{Units, type_again}
use Rattle.no_round_trip.proofs.WordWidths.{IsWidth, word_head, half, full}

-- ---- numbers at a width

-- an integer that was read at a width is below its power of two
pub integer_small : (w : ℕ) (bytes : List ℕ) (n : ℕ) → integer_at w bytes ≡ Ok n → n < 2 ^ w
integer_small w bytes n e = by (nat_lt 0 w && nat_le w 64) e
  where
    fine : (x y : ℕ) → (let r : Result ℕ Flaw = Ok x in r) ≡ Ok y → x ≡ y
    fine x y k = cc

    minus : (v : ℕ) (b : Bool) → nat_le (2 * v) (2 ^ w) ≡ b → (if b then Ok (if v == 0 then 0 else 2 ^ w - v) else Err Number) ≡ Ok n → n < 2 ^ w
    minus v true is k = zero_or (v == 0) refl (fine (if v == 0 then 0 else 2 ^ w - v) n k)
      where
        zero_or : (z : Bool) → (v == 0) ≡ z → (if z then 0 else 2 ^ w - v) ≡ n → n < 2 ^ w
        zero_or true z q = let p = pow_pos w in omega arith
        zero_or false z q = let p = pow_pos w in let some : v ≡ 0 → ⊥ = eqb-false v 0 z in omega arith
    minus v false is k = absurd cc

    plus : (v : ℕ) (b : Bool) → nat_lt v (2 ^ w) ≡ b → (if b then Ok v else Err Number) ≡ Ok n → n < 2 ^ w
    plus v true is k = subst (λ x. x < 2 ^ w) (fine v n k) (ltb-true v (2 ^ w) is)
    plus v false is k = absurd cc

    signed_or : (negative : Bool) (o : Option ℕ) → kept w negative o ≡ Ok n → n < 2 ^ w
    signed_or negative None k = absurd cc
    signed_or true (Some v) k = minus v (nat_le (2 * v) (2 ^ w)) refl k
    signed_or false (Some v) k = plus v (nat_lt v (2 ^ w)) refl k

    by : (b : Bool) → (if b then kept w (is_negative bytes) (numbers.decimal (2 ^ 64 - 1) (digits_of bytes)) else Err Syntax) ≡ Ok n → n < 2 ^ w
    by true k = signed_or (is_negative bytes) (numbers.decimal (2 ^ 64 - 1) (digits_of bytes)) k
    by false k = absurd cc

-- a truth value is of one bit
pub truth_small : (w : ℕ) (bytes : List ℕ) (n : ℕ) → truth_at w bytes ≡ Ok n → (w ≡ 1) × (n < 2)
truth_small w bytes n e = by (w == 1) (bytes_eq bytes (codes "true")) (bytes_eq bytes (codes "false")) refl e
  where
    fine : (x y : ℕ) → (let r : Result ℕ Flaw = Ok x in r) ≡ Ok y → x ≡ y
    fine x y k = cc

    by : (o t f : Bool) → (w == 1) ≡ o → (if o && t then Ok 1 else (if o && f then Ok 0 else Err Syntax)) ≡ Ok n → (w ≡ 1) × (n < 2)
    by true true f is k = (eqb-true w 1 is, subst (λ x. x < 2) (fine 1 n k) (omega arith))
    by true false true is k = (eqb-true w 1 is, subst (λ x. x < 2) (fine 0 n k) (omega arith))
    by true false false is k = absurd cc
    by false t f is k = absurd cc

pub number_small : (w : ℕ) (k : TokenKind) (bytes : List ℕ) (n : ℕ) → number_by w k bytes ≡ Ok n → n < 2 ^ w
number_small w kind.Integer bytes n e = integer_small w bytes n e
number_small w kind.Word bytes n e = let t = truth_small w bytes n e in rw t.0 t.1
number_small w _ bytes n e = absurd cc

-- ---- widths

pub width_small : (text : List ℕ) (token : Token) (w : ℕ) → width_of text token ≡ Ok w → IsWidth w
width_small text token w e = by (is_kind kind.Word token) e
  where
    fine : (x y : ℕ) → (let r : Result ℕ Flaw = Ok x in r) ≡ Ok y → x ≡ y
    fine x y k = cc

    of_head : (r : Result TypeHead Flaw) → word_type (spelled text token) ≡ r → int_width r ≡ Ok w → IsWidth w
    of_head (Ok (head.Int v)) is k = subst IsWidth (fine v w k) (word_head (spelled text token) (head.Int v) is)
    of_head (Ok head.Ptr) is k = absurd cc
    of_head (Ok (head.Named n)) is k = absurd cc
    of_head (Ok head.Array) is k = absurd cc
    of_head (Ok head.Struct) is k = absurd cc
    of_head (Ok head.Packed) is k = absurd cc
    of_head (Err flaw) is k = absurd cc

    by : (b : Bool) → (if b then int_width (word_type (spelled text token)) else Err Syntax) ≡ Ok w → IsWidth w
    by true k = of_head (word_type (spelled text token)) refl k
    by false k = absurd cc

pub width_spells : (text gap : List ℕ) (w : ℕ) → IsWidth w → Spells {S = Unit {0}} text (plain (width_of text)) tt (int_type gap w) w tt
width_spells text gap w h =
    plain_spells {S = Unit {0}} text (λ k bytes. if kind_number k == kind_number kind.Word then int_width (word_type bytes) else Err Syntax) tt
    (record { gap = gap; kind = kind.Word; bytes = 105 ∷ decimal w }) w (ap int_width h.reads)

-- ---- indices

index_width_of : (i : ℤ) → IndexAgain i → IsWidth (index_width i)
index_width_of i x = subst IsWidth x.written (elim x.choice [ inl e ↦ subst IsWidth (sym e) half | inr e ↦ subst IsWidth (sym e) full ])

index_spells : (m : Meaning) (text : List ℕ) (i : ℤ) → IndexAgain i → Spells text (an_index (over m text)) tt (index_pieces i) i tt
unfolding an_index
index_spells m text i x =
    let number = plain_spells {S = Unit {0}} text (number_by (index_width i)) tt (record { gap = spaced; kind = kind.Integer; bytes = signed_decimal i }) x.number (subst (λ w. integer_at w (signed_decimal i) ≡ Ok x.number) x.written x.reads) in
    let made = then_spells text (plain (number_at text (index_width i))) (λ n. done (signed (index_width i) n)) tt tt tt (integer spaced (signed_decimal i)) [] x.number i number
    (subst (λ j. Spells {S = Unit {0}} text (done (signed (index_width i) x.number)) tt [] j tt) (subst (λ w. signed w x.number ≡ i) x.written x.is) (done_spells text tt (signed (index_width i) x.number))) in
    then_spells text (plain (width_of text)) (λ w. plain (number_at text w) >>= λ n. done (signed w n)) tt tt tt (int_type spaced (index_width i)) (integer spaced (signed_decimal i)) (index_width i) i
    (width_spells text spaced (index_width i) (index_width_of i x)) made

index_read : (m : Meaning) (tokens : List Token) (i : ℤ) → (an_index m).means tt tokens i tt → IndexAgain i
unfolding an_index
index_read m tokens i r =
    let w : ℕ = r.first in
    let n : ℕ = r.in_back.first in
    let width : IsWidth w = width_small m.text r.in_front.token w (kept_value tt (width_of m.text r.in_front.token) w tt r.in_front.value) in
    let token = r.in_back.in_front.token in
    let small : n < 2 ^ w = number_small w token.kind (spelled m.text token) n (kept_value tt (number_at m.text w token) n tt r.in_back.in_front.value) in
    index_again w n i width.most small r.in_back.in_back.1

parenthesis : IsClose (codes ")")
parenthesis = record { same = refl; other = refl }

indices_spell : (m : Meaning) (text : List ℕ) (i : ℤ) (all : List ℤ) → Spells text (an_index (over m text)) tt (index_pieces i) i tt → EachSpells text (an_index (over m text)) index_pieces tt all tt
    → Spells text (indices (over m text)) tt ((index_pieces i ++ behind_commas index_pieces all) ++ sign glued (codes ")")) (i ∷ all) tt
unfolding indices
indices_spell m text i all x e =
    let others = made_spells text (repeat (more_item text (codes ")") (an_index (over m text)))) (λ l. i ∷ l) tt tt (behind_commas index_pieces all ++ sign glued (codes ")")) all
    (behind_spells text (codes ")") glued (an_index (over m text)) parenthesis index_pieces tt tt all e) in
    subst (λ l. Spells text (an_index (over m text) >>= λ first. repeat (more_item text (codes ")") (an_index (over m text))) >>= λ others. done (first ∷ others)) tt l (i ∷ all) tt)
    (sym (append_assoc (index_pieces i) (behind_commas index_pieces all) (sign glued (codes ")"))))
    (then_spells text (an_index (over m text)) (λ first. repeat (more_item text (codes ")") (an_index (over m text))) >>= λ others. done (first ∷ others)) tt tt tt
    (index_pieces i) (behind_commas index_pieces all ++ sign glued (codes ")")) i (i ∷ all) x others)

-- indices are one and others
record IndicesAre (m : Meaning) (text : List ℕ) (all : List ℤ) : Type 0 where
  pub first : ℤ
  pub others : List ℤ
  pub are : all ≡ first ∷ others
  pub spells : Spells text (indices (over m text)) tt ((index_pieces first ++ behind_commas index_pieces others) ++ sign glued (codes ")")) (first ∷ others) tt

indices_again : (m : Meaning) (text : List ℕ) (tokens : List Token) (all : List ℤ) → (indices m).means tt tokens all tt → IndicesAre m text all
unfolding indices
indices_again m text tokens all r =
    let again : (gap : List ℕ) → Again Units text (an_index m) (an_index (over m text)) index_pieces = λ gap s z t tokens i like k. (tt, tt, index_spells m text i (index_read m tokens i k)) in
    let others = repeated_again Units m.text text (codes ")") (an_index m) (an_index (over m text)) (λ gap i. index_pieces i) parenthesis again tt tt tt r.in_back.front r.in_back.first tt r.in_back.in_front in
    record {
      first = r.first;
      others = r.in_back.first;
      are = r.in_back.in_back.1;
      spells = indices_spell m text r.first r.in_back.first (again spaced tt tt tt r.front r.first tt r.in_front).2 others.2;
    }

-- ---- symbols

module _ (m : Meaning) (text : List ℕ) (bytes : AreBytes m.text) where
  found_again : (name : List ℕ) (o p : Option ℕ) → position (bytes_eq name) m.globals ≡ o → position (bytes_eq name) m.functions ≡ p → symbol_name (spelled_by m) (or_global o p name) ≡ name
  found_again name (Some n) p is also = name_there m.globals name n is
  found_again name None (Some n) is also = name_there m.functions name n also
  found_again name None None is also = refl

  symbol_back : (name : List ℕ) → AreBytes name → symbol_named m (name_of (spelling (symbol_name (spelled_by m) (symbol_named m name)))) ≡ symbol_named m name
  symbol_back name b =
      let is : symbol_name (spelled_by m) (symbol_named m name) ≡ name = found_again name (position (bytes_eq name) m.globals) (position (bytes_eq name) m.functions) refl refl in
      ap (λ x. symbol_named m (name_of (spelling x))) is ∙ ap (symbol_named m) (name_again name b)

  -- the symbol's name is read as it
  abbrev SymbolAgain : Symbol → Type 0
  SymbolAgain s = symbol_named m (name_of (spelling (symbol_name (spelled_by m) s))) ≡ s

  symbol_read : (token : Token) (s : Symbol) → symbol_of m token ≡ Ok s → SymbolAgain s
  symbol_read token s e = by (is_kind kind.Global token) e
    where
      same : (x y : Symbol) → (let r : Result Symbol Flaw = Ok x in r) ≡ Ok y → x ≡ y
      same x y k = cc

      name : List ℕ
      name = name_of (drop 1 (spelled m.text token))

      by : (b : Bool) → (if b then Ok (symbol_named m name) else Err Syntax) ≡ Ok s → SymbolAgain s
      by true k = subst SymbolAgain (same (symbol_named m name) s k) (symbol_back name (bytes_name (drop 1 (spelled m.text token)) (bytes_drop 1 (spelled m.text token) (bytes_spelled m.text token bytes))))
      by false k = absurd cc

  abbrev symbol_by : TokenKind → List ℕ → Result Symbol Flaw
  symbol_by k spelling = if kind_number k == kind_number kind.Global then Ok (symbol_named (over m text) (name_of (drop 1 spelling))) else Err Syntax

  symbol_spells : (gap : List ℕ) (s : Symbol) → SymbolAgain s → Spells {S = Unit {0}} text (plain (symbol_of (over m text))) tt (global_name gap (symbol_name (spelled_by m) s)) s tt
  symbol_spells gap s h =
      plain_spells {S = Unit {0}} text symbol_by tt (record { gap = gap; kind = kind.Global; bytes = 64 ∷ spelling (symbol_name (spelled_by m) s) }) s (ap (λ (x : Symbol). let r : Result Symbol Flaw = Ok x in r) h)

  -- ---- places

  abbrev place_by_kind : TokenKind → List ℕ → Result PlaceHead Flaw
  place_by_kind k spelling = bare_or (symbol_by k spelling) (kind_number k == kind_number kind.Word && bytes_eq spelling (codes "getelementptr"))

  bare_spells : (gap : List ℕ) (s : Symbol) → SymbolAgain s → Spells {S = Unit {0}} text (plain (place_head (over m text))) tt (global_name gap (symbol_name (spelled_by m) s)) (Bare s) tt
  bare_spells gap s h =
      plain_spells {S = Unit {0}} text place_by_kind tt (record { gap = gap; kind = kind.Global; bytes = 64 ∷ spelling (symbol_name (spelled_by m) s) }) (Bare s) (ap (λ (x : Symbol). let r : Result PlaceHead Flaw = Ok (Bare x) in r) h)

  word_spelled : (gap : List ℕ) → Spells {S = Unit {0}} text (plain (place_head (over m text))) tt (word gap (codes "getelementptr")) Gep tt
  word_spelled gap = plain_spells {S = Unit {0}} text place_by_kind tt (record { gap = gap; kind = kind.Word; bytes = codes "getelementptr" }) Gep refl

  no_flag : (gap : List ℕ) (rest : List Piece) → Begins text (is_flag text) false (sign gap (codes "(") ++ rest)
  no_flag gap rest = begins text (is_flag text) false (sign gap (codes "(") ++ rest) (λ token h.
      let p : Piece = record { gap = gap; kind = kind.Sign; bytes = codes "(" } in
      let a : is_word text (codes "inbounds") token ≡ false = word_tested text (codes "inbounds") p token h in
      let b : is_word text (codes "nusw") token ≡ false = word_tested text (codes "nusw") p token h in
      let c : is_word text (codes "nuw") token ≡ false = word_tested text (codes "nuw") p token h in
      λ i. a i || b i || c i)

  -- what stands behind the opening parenthesis
  abbrev gep_rest : Symbol → Ty → ℤ → List ℤ → List Piece
  gep_rest s base i all =
      type_pieces m.named base glued ++ (comma ++ (word spaced (codes "ptr") ++ (global_name spaced (symbol_name (spelled_by m) s) ++ (behind_commas index_pieces (i ∷ all) ++ sign glued (codes ")")))))

  gep_spells : (depth : ℕ) (s : Symbol) (base : Ty) (i : ℤ) (all : List ℤ) → SymbolAgain s → Spells text (a_type (over m text) depth) tt (type_pieces m.named base glued) base tt
      → Spells text (indices (over m text)) tt ((index_pieces i ++ behind_commas index_pieces all) ++ sign glued (codes ")")) (i ∷ all) tt
      → Spells text (gep_parts (over m text) depth) tt (sign spaced (codes "(") ++ gep_rest s base i all) (record { symbol = s; base = base; indices = i ∷ all }) tt
  unfolding gep_parts
  gep_spells depth s base i all named typed listed =
      let place : Place = record { symbol = s; base = base; indices = i ∷ all } in
      let steps : List Piece = (index_pieces i ++ behind_commas index_pieces all) ++ sign glued (codes ")") in
      let name : List Piece = global_name spaced (symbol_name (spelled_by m) s) in
      then_spells text _ _ tt tt tt (sign spaced (codes "(")) (gep_rest s base i all) tt place (sign_spells text spaced tt (codes "(") refl)
      (then_spells text _ _ tt tt tt (type_pieces m.named base glued) (comma ++ (word spaced (codes "ptr") ++ (name ++ (comma ++ steps)))) base place typed
      (then_spells text _ _ tt tt tt comma (word spaced (codes "ptr") ++ (name ++ (comma ++ steps))) tt place (sign_spells text glued tt (codes ",") refl)
      (then_spells text _ _ tt tt tt (word spaced (codes "ptr")) (name ++ (comma ++ steps)) tt place (word_spells text spaced tt (codes "ptr") refl)
      (then_spells text _ _ tt tt tt name (comma ++ steps) s place (symbol_spells spaced s named)
      (then_spells text _ _ tt tt tt comma steps tt place (sign_spells text glued tt (codes ",") refl)
      (made_spells text (indices (over m text)) (λ steps. record { symbol = s; base = base; indices = steps }) tt tt steps (i ∷ all) listed))))))

  record GepAgain (depth : ℕ) (place : Place) : Type 0 where
    pub rest : List Piece
    pub are : (gap : List ℕ) → place_pieces (spelled_by m) gap place ≡ word gap (codes "getelementptr") ++ (sign spaced (codes "(") ++ rest)
    pub spells : Spells text (gep_parts (over m text) depth) tt (sign spaced (codes "(") ++ rest) place tt

  gep_again : (depth : ℕ) (tokens : List Token) (place : Place) → (gep_parts m depth).means tt tokens place tt → GepAgain depth place
  unfolding gep_parts
  gep_again depth tokens place r =
      let typed = r.in_back in
      let named = typed.in_back.in_back.in_back in
      let listed = named.in_back.in_back in
      let base : Ty = typed.first in
      let s : Symbol = named.first in
      let x = indices_again m text listed.front listed.first listed.in_front in
      let y = gep_spells depth s base x.first x.others (symbol_read named.in_front.token s (kept_value tt (symbol_of m named.in_front.token) s tt named.in_front.value))
      (type_again m text bytes depth glued tt tt tt typed.front base tt typed.in_front).2 x.spells in
      let is : place ≡ record { symbol = s; base = base; indices = x.first ∷ x.others } = listed.in_back.1 ∙ ap (λ (l : List ℤ). let p : Place = record { symbol = s; base = base; indices = l } in p) x.are in
      subst (GepAgain depth) (sym is) (record { rest = gep_rest s base x.first x.others; are = λ gap. refl; spells = y })

  -- what stands behind the beginning of a place
  after_again : (depth : ℕ) (h : PlaceHead) (token : Token) (tokens : List Token) (place : Place) (gap : List ℕ) → place_head m token ≡ Ok h → (after_place_head m depth h).means tt tokens place tt
      → Spells text (a_place (over m text) depth) tt (place_pieces (spelled_by m) gap place) place tt
  unfolding a_place
  after_again depth (Bare s) token tokens place gap e r =
      subst (λ (p : Place). Spells text (plain (place_head (over m text)) >>= after_place_head (over m text) depth) tt (place_pieces (spelled_by m) gap p) p tt) (sym r.1)
      (then_spells text (plain (place_head (over m text))) (after_place_head (over m text) depth) tt tt tt (global_name gap (symbol_name (spelled_by m) s)) [] (Bare s) (record { symbol = s; base = ty.Void; indices = [] })
      (bare_spells gap s (symbol_read token s (from_bare (symbol_of m token) (is_word m.text (codes "getelementptr") token) s e))) (done_spells text tt (record { symbol = s; base = ty.Void; indices = [] })))
    where
      from_bare : (r : Result Symbol Flaw) (b : Bool) (s : Symbol) → bare_or r b ≡ Ok (Bare s) → r ≡ Ok s
      from_bare (Ok x) b s k = let same : x ≡ s = cc in ap (λ (y : Symbol). let r : Result Symbol Flaw = Ok y in r) same
      from_bare (Err flaw) true s k = absurd cc
      from_bare (Err flaw) false s k = absurd cc
  after_again depth Gep token tokens place gap e r =
      let x = gep_again depth r.back place r.read in
      subst (λ l. Spells text (plain (place_head (over m text)) >>= after_place_head (over m text) depth) tt l place tt) (sym (x.are gap))
      (then_spells text (plain (place_head (over m text))) (after_place_head (over m text) depth) tt tt tt (word gap (codes "getelementptr")) (sign spaced (codes "(") ++ x.rest) Gep place (word_spelled gap)
      (skipping.behind_spells text (is_flag text) (gep_parts (over m text) depth) tt (sign spaced (codes "(") ++ x.rest) place tt (no_flag spaced x.rest) x.spells))

  pub place_again : (depth : ℕ) (gap : List ℕ) → Again Units text (a_place m depth) (a_place (over m text) depth) (place_pieces (spelled_by m) gap)
  unfolding a_place
  place_again depth gap s z t tokens place like r =
      (tt, tt, after_again depth r.first r.in_front.token r.back place gap (kept_value tt (place_head m r.in_front.token) r.first tt r.in_front.value) r.in_back)
