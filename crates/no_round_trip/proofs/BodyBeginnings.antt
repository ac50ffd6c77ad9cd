-- With which tokens types and constants begin.
use Rattle.std.proofs.Common.{◌≡◌, ℕ, suc, zero, Bool, true, false, ◌&&◌, ◌==◌, List, bytes_eq, codes, Result, Ok, Err, if◌then◌else◌, refl, sym, subst}
use Rattle.std.proofs.lemmas.Slice.Eq.{bytes_eq-Decides}
use Rattle.no_lex.specs.declared.token.Token.{Token}
use Rattle.no_lex.specs.declared.token.TokenKind.{TokenKind}
use Rattle.no_lex.specs.declared.token.TokenKind.TheVariants as kind
use Rattle.no_ir.specs.declared.types.Ty.{Ty}
use Rattle.no_read_rules.specs.declared.fault.Flaw.{Flaw}
use Rattle.no_read_rules.specs.declared.fault.Flaw.TheVariants.{Syntax, LeftOut}
use Rattle.no_read_rules.specs.declared.types.TypeHead.{TypeHead}
use Rattle.no_read_rules.specs.Rules.{plain}
use Rattle.no_read_rules.specs.Scope.{Meaning}
use Rattle.no_read_rules.specs.Spelled.{spelled, kind_number, is_kind, is_word}
use Rattle.no_read_rules.specs.Types.{word_type, head_by, type_head, leaf_of, after_type_head, a_type}
use Rattle.no_read_constants.specs.Places.{symbol_named, bare_or, place_head, after_place_head, a_place, truth_at, begins_place}
use Rattle.no_read_constants.specs.declared.places.PlaceHead.{PlaceHead}
use Rattle.no_read_constants.specs.Constants.{resolved, shape_of, word_at, word_const, leaf_by, leaf_head, as_leaf, const_by, const_head, after_leaf, address, after_head, flat_const, bracket_const, a_const}
use Rattle.no_read_constants.specs.declared.constants.Shape.{Shape}
use Rattle.no_read_constants.specs.declared.constants.Shape.TheVariants as shape
use Rattle.no_read_constants.specs.declared.constants.LeafHead.{LeafHead}
use Rattle.no_read_constants.specs.declared.constants.ConstHead.{ConstHead}
use Rattle.no_read_attributes.specs.Attributes.{begins_by, begins_attribute}
use Rattle.no_round_trip.proofs.RuleOpening.{Opens, plain_opens, then_opens, checked_opens, if_next_opens}

-- a property of a word that is one of these
word_is : (P : List ℕ → Type 0) (bytes w : List ℕ) → P w → bytes_eq bytes w ≡ true → P bytes
word_is P bytes w h e = subst P (sym ((bytes_eq-Decides bytes w).0 e)) h

module _ {X : Type 0} (P : List ℕ → Type 0) (bytes : List ℕ) (x : X) where
  -- either it is this word, or another
  turn : (w : List ℕ) (r other : Result X Flaw) → P w → (other ≡ Ok x → P bytes) → (if bytes_eq bytes w then r else other) ≡ Ok x → P bytes
  turn w r other here more e = by (bytes_eq bytes w) refl e
    where
      by : (b : Bool) → bytes_eq bytes w ≡ b → (if b then r else other) ≡ Ok x → P bytes
      by true is k = word_is P bytes w here is
      by false is k = more k

-- ---- types

record TypeWords (P : List ℕ → Type 0) : Type 0 where
  pub one : P (codes "i1")
  pub byte : P (codes "i8")
  pub short : P (codes "i16")
  pub half : P (codes "i32")
  pub full : P (codes "i64")
  pub pointer : P (codes "ptr")

type_word : (P : List ℕ → Type 0) (bytes : List ℕ) (h : TypeHead) → TypeWords P → word_type bytes ≡ Ok h → P bytes
type_word P bytes h p e =
    turn P bytes h (codes "i1") _ _ p.one (λ e.
    turn P bytes h (codes "i8") _ _ p.byte (λ e.
    turn P bytes h (codes "i16") _ _ p.short (λ e.
    turn P bytes h (codes "i32") _ _ p.half (λ e.
    turn P bytes h (codes "i64") _ _ p.full (λ e.
    turn P bytes h (codes "ptr") _ _ p.pointer (λ e. none (bytes_eq bytes (codes "label")) e) e) e) e) e) e) e
  where
    none : (b : Bool) → (if b then Err LeftOut else Err Syntax) ≡ Ok h → P bytes
    none true k = absurd cc
    none false k = absurd cc

-- a test of a token by its kind and bytes
abbrev pub by_test : (TokenKind → List ℕ → Bool) → List ℕ → Token → Bool
by_test test text token = test token.kind (spelled text token)

-- a test that no beginning of a type passes
record NoType (test : TokenKind → List ℕ → Bool) : Type 0 where
  pub words : TypeWords (λ bytes. test kind.Word bytes ≡ false)
  pub signs : (bytes : List ℕ) → test kind.Sign bytes ≡ false
  pub locals : (bytes : List ℕ) → test kind.Local bytes ≡ false

module _ (test : TokenKind → List ℕ → Bool) (no : NoType test) where
  no_head : (m : Meaning) (k : TokenKind) (bytes : List ℕ) (h : TypeHead) → head_by m k bytes ≡ Ok h → test k bytes ≡ false
  no_head m kind.Word bytes h e = type_word (λ bytes. test kind.Word bytes ≡ false) bytes h no.words e
  no_head m kind.Sign bytes h e = no.signs bytes
  no_head m kind.Local bytes h e = no.locals bytes
  no_head m _ bytes h e = absurd cc

  type_begins : (m : Meaning) (depth : ℕ) → Opens (by_test test m.text) false (a_type m depth)
  unfolding a_type
  type_begins m zero = checked_opens (by_test test m.text) false (plain (type_head m)) leaf_of (plain_opens (by_test test m.text) false (type_head m) (λ token h e. no_head m token.kind (spelled m.text token) h e))
  type_begins m (suc depth) =
      then_opens (by_test test m.text) false (plain (type_head m)) (after_type_head m (a_type m depth)) (plain_opens (by_test test m.text) false (type_head m) (λ token h e. no_head m token.kind (spelled m.text token) h e))

-- words that a type does not begin with
pub record OtherWord (w : List ℕ) : Type 0 where
  pub one : bytes_eq (codes "i1") w ≡ false
  pub byte : bytes_eq (codes "i8") w ≡ false
  pub short : bytes_eq (codes "i16") w ≡ false
  pub half : bytes_eq (codes "i32") w ≡ false
  pub full : bytes_eq (codes "i64") w ≡ false
  pub pointer : bytes_eq (codes "ptr") w ≡ false

abbrev word_test : List ℕ → TokenKind → List ℕ → Bool
word_test w k bytes = kind_number k == kind_number kind.Word && bytes_eq bytes w

pub type_no_word : (m : Meaning) (depth : ℕ) (w : List ℕ) → OtherWord w → Opens (is_word m.text w) false (a_type m depth)
type_no_word m depth w o =
    type_begins (word_test w) (record { words = record { one = o.one; byte = o.byte; short = o.short; half = o.half; full = o.full; pointer = o.pointer }; signs = λ bytes. refl; locals = λ bytes. refl }) m depth

pub type_no_attribute : (m : Meaning) (depth : ℕ) → Opens (begins_attribute m.text) false (a_type m depth)
type_no_attribute m depth =
    type_begins begins_by (record { words = record { one = refl; byte = refl; short = refl; half = refl; full = refl; pointer = refl }; signs = λ bytes. refl; locals = λ bytes. refl }) m depth

-- ---- constants

record ConstWords (P : List ℕ → Type 0) : Type 0 where
  pub undefined : P (codes "undef")
  pub poison : P (codes "poison")
  pub zeros : P (codes "zeroinitializer")
  pub null : P (codes "null")
  pub from_pointer : P (codes "ptrtoint")
  pub to_pointer : P (codes "inttoptr")
  pub yes : P (codes "true")
  pub no : P (codes "false")
  pub address : P (codes "getelementptr")

truth_word : (P : List ℕ → Type 0) (w : ℕ) (bytes : List ℕ) (n : ℕ) → ConstWords P → truth_at w bytes ≡ Ok n → P bytes
truth_word P w bytes n p e = by (w == 1) (bytes_eq bytes (codes "true")) (bytes_eq bytes (codes "false")) refl refl e
  where
    by : (o t f : Bool) → bytes_eq bytes (codes "true") ≡ t → bytes_eq bytes (codes "false") ≡ f → (if o && t then Ok 1 else (if o && f then Ok 0 else Err Syntax)) ≡ Ok n → P bytes
    by true true f is also k = word_is P bytes (codes "true") p.yes is
    by true false true is also k = word_is P bytes (codes "false") p.no also
    by true false false is also k = absurd cc
    by false t f is also k = absurd cc

last_word : (P : List ℕ → Type 0) (s : Shape) (bytes : List ℕ) (l : LeafHead) → ConstWords P → word_at s bytes ≡ Ok l → P bytes
last_word P (shape.Int w) bytes l p e = by (truth_at w bytes) refl e
  where
    by : (r : Result ℕ Flaw) → truth_at w bytes ≡ r → word_at (shape.Int w) bytes ≡ Ok l → P bytes
    by (Ok n) is k = truth_word P w bytes n p is
    by (Err flaw) is k = let q : (let x : Result LeafHead Flaw = Err flaw in x) ≡ Ok l = rw is at k in absurd cc
last_word P shape.Ptr bytes l p e = absurd cc
last_word P shape.Array bytes l p e = absurd cc
last_word P shape.Struct bytes l p e = absurd cc
last_word P shape.Other bytes l p e = absurd cc

const_word : (P : List ℕ → Type 0) (s : Shape) (bytes : List ℕ) (l : LeafHead) → ConstWords P → word_const s bytes ≡ Ok l → P bytes
const_word P s bytes l p e =
    turn P bytes l (codes "undef") _ _ p.undefined (λ e.
    turn P bytes l (codes "poison") _ _ p.poison (λ e.
    turn P bytes l (codes "zeroinitializer") _ _ p.zeros (λ e.
    turn P bytes l (codes "null") _ _ p.null (λ e.
    turn P bytes l (codes "ptrtoint") _ _ p.from_pointer (λ e.
    turn P bytes l (codes "inttoptr") _ _ p.to_pointer (λ e. last_word P s bytes l p e) e) e) e) e) e) e

-- a test that no beginning of a constant passes
record NoConst (test : TokenKind → List ℕ → Bool) : Type 0 where
  pub words : ConstWords (λ bytes. test kind.Word bytes ≡ false)
  pub integers : (bytes : List ℕ) → test kind.Integer bytes ≡ false
  pub marks : (bytes : List ℕ) → test kind.CMark bytes ≡ false
  pub signs : (bytes : List ℕ) → test kind.Sign bytes ≡ false
  pub globals : (bytes : List ℕ) → test kind.Global bytes ≡ false

module _ (test : TokenKind → List ℕ → Bool) (no : NoConst test) where
  no_leaf : (s : Shape) (k : TokenKind) (bytes : List ℕ) (l : LeafHead) → leaf_by s k bytes ≡ Ok l → test k bytes ≡ false
  no_leaf s kind.Word bytes l e = const_word (λ bytes. test kind.Word bytes ≡ false) s bytes l no.words e
  no_leaf s kind.Integer bytes l e = no.integers bytes
  no_leaf s kind.CMark bytes l e = no.marks bytes
  no_leaf s _ bytes l e = absurd cc

  under : (r : Result LeafHead Flaw) (h : ConstHead) → as_leaf r ≡ Ok h → (l : LeafHead) × (r ≡ Ok l)
  under (Ok l) h e = (l, refl)
  under (Err flaw) h e = absurd cc

  no_bracket : (s : Shape) (k : TokenKind) (bytes : List ℕ) (h : ConstHead) → const_by s k bytes ≡ Ok h → test k bytes ≡ false
  no_bracket s kind.Sign bytes h e = no.signs bytes
  no_bracket s kind.Word bytes h e = let x = under (leaf_by s kind.Word bytes) h e in no_leaf s kind.Word bytes x.0 x.1
  no_bracket s kind.Integer bytes h e = no.integers bytes
  no_bracket s kind.CMark bytes h e = no.marks bytes
  no_bracket s _ bytes h e = absurd cc

  abbrev place_by : Meaning → TokenKind → List ℕ → List ℕ → Result PlaceHead Flaw
  place_by m k bytes name = bare_or (if kind_number k == kind_number kind.Global then Ok (symbol_named m name) else Err Syntax) (kind_number k == kind_number kind.Word && bytes_eq bytes (codes "getelementptr"))

  no_place : (m : Meaning) (k : TokenKind) (bytes name : List ℕ) (h : PlaceHead) → place_by m k bytes name ≡ Ok h → test k bytes ≡ false
  no_place m kind.Global bytes name h e = no.globals bytes
  no_place m kind.Word bytes name h e = by (bytes_eq bytes (codes "getelementptr")) refl e
    where
      by : (b : Bool) → bytes_eq bytes (codes "getelementptr") ≡ b → bare_or (Err Syntax) b ≡ Ok h → test kind.Word bytes ≡ false
      by true is k = word_is (λ bytes. test kind.Word bytes ≡ false) bytes (codes "getelementptr") no.words.address is
      by false is k = absurd cc
  no_place m _ bytes name h e = absurd cc

  address_begins : (m : Meaning) (depth : ℕ) → Opens (by_test test m.text) false (address m depth)
  unfolding address a_place
  address_begins m depth =
      then_opens (by_test test m.text) false _ _ (then_opens (by_test test m.text) false (plain (place_head m)) (after_place_head m depth)
      (plain_opens (by_test test m.text) false (place_head m) (λ token h e. no_place m token.kind (spelled m.text token) _ h e)))

  const_begins : (m : Meaning) (depth : ℕ) (t : Ty) → Opens (by_test test m.text) false (a_const m depth t)
  unfolding a_const
  const_begins m zero t =
      if_next_opens (by_test test m.text) false (begins_place m.text) (address m zero) (flat_const m t) (address_begins m zero)
      (then_opens (by_test test m.text) false (plain (leaf_head m.text (shape_of (resolved m t)))) (after_leaf m zero t)
      (plain_opens (by_test test m.text) false (leaf_head m.text (shape_of (resolved m t))) (λ token l e. no_leaf (shape_of (resolved m t)) token.kind (spelled m.text token) l e)))
  const_begins m (suc depth) t =
      if_next_opens (by_test test m.text) false (begins_place m.text) (address m (suc depth)) (bracket_const m depth (a_const m depth) t) (address_begins m (suc depth))
      (then_opens (by_test test m.text) false (plain (const_head m.text (shape_of (resolved m t)))) (after_head m depth (a_const m depth) t)
      (plain_opens (by_test test m.text) false (const_head m.text (shape_of (resolved m t))) (λ token h e. no_bracket (shape_of (resolved m t)) token.kind (spelled m.text token) h e)))

abbrev kind_test : TokenKind → TokenKind → List ℕ → Bool
kind_test want k bytes = kind_number k == kind_number want

pub const_no_local : (m : Meaning) (depth : ℕ) (t : Ty) → Opens (is_kind kind.Local) false (a_const m depth t)
const_no_local m depth t =
    const_begins (kind_test kind.Local) (record {
      words = record { undefined = refl; poison = refl; zeros = refl; null = refl; from_pointer = refl; to_pointer = refl; yes = refl; no = refl; address = refl };
      integers = λ bytes. refl;
      marks = λ bytes. refl;
      signs = λ bytes. refl;
      globals = λ bytes. refl;
    }) m depth t

pub const_no_attribute : (m : Meaning) (depth : ℕ) (t : Ty) → Opens (begins_attribute m.text) false (a_const m depth t)
const_no_attribute m depth t =
    const_begins begins_by (record {
      words = record { undefined = refl; poison = refl; zeros = refl; null = refl; from_pointer = refl; to_pointer = refl; yes = refl; no = refl; address = refl };
      integers = λ bytes. refl;
      marks = λ bytes. refl;
      signs = λ bytes. refl;
      globals = λ bytes. refl;
    }) m depth t
