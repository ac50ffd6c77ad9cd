-- What a text's definitions say: their names are new, and names are found at definitions alone.
use Rattle.std.proofs.Common.{◌≡◌, ℕ, suc, zero, ◌<◌, ◌≤◌, ◌+◌, Bool, true, false, ◌&&◌, ◌||◌, List, [], ◌∷◌, ◌++◌, length, map, drop, bytes_eq, position, codes, Option, Some, None, Result, Ok, Err, if◌then◌else◌, refl, sym, ap, subst, ◌∙◌, arith, true≢false, append_assoc, append-nil}
use Rattle.std.specs.List.{list_any, position_or_len}
use Rattle.std.proofs.lemmas.Bool.{lt-ltb, le-ltb}
use Rattle.no_lex.specs.declared.token.Token.{Token}
use Rattle.no_lex.specs.declared.token.TokenKind.TheVariants as kind
use Rattle.no_ir.specs.Naming.{is_known, with_name}
use Rattle.no_ir.specs.declared.types.Ty.{Ty}
use Rattle.no_read_rules.specs.declared.fault.Flaw.{Flaw}
use Rattle.no_read_rules.specs.declared.fault.Flaw.TheVariants.{Syntax}
use Rattle.no_read_rules.specs.Rules.{Rule, one, keeping}
use Rattle.no_read_rules.specs.Scope.{Meaning}
use Rattle.no_read_rules.specs.Spelled.{spelled, is_kind, is_word, is_sign, only_where}
use Rattle.no_read_rules.specs.Types.{a_type}
use Rattle.no_read_types.specs.declared.definition.Definition.{Definition}
use Rattle.no_read_types.specs.Lifting.{name_at, begins_definition, added_name, new_name, a_struct, a_definition, Piece, Kept, Defined, ArePieces, lifting_of, names_from}
use Rattle.no_round_trip.specs.Spells.{AreBytes}
use Rattle.no_round_trip.proofs.WordBytes.{bytes_name, bytes_spelled}
use Rattle.no_round_trip.proofs.RuleFound.{bytes_drop}
use Rattle.no_round_trip.proofs.RuleOpening.{kept_value}
use Rattle.no_round_trip.proofs.LiftEndings.{NoEquals, IsEnded, type_each, struct_type_ends, sign_kind, word_kind, only_holds}
use Rattle.no_round_trip.proofs.LiftPicks.{name_of, EachNew, Holds}
use Rattle.no_round_trip.proofs.LiftRenumbering.{struct_is, struct_passes}

-- ---- whether a name is known

any_within : {X : Type 0} (p : X → Bool) (xs : List X) → list_any p xs ≡ true → position_or_len p xs < length xs
any_within p [] e = absurd (true≢false (sym e))
any_within p (x ∷ xs) e = by (p x) refl e (any_within p xs)
  where
    by : (b : Bool) → p x ≡ b → (b || list_any p xs) ≡ true → (list_any p xs ≡ true → position_or_len p xs < length xs) → position_or_len p (x ∷ xs) < length (x ∷ xs)
    by true is e more = rw is (omega arith)
    by false is e more = let h = more e in rw is (omega arith)

none_whole : {X : Type 0} (p : X → Bool) (xs : List X) → list_any p xs ≡ false → position_or_len p xs ≡ length xs
none_whole p [] e = refl
none_whole p (x ∷ xs) e = by (p x) refl e (none_whole p xs)
  where
    by : (b : Bool) → p x ≡ b → (b || list_any p xs) ≡ false → (list_any p xs ≡ false → position_or_len p xs ≡ length xs) → position_or_len p (x ∷ xs) ≡ length (x ∷ xs)
    by true is e more = absurd (true≢false e)
    by false is e more = let h = more e in rw is (omega arith)

pub place_none : (names : List (List ℕ)) (name : List ℕ) → is_known names name ≡ false → position (bytes_eq name) names ≡ None
place_none names name e = let w = none_whole (bytes_eq name) names e in rw (w, le-ltb (length names) (length names) (omega arith)) refl

none_known : (names : List (List ℕ)) (name : List ℕ) → position (bytes_eq name) names ≡ None → is_known names name ≡ false
none_known names name e = by (is_known names name) refl
  where
    some_none : (n : ℕ) → Some n ≡ None → ⊥
    some_none n e = cc

    by : (b : Bool) → is_known names name ≡ b → b ≡ false
    by true is = let w = any_within (bytes_eq name) names is in absurd (some_none (position_or_len (bytes_eq name) names) (sym (rw (lt-ltb (position_or_len (bytes_eq name) names) (length names) w) refl) ∙ e))
    by false is = refl

-- ---- a new name

abbrev Named : Type 0
Named = (ℕ × List ℕ) × List (List ℕ)

abbrev okay : Named → Result Named Flaw
okay x = Ok x

from_okay : (x y : Named) → okay x ≡ okay y → x ≡ y
from_okay x y e = cc

record IsNew (text : List ℕ) (names : List (List ℕ)) (token : Token) (head : ℕ × List ℕ) (between : List (List ℕ)) : Type 0 where
  pub name : head.1 ≡ name_at text token
  pub new : is_known names (name_at text token) ≡ false
  pub state : between ≡ names ++ name_at text token ∷ []

new_is : (text : List ℕ) (names : List (List ℕ)) (token : Token) (head : ℕ × List ℕ) (between : List (List ℕ)) → new_name text names token ≡ Ok (head, between) → IsNew text names token head between
new_is text names token head between e = by (is_kind kind.Local token) (position (bytes_eq (name_at text token)) names) refl e
  where
    name : List ℕ
    name = name_at text token

    by : (b : Bool) (o : Option ℕ) → position (bytes_eq (name_at text token)) names ≡ o → (if b then added_name names token.start (name_at text token) o else Err Syntax) ≡ Ok (head, between) → IsNew text names token head between
    by true None p e =
        let x : ((token.start, name_at text token), with_name names (name_at text token)) ≡ (head, between) = from_okay ((token.start, name_at text token), with_name names (name_at text token)) (head, between) e in
        let k : is_known names (name_at text token) ≡ false = none_known names (name_at text token) p in
        record {
          name = sym (ap (λ (y : Named). y.0.1) x);
          new = k;
          state = sym (ap (λ (y : Named). y.1) x) ∙ ap (λ b. if b then names else names ++ name_at text token ∷ []) k;
        }
    by true (Some n) p e = absurd cc
    by false o p e = absurd cc

-- ---- where no definition begins

pub begins_no_name : (text : List ℕ) (t : Token) (ts : List Token) → is_kind kind.Local t ≡ false → begins_definition text (t ∷ ts) ≡ false
begins_no_name text t [] e = refl
begins_no_name text t (u ∷ []) e = refl
begins_no_name text t (u ∷ v ∷ ts) e = ap (λ b. b && (is_sign text (codes "=") u && is_word text (codes "type") v)) e

begins_no_sign : (text : List ℕ) (t u : Token) (ts : List Token) → is_sign text (codes "=") u ≡ false → begins_definition text (t ∷ u ∷ ts) ≡ false
begins_no_sign text t u [] e = refl
begins_no_sign text t u (v ∷ ts) e = ap (λ b. is_kind kind.Local t && (b && is_word text (codes "type") v)) e ∙ ends (is_kind kind.Local t)
  where
    ends : (b : Bool) → (b && false) ≡ false
    ends true = refl
    ends false = refl

pub kept_skips : (text : List ℕ) (names : List (List ℕ)) (t : Token) (ts : List Token) → begins_definition text (t ∷ ts) ≡ false → names_from text names (t ∷ ts) ≡ names_from text names ts
kept_skips text names t ts e = ap (λ b. names_from text (if b then with_name names (name_at text t) else names) ts) e

struct_skips : (text : List ℕ) (names : List (List ℕ)) (front : List Token) (last : Token) (back : List Token) → NoEquals text (front ++ last ∷ []) → is_kind kind.Local last ≡ false → names_from text names ((front ++ last ∷ []) ++ back) ≡ names_from text names back
struct_skips text names [] last back e l = kept_skips text names last back (begins_no_name text last back l)
struct_skips text names (t ∷ []) last back e l =
    kept_skips text names t (last ∷ back) (begins_no_sign text t last back e.1.0) ∙ struct_skips text names [] last back e.1 l
struct_skips text names (t ∷ u ∷ front) last back e l =
    kept_skips text names t (u ∷ ((front ++ last ∷ []) ++ back)) (begins_no_sign text t u ((front ++ last ∷ []) ++ back) e.1.0) ∙ struct_skips text names (u ∷ front) last back e.1 l

-- ---- one definition

-- a definition's type was read, and is a struct
pub record WasRead (m : Meaning) (d : Definition) : Type 0 where
  pub tokens : List Token
  pub read : (a_type m 64).means tt tokens d.ty tt
  pub struct : a_struct d.ty ≡ Ok d.ty
  pub bytes : AreBytes m.text → AreBytes d.name

pub record IsDefinition (m : Meaning) (names : List (List ℕ)) (front : List Token) (d : Definition) (between : List (List ℕ)) : Type 0 where
  pub new : is_known names d.name ≡ false
  pub state : between ≡ names ++ d.name ∷ []
  pub skips : (back : List Token) → begins_definition m.text (front ++ back) ≡ true → names_from m.text names (front ++ back) ≡ names_from m.text (names ++ d.name ∷ []) back
  pub was : WasRead m d

abbrev fine : Ty → Result Ty Flaw
fine t = Ok t

from_fine : (a b : Ty) → fine a ≡ fine b → a ≡ b
from_fine a b e = cc

struct_same : (t b : Ty) → a_struct t ≡ Ok b → t ≡ b
struct_same t b e = let s = struct_is t b e in from_fine t b (sym (struct_passes s.packed s.fields t s.is) ∙ e)

module _ (m : Meaning) (names : List (List ℕ)) (name e w : Token) (rest : List Token) (ended : IsEnded m.text rest) (none : NoEquals m.text rest)
    (sign : is_sign m.text (codes "=") e ≡ true) (word : is_word m.text (codes "type") w ≡ true) (new : is_known names (name_at m.text name) ≡ false) where
  rest_skips : (held : List (List ℕ)) (back : List Token) → names_from m.text held (rest ++ back) ≡ names_from m.text held back
  rest_skips held back =
      ap (λ l. names_from m.text held (l ++ back)) ended.parts ∙ struct_skips m.text held ended.front ended.last back (subst (NoEquals m.text) ended.parts none) ended.no_name

  whole_skips : (back : List Token) → begins_definition m.text (name ∷ e ∷ w ∷ (rest ++ back)) ≡ true → names_from m.text names (name ∷ e ∷ w ∷ (rest ++ back)) ≡ names_from m.text (names ++ name_at m.text name ∷ []) back
  whole_skips back begins =
      let held : List (List ℕ) = names ++ name_at m.text name ∷ [] in
      ap (λ b. names_from m.text (if b then with_name names (name_at m.text name) else names) (e ∷ w ∷ (rest ++ back))) begins
      ∙ ap (λ b. names_from m.text (if b then names else names ++ name_at m.text name ∷ []) (e ∷ w ∷ (rest ++ back))) new
      ∙ kept_skips m.text held e (w ∷ (rest ++ back)) (begins_no_name m.text e (w ∷ (rest ++ back)) (sign_kind m.text (codes "=") e sign))
      ∙ kept_skips m.text held w (rest ++ back) (begins_no_name m.text w (rest ++ back) (word_kind m.text (codes "type") w word))
      ∙ rest_skips held back

pub definition_is : (m : Meaning) (names : List (List ℕ)) (front : List Token) (d : Definition) (between : List (List ℕ)) → (a_definition m).means names front d between → IsDefinition m names front d between
unfolding a_definition
definition_is m names front d between r =
    let q = r.in_back in
    let w = q.in_back in
    let ty = w.in_back in
    let token : Token = r.in_front.token in
    let x = new_is m.text names token r.first r.between r.in_front.value in
    let is : d ≡ record { at = r.first.0; name = r.first.1; ty = ty.first } = ty.in_back.1 in
    let named : name_at m.text token ≡ d.name = sym (ap name_of is ∙ x.name) in
    let typed : ty.in_front.value ≡ d.ty = struct_same ty.in_front.value ty.first ty.in_front.passes ∙ sym (ap (λ (d : Definition). d.ty) is) in
    let state : between ≡ r.between = ty.in_back.2 ∙ ty.in_front.read.1 ∙ w.in_front.1 ∙ q.in_front.1 in
    let struct : a_struct d.ty ≡ Ok d.ty = (let s = struct_is ty.in_front.value ty.first ty.in_front.passes in struct_passes s.packed s.fields d.ty (sym typed ∙ s.is)) in
    let read : (a_type m 64).means tt ty.front d.ty tt = subst (λ t. (a_type m 64).means tt ty.front t tt) typed ty.in_front.read.0 in
    let ended : IsEnded m.text ty.front = struct_type_ends m 63 ty.front d.ty d.ty struct read in
    let none : NoEquals m.text ty.front = (type_each m 64).each tt tt ty.front d.ty read in
    let e : Token = q.in_front.0.token in
    let t : Token = w.in_front.0.token in
    let sign : is_sign m.text (codes "=") e ≡ true = only_holds (is_sign m.text (codes "=") e) (kept_value tt (only_where (is_sign m.text (codes "=") e)) q.first tt q.in_front.0.value) in
    let word : is_word m.text (codes "type") t ≡ true = only_holds (is_word m.text (codes "type") t) (kept_value tt (only_where (is_word m.text (codes "type") t)) w.first tt w.in_front.0.value) in
    let tail : ty.front ++ ty.back ≡ ty.front = ap (λ l. ty.front ++ l) ty.in_back.0 ∙ append-nil ty.front in
    let behind_word : w.front ++ w.back ≡ t ∷ ty.front = ap (λ l. l ++ w.back) w.in_front.0.alone ∙ ap (λ l. t ∷ l) (ty.parts ∙ tail) in
    let behind_sign : q.front ++ q.back ≡ e ∷ t ∷ ty.front = ap (λ l. l ++ q.back) q.in_front.0.alone ∙ ap (λ l. e ∷ l) (w.parts ∙ behind_word) in
    let all : front ≡ token ∷ e ∷ t ∷ ty.front = r.parts ∙ ap (λ l. l ++ r.back) r.in_front.alone ∙ ap (λ l. token ∷ l) (q.parts ∙ behind_sign) in
    record {
      new = subst (λ n. is_known names n ≡ false) named x.new;
      state = state ∙ x.state ∙ ap (λ n. names ++ n ∷ []) named;
      skips = λ back begins. ap (λ l. names_from m.text names (l ++ back)) all ∙ whole_skips m names token e t ty.front ended none sign word x.new back (ap (λ l. begins_definition m.text (l ++ back)) (sym all) ∙ begins) ∙ ap (λ n. names_from m.text (names ++ n ∷ []) back) named;
      was = record {
        tokens = ty.front;
        read = read;
        struct = struct;
        bytes = λ b. subst AreBytes named (bytes_name (drop 1 (spelled m.text token)) (bytes_drop 1 (spelled m.text token) (bytes_spelled m.text token b)));
      };
    }

-- ---- all definitions

pub record AreNamed (m : Meaning) (names : List (List ℕ)) (tokens : List Token) (ds : List Definition) : Type 0 where
  pub found : names_from m.text names tokens ≡ names ++ map name_of ds
  pub new : EachNew names (map name_of ds)
  pub each : Holds (WasRead m) ds

pub pieces_named : (m : Meaning) (names : List (List ℕ)) (tokens : List Token) (pieces : List Piece) → ArePieces m names tokens pieces → AreNamed m names tokens (lifting_of pieces).defined
pieces_named m names tokens [] e = record { found = ap (names_from m.text names) e ∙ sym (append-nil names); new = tt; each = tt }
pieces_named m names tokens (Kept token ∷ pieces) k =
    let more = pieces_named m names k.back pieces k.others in
    record {
      found = ap (names_from m.text names) k.parts ∙ kept_skips m.text names token k.back (ap (begins_definition m.text) (sym k.parts) ∙ k.begins) ∙ more.found;
      new = more.new;
      each = more.each;
    }
pieces_named m names tokens (Defined d ∷ pieces) k =
    let x = definition_is m names k.front d k.between k.definition in
    let more = pieces_named m k.between k.back pieces k.others in
    record {
      found = ap (names_from m.text names) k.parts ∙ x.skips k.back (ap (begins_definition m.text) (sym k.parts) ∙ k.begins) ∙ ap (λ l. names_from m.text l k.back) (sym x.state) ∙ more.found
          ∙ ap (λ l. l ++ map name_of (lifting_of pieces).defined) x.state ∙ append_assoc names (d.name ∷ []) (map name_of (lifting_of pieces).defined);
      new = (x.new, subst (λ l. EachNew l (map name_of (lifting_of pieces).defined)) x.state more.new);
      each = (x.was, more.each);
    }
