-- No token of a struct type is an equals sign, and the last is no name: no definition begins inside of another.
use Rattle.std.proofs.Common.{◌≡◌, ℕ, suc, zero, Bool, true, false, ◌&&◌, ◌==◌, List, [], ◌∷◌, ◌++◌, bytes_eq, codes, Option, Some, None, Result, Ok, Err, if◌then◌else◌, inl, inr, refl, sym, ap, subst, ◌∙◌, append_assoc, append-nil, true≢false}
use Rattle.std.proofs.lemmas.Bool.{eqb-true, and_parts}
use Rattle.std.proofs.lemmas.Slice.Eq.{bytes_eq-Decides}
use Rattle.no_lex.specs.declared.token.Token.{Token}
use Rattle.no_lex.specs.declared.token.TokenKind.{TokenKind}
use Rattle.no_lex.specs.declared.token.TokenKind.TheVariants as kind
use Rattle.no_ir.specs.declared.types.Ty.{Ty, out-Ty}
use Rattle.no_ir.specs.declared.types.Ty.TheOpen.{Ty-F}
use Rattle.no_ir.specs.declared.types.Ty.TheVariants as ty
use Rattle.no_ir.specs.declared.types.Ty.TheVariants.{rolls-Int, rolls-Ptr, rolls-Array, rolls-Named}
use Rattle.no_read_rules.specs.declared.fault.Flaw.{Flaw}
use Rattle.no_read_rules.specs.declared.fault.Flaw.TheVariants.{Syntax}
use Rattle.no_read_rules.specs.declared.types.TypeHead.{TypeHead}
use Rattle.no_read_rules.specs.declared.types.TypeHead.TheVariants as head
use Rattle.no_read_rules.specs.Lists.{closes_list, more_item, some_items, no_items, items}
use Rattle.no_read_rules.specs.Repeated.{repeat}
use Rattle.no_read_rules.specs.Rules.{Rule, plain, keeping, done, ◌>>=◌, choose, checked}
use Rattle.no_read_rules.specs.Scope.{Meaning}
use Rattle.no_read_rules.specs.Spelled.{spelled, kind_number, is_kind, is_word, is_sign, only_where, a_word, a_sign}
use Rattle.no_read_rules.specs.Types.{type_head, leaf_of, count_token, array_parts, struct_parts, packed_parts, after_type_head, a_type}
use Rattle.no_read_rules.specs.Numbers.{count_of}
use Rattle.no_read_types.specs.Lifting.{a_struct, struct_in}
use Rattle.no_round_trip.proofs.RuleOpening.{kept_value}
use Rattle.no_round_trip.proofs.TypeHeads.{head_no_sign}
use Rattle.no_round_trip.proofs.LiftRenumbering.{out_at}

-- ---- single tokens

pub kind_other : (a b : TokenKind) (token : Token) → (kind_number a == kind_number b) ≡ false → is_kind a token ≡ true → is_kind b token ≡ false
kind_other a b token differ e = ap (λ n. n == kind_number b) (eqb-true (kind_number token.kind) (kind_number a) e) ∙ differ

pub sign_kind : (text sign : List ℕ) (token : Token) → is_sign text sign token ≡ true → is_kind kind.Local token ≡ false
sign_kind text sign token e = kind_other kind.Sign kind.Local token refl (and_parts (is_kind kind.Sign token) (bytes_eq (spelled text token) sign) e).0

pub word_kind : (text word : List ℕ) (token : Token) → is_word text word token ≡ true → is_kind kind.Local token ≡ false
word_kind text word token e = kind_other kind.Word kind.Local token refl (and_parts (is_kind kind.Word token) (bytes_eq (spelled text token) word) e).0

kind_no_sign : (text sign : List ℕ) (k : TokenKind) (token : Token) → (kind_number k == kind_number kind.Sign) ≡ false → is_kind k token ≡ true → is_sign text sign token ≡ false
kind_no_sign text sign k token differ e = ap (λ b. b && bytes_eq (spelled text token) sign) (kind_other k kind.Sign token differ e)

sign_other : (text a b : List ℕ) (token : Token) → bytes_eq a b ≡ false → is_sign text a token ≡ true → is_sign text b token ≡ false
sign_other text a b token differ e =
    let parts = and_parts (is_kind kind.Sign token) (bytes_eq (spelled text token) a) e in
    ap (λ x. x && bytes_eq (spelled text token) b) parts.0 ∙ ap (λ x. bytes_eq x b) ((bytes_eq-Decides (spelled text token) a).0 parts.1) ∙ differ

pub only_holds : (b : Bool) → only_where b ≡ Ok tt → b ≡ true
only_holds true e = refl
only_holds false e = absurd cc

-- ---- each token, and the last one

module _ (text : List ℕ) where
  abbrev is_equals : Token → Bool
  is_equals = is_sign text (codes "=")

  -- no token is an equals sign
  abbrev pub NoEquals : List Token → Type 0
  NoEquals [] = Unit {0}
  NoEquals (t ∷ tokens) = (is_sign text (codes "=") t ≡ false) × NoEquals tokens

  pub no_equals_append : (a b : List Token) → NoEquals a → NoEquals b → NoEquals (a ++ b)
  no_equals_append [] b x y = y
  no_equals_append (t ∷ a) b x y = (x.0, no_equals_append a b x.1 y)

  -- the last of these tokens is a sign
  pub record IsEnded (tokens : List Token) : Type 0 where
    pub front : List Token
    pub last : Token
    pub parts : tokens ≡ front ++ last ∷ []
    pub no_name : is_kind kind.Local last ≡ false

  ended_behind : (a b : List Token) → IsEnded b → IsEnded (a ++ b)
  ended_behind a b e = record { front = a ++ e.front; last = e.last; parts = ap (λ l. a ++ l) e.parts ∙ sym (append_assoc a e.front (e.last ∷ [])); no_name = e.no_name }

  -- ---- rules

  pub record Each {A : Type 0} (p : Rule (Unit {0}) A) : Type 0 where
    pub each : (s t : Unit {0}) (tokens : List Token) (a : A) → p.means s tokens a t → NoEquals tokens

  pub record Ends {A : Type 0} (p : Rule (Unit {0}) A) : Type 0 where
    pub ends : (s t : Unit {0}) (tokens : List Token) (a : A) → p.means s tokens a t → IsEnded tokens

  done_each : {A : Type 0} (a : A) → Each (done a)
  done_each a = record { each = λ s t tokens b m. subst NoEquals (sym m.0) tt }

  module _ {A : Type 0} (f : Token → Result A Flaw) where
    plain_each : ((token : Token) (a : A) → f token ≡ Ok a → is_equals token ≡ false) → Each (plain f)
    plain_each h = record { each = λ s t tokens a m. subst NoEquals (sym m.alone) (h m.token a (kept_value s (f m.token) a t m.value), tt) }

    plain_ends : ((token : Token) (a : A) → f token ≡ Ok a → is_kind kind.Local token ≡ false) → Ends (plain f)
    plain_ends h = record { ends = λ s t tokens a m. record { front = []; last = m.token; parts = m.alone; no_name = h m.token a (kept_value s (f m.token) a t m.value) } }

  module _ {A B : Type 0} (p : Rule (Unit {0}) A) (q : A → Rule (Unit {0}) B) where
    then_each : Each p → ((a : A) → Each (q a)) → Each (p >>= q)
    then_each x y = record { each = λ s t tokens b m. subst NoEquals (sym m.parts) (no_equals_append m.front m.back (x.each s m.between m.front m.first m.in_front) ((y m.first).each m.between t m.back b m.in_back)) }

    then_ends : ((a : A) → Ends (q a)) → Ends (p >>= q)
    then_ends y = record { ends = λ s t tokens b m. subst IsEnded (sym m.parts) (ended_behind m.front m.back ((y m.first).ends m.between t m.back b m.in_back)) }

  -- a value made of what a rule gives
  made_ends : {A B : Type 0} (p : Rule (Unit {0}) A) (f : A → B) → Ends p → Ends (p >>= λ a. done (f a))
  made_ends p f x = record { ends = λ s t tokens b m. subst IsEnded (sym (m.parts ∙ ap (λ l. m.front ++ l) m.in_back.0 ∙ append-nil m.front)) (x.ends s m.between m.front m.first m.in_front) }

  word_each : (word : List ℕ) → Each (a_word text word)
  word_each word = plain_each (λ token. only_where (is_word text word token)) (λ token a e. kind_no_sign text (codes "=") kind.Word token refl (and_parts (is_kind kind.Word token) (bytes_eq (spelled text token) word) (only_holds (is_word text word token) e)).0)

  sign_each : (sign : List ℕ) → bytes_eq sign (codes "=") ≡ false → Each (a_sign text sign)
  sign_each sign differ = plain_each (λ token. only_where (is_sign text sign token)) (λ token a e. sign_other text sign (codes "=") token differ (only_holds (is_sign text sign token) e))

  sign_ends : (sign : List ℕ) → Ends (a_sign text sign)
  sign_ends sign = plain_ends (λ token. only_where (is_sign text sign token)) (λ token a e. sign_kind text sign token (only_holds (is_sign text sign token) e))

  count_each : Each (plain (count_token text))
  count_each = plain_each (count_token text) (λ token a e. by token a (is_kind kind.Integer token) refl e)
    where
      by : (token : Token) (a : ℕ) (b : Bool) → is_kind kind.Integer token ≡ b → (if b then count_of (spelled text token) else Err Syntax) ≡ Ok a → is_equals token ≡ false
      by token a true is e = kind_no_sign text (codes "=") kind.Integer token refl is
      by token a false is e = absurd cc

  -- ---- lists

  module _ {A : Type 0} (close : List ℕ) (differ : bytes_eq close (codes "=") ≡ false) (item : Rule (Unit {0}) A) where
    abbrev closing : Token → Result Bool Flaw
    closing = closes_list text close

    closing_is : (token : Token) (b : Bool) → closing token ≡ Ok b → (is_equals token ≡ false) × (is_kind kind.Local token ≡ false)
    closing_is token b e = by (is_sign text close token) (is_sign text (codes ",") token) refl refl e
      where
        by : (x y : Bool) → is_sign text close token ≡ x → is_sign text (codes ",") token ≡ y → (if x then Ok true else (if y then Ok false else Err Syntax)) ≡ Ok b → (is_equals token ≡ false) × (is_kind kind.Local token ≡ false)
        by true y p q e = (sign_other text close (codes "=") token differ p, sign_kind text close token p)
        by false true p q e = (sign_other text (codes ",") (codes "=") token refl q, sign_kind text (codes ",") token q)
        by false false p q e = absurd cc

    module _ (x : Each item) where
      chosen_each : (b : Bool) → Each (choose b (done None) (item >>= λ a. done (Some a)))
      chosen_each true = done_each None
      chosen_each false = then_each item (λ a. done (Some a)) x (λ a. done_each (Some a))

      more_each : Each (more_item text close item)
      unfolding more_item
      more_each = then_each (plain closing) (λ closes. choose closes (done None) (item >>= λ a. done (Some a))) (plain_each closing (λ token b e. (closing_is token b e).0)) chosen_each

      repeated_each : (s t : Unit {0}) (tokens : List Token) (all : List A) → (repeat (more_item text close item)).means s tokens all t → NoEquals tokens
      repeated_each s t tokens [] m = more_each.each s t tokens None m
      repeated_each s t tokens (a ∷ all) m = subst NoEquals (sym m.parts) (no_equals_append m.front m.back (more_each.each s m.between m.front (Some a) m.item) (repeated_each m.between t m.back all m.others))

      some_each : Each (some_items text close item)
      unfolding some_items
      some_each = then_each item (λ first. repeat (more_item text close item) >>= λ others. done (first ∷ others)) x
          (λ a. then_each (repeat (more_item text close item)) (λ others. done (a ∷ others)) (record { each = repeated_each }) (λ others. done_each (a ∷ others)))

      none_each : Each (no_items {A = A} text close)
      unfolding no_items
      none_each = then_each (a_sign text close) (λ _. done []) (sign_each close differ) (λ _. done_each [])

      items_mean : (s t : Unit {0}) (tokens : List Token) (all : List A) → (items text close item).means s tokens all t → NoEquals tokens
      unfolding items
      items_mean s t tokens all (inl m) = none_each.each s t tokens all m.1
      items_mean s t tokens all (inr m) = some_each.each s t tokens all m.1

      items_each : Each (items text close item)
      items_each = record { each = items_mean }

    -- the last step closes the list
    closed_ends : (s t : Unit {0}) (tokens : List Token) → (more_item text close item).means s tokens None t → IsEnded tokens
    unfolding more_item
    closed_ends s t tokens m = by m.first m.in_back
      where
        by : (b : Bool) → (choose b (done None) (item >>= λ a. done (Some a))).means m.between m.back None t → IsEnded tokens
        by true d = record {
          front = [];
          last = m.in_front.token;
          parts = m.parts ∙ ap (λ l. m.front ++ l) d.0 ∙ append-nil m.front ∙ m.in_front.alone;
          no_name = (closing_is m.in_front.token m.first (kept_value s (closing m.in_front.token) m.first m.between m.in_front.value)).1;
        }
        by false d = absurd (none_some d.first d.in_back.1)
          where
            none_some : (a : A) → None ≡ Some a → ⊥
            none_some a e = cc

    repeated_ends : (s t : Unit {0}) (tokens : List Token) (all : List A) → (repeat (more_item text close item)).means s tokens all t → IsEnded tokens
    repeated_ends s t tokens [] m = closed_ends s t tokens m
    repeated_ends s t tokens (a ∷ all) m = subst IsEnded (sym m.parts) (ended_behind m.front m.back (repeated_ends m.between t m.back all m.others))

    some_ends : Ends (some_items text close item)
    unfolding some_items
    some_ends = then_ends item (λ first. repeat (more_item text close item) >>= λ others. done (first ∷ others))
        (λ a. made_ends (repeat (more_item text close item)) (λ others. a ∷ others) (record { ends = repeated_ends }))

    none_ends : Ends (no_items {A = A} text close)
    unfolding no_items
    none_ends = made_ends (a_sign text close) (λ _. []) (sign_ends close)

    items_end : (s t : Unit {0}) (tokens : List Token) (all : List A) → (items text close item).means s tokens all t → IsEnded tokens
    unfolding items
    items_end s t tokens all (inl m) = none_ends.ends s t tokens all m.1
    items_end s t tokens all (inr m) = some_ends.ends s t tokens all m.1

    items_ends : Ends (items text close item)
    items_ends = record { ends = items_end }

-- ---- types

module _ (m : Meaning) where
  head_each : Each m.text (plain (type_head m))
  head_each = plain_each m.text (type_head m) (head_no_sign m (codes "=") refl)

  module _ (inner : Rule (Unit {0}) Ty) (x : Each m.text inner) where
    array_each : Each m.text (array_parts m inner)
    unfolding array_parts
    array_each =
        then_each m.text (plain (count_token m.text)) (λ count. a_word m.text (codes "x") >>= λ _. inner >>= λ element. a_sign m.text (codes "]") >>= λ _. done (ty.Array count element)) (count_each m.text)
        (λ count. then_each m.text (a_word m.text (codes "x")) (λ _. inner >>= λ element. a_sign m.text (codes "]") >>= λ _. done (ty.Array count element)) (word_each m.text (codes "x"))
        (λ _. then_each m.text inner (λ element. a_sign m.text (codes "]") >>= λ _. done (ty.Array count element)) x
        (λ element. then_each m.text (a_sign m.text (codes "]")) (λ _. done (ty.Array count element)) (sign_each m.text (codes "]") refl) (λ _. done_each m.text (ty.Array count element)))))

    struct_each : Each m.text (struct_parts m inner)
    unfolding struct_parts
    struct_each = then_each m.text (items m.text (codes "}") inner) (λ fields. done (ty.Struct false fields)) (items_each m.text (codes "}") refl inner x) (λ fields. done_each m.text (ty.Struct false fields))

    packed_each : Each m.text (packed_parts m inner)
    unfolding packed_parts
    packed_each =
        then_each m.text (a_sign m.text (codes "{")) (λ _. items m.text (codes "}") inner >>= λ fields. a_sign m.text (codes ">") >>= λ _. done (ty.Struct true fields)) (sign_each m.text (codes "{") refl)
        (λ _. then_each m.text (items m.text (codes "}") inner) (λ fields. a_sign m.text (codes ">") >>= λ _. done (ty.Struct true fields)) (items_each m.text (codes "}") refl inner x)
        (λ fields. then_each m.text (a_sign m.text (codes ">")) (λ _. done (ty.Struct true fields)) (sign_each m.text (codes ">") refl) (λ _. done_each m.text (ty.Struct true fields))))

    rest_each : (h : TypeHead) → Each m.text (after_type_head m inner h)
    rest_each (head.Int w) = done_each m.text (ty.Int w)
    rest_each head.Ptr = done_each m.text ty.Ptr
    rest_each (head.Named k) = done_each m.text (ty.Named k)
    rest_each head.Array = array_each
    rest_each head.Struct = struct_each
    rest_each head.Packed = packed_each

  -- no token of a type is an equals sign
  pub type_each : (depth : ℕ) → Each m.text (a_type m depth)
  unfolding a_type
  type_each zero = record { each = λ s t tokens a r. head_each.each s t tokens r.value r.read }
  type_each (suc depth) = then_each m.text (plain (type_head m)) (after_type_head m (a_type m depth)) head_each (rest_each (a_type m depth) (type_each depth))

  module _ (inner : Rule (Unit {0}) Ty) where
    struct_ends : Ends m.text (struct_parts m inner)
    unfolding struct_parts
    struct_ends = made_ends m.text (items m.text (codes "}") inner) (λ fields. ty.Struct false fields) (items_ends m.text (codes "}") refl inner)

    packed_ends : Ends m.text (packed_parts m inner)
    unfolding packed_parts
    packed_ends =
        then_ends m.text (a_sign m.text (codes "{")) (λ _. items m.text (codes "}") inner >>= λ fields. a_sign m.text (codes ">") >>= λ _. done (ty.Struct true fields))
        (λ _. then_ends m.text (items m.text (codes "}") inner) (λ fields. a_sign m.text (codes ">") >>= λ _. done (ty.Struct true fields))
        (λ fields. made_ends m.text (a_sign m.text (codes ">")) (λ _. ty.Struct true fields) (sign_ends m.text (codes ">"))))

    refused : (x : Ty-F Ty) (t b : Ty) → out-Ty t ≡ x → a_struct t ≡ Ok b → struct_in t x ≡ Ok b
    refused x t b o e = ap (struct_in t) (sym o) ∙ e

    array_is : (tokens : List Token) (t : Ty) → (array_parts m inner).means tt tokens t tt → (n : ℕ) × (element : Ty) × (t ≡ ty.Array n element)
    unfolding array_parts
    array_is tokens t r = (r.first, r.in_back.in_back.first, r.in_back.in_back.in_back.in_back.1)

    -- behind a type's beginning, where the type is a struct
    rest_ends : (h : TypeHead) (tokens : List Token) (t b : Ty) → a_struct t ≡ Ok b → (after_type_head m inner h).means tt tokens t tt → IsEnded m.text tokens
    rest_ends (head.Int w) tokens t b e r = let k : struct_in t (Ty-F.Int w) ≡ Ok b = refused (Ty-F.Int w) t b (ap out-Ty r.1 ∙ out_at (Ty-F.Int w) (ty.Int w) (rolls-Int w)) e in absurd cc
    rest_ends head.Ptr tokens t b e r = let k : struct_in t Ty-F.Ptr ≡ Ok b = refused Ty-F.Ptr t b (ap out-Ty r.1 ∙ out_at Ty-F.Ptr ty.Ptr rolls-Ptr) e in absurd cc
    rest_ends (head.Named n) tokens t b e r = let k : struct_in t (Ty-F.Named n) ≡ Ok b = refused (Ty-F.Named n) t b (ap out-Ty r.1 ∙ out_at (Ty-F.Named n) (ty.Named n) (rolls-Named n)) e in absurd cc
    rest_ends head.Array tokens t b e r = let x = array_is tokens t r in let k : struct_in t (Ty-F.Array x.0 x.1) ≡ Ok b = refused (Ty-F.Array x.0 x.1) t b (ap out-Ty x.2 ∙ out_at (Ty-F.Array x.0 x.1) (ty.Array x.0 x.1) (rolls-Array x.0 x.1)) e in absurd cc
    rest_ends head.Struct tokens t b e r = struct_ends.ends tt tt tokens t r
    rest_ends head.Packed tokens t b e r = packed_ends.ends tt tt tokens t r

  -- the last token of a struct type is a sign
  pub struct_type_ends : (depth : ℕ) (tokens : List Token) (t b : Ty) → a_struct t ≡ Ok b → (a_type m (suc depth)).means tt tokens t tt → IsEnded m.text tokens
  unfolding a_type
  struct_type_ends depth tokens t b e r = subst (IsEnded m.text) (sym r.parts) (ended_behind m.text r.front r.back (rest_ends (a_type m depth) r.first r.back t b e r.in_back))
