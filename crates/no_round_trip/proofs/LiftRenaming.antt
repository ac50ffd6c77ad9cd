-- A type that was read by some names is read by others, where each name has another number.
use Rattle.std.proofs.Common.{◌≡◌, ℕ, suc, zero, Bool, true, false, List, [], ◌∷◌, map, drop, position, bytes_eq, codes, Option, Some, None, Result, Ok, Err, if◌then◌else◌, inl, inr, refl, sym, ap, ◌∙◌}
use Rattle.std.specs.Option.{option_map}
use Rattle.no_lex.specs.declared.token.Token.{Token}
use Rattle.no_lex.specs.declared.token.TokenKind.{TokenKind}
use Rattle.no_lex.specs.declared.token.TokenKind.TheVariants as kind
use Rattle.no_ir.specs.declared.types.Ty.{Ty}
use Rattle.no_ir.specs.declared.types.Ty.TheVariants as ty
use Rattle.no_read_rules.specs.declared.fault.Flaw.{Flaw}
use Rattle.no_read_rules.specs.declared.fault.Flaw.TheVariants.{Syntax}
use Rattle.no_read_rules.specs.declared.types.TypeHead.{TypeHead}
use Rattle.no_read_rules.specs.declared.types.TypeHead.TheVariants as head
use Rattle.no_read_rules.specs.Lists.{closes_list, more_item, some_items, no_items, items}
use Rattle.no_read_rules.specs.Repeated.{repeat}
use Rattle.no_read_rules.specs.Rules.{Rule, plain, keeping, done, ◌>>=◌, choose, checked}
use Rattle.no_read_rules.specs.Scope.{Meaning}
use Rattle.no_read_rules.specs.Spelled.{spelled, a_word, a_sign}
use Rattle.no_read_rules.specs.Types.{word_type, sign_type, named_type, number_in, head_by, type_head, leaf_of, count_token, array_parts, struct_parts, packed_parts, after_type_head, a_type}
use Rattle.no_read_rules.specs.Unescaped.{name_of}
use Rattle.no_read_types.specs.Lifted.{renumbered}
use Rattle.no_round_trip.proofs.WordWidths.{word_head}
use Rattle.no_round_trip.proofs.LiftRenumbering.{int_other, ptr_other, named_other, array_other, struct_other}

-- ---- rules that give other values for the same tokens

pub record Gives {A B : Type 0} (g : A → B) (p : Rule (Unit {0}) A) (q : Rule (Unit {0}) B) : Type 0 where
  pub gives : (s t : Unit {0}) (tokens : List Token) (a : A) → p.means s tokens a t → q.means s tokens (g a) t

same_gives : {A : Type 0} (p : Rule (Unit {0}) A) → Gives (λ a. a) p p
same_gives p = record { gives = λ s t tokens a m. m }

done_gives : {A B : Type 0} (g : A → B) (a : A) (b : B) → g a ≡ b → Gives g (done a) (done b)
done_gives g a b e = record { gives = λ s t tokens c m. (m.0, ap g m.1 ∙ e, m.2) }

module _ {A B C D : Type 0} (g : A → B) (h : C → D) where
  then_gives : (p : Rule (Unit {0}) A) (q : Rule (Unit {0}) B) (x : A → Rule (Unit {0}) C) (y : B → Rule (Unit {0}) D) → Gives g p q → ((a : A) → Gives h (x a) (y (g a))) → Gives h (p >>= x) (q >>= y)
  then_gives p q x y first others = record {
    gives = λ s t tokens c m. record {
      front = m.front;
      back = m.back;
      first = g m.first;
      between = m.between;
      parts = m.parts;
      in_front = first.gives s m.between m.front m.first m.in_front;
      in_back = (others m.first).gives m.between t m.back c m.in_back;
    };
  }

abbrev fine : {X : Type 0} → X → Result X Flaw
fine x = Ok x

from_fine : {X : Type 0} (x y : X) → fine x ≡ fine y → x ≡ y
from_fine x y e = cc

-- a test of one token
module _ {A B : Type 0} (g : A → B) (f : Token → Result A Flaw) (k : Token → Result B Flaw) (same : (token : Token) (a : A) → f token ≡ Ok a → k token ≡ Ok (g a)) where
  kept_gives : (token : Token) (s t : Unit {0}) (a : A) (r : Result A Flaw) → f token ≡ r → keeping s r ≡ Ok (a, t) → keeping s (k token) ≡ Ok (g a, t)
  kept_gives token s t a (Ok b) is e =
      let p : (b, s) ≡ (a, t) = from_fine {X = A × Unit {0}} (b, s) (a, t) e in
      ap (keeping s) (same token b is) ∙ ap (λ (x : A × Unit {0}). fine (g x.0, x.1)) p
  kept_gives token s t a (Err flaw) is e = absurd cc

  plain_gives : Gives g (plain f) (plain k)
  plain_gives = record { gives = λ s t tokens a m. record { token = m.token; alone = m.alone; value = kept_gives m.token s t a (f m.token) refl m.value } }

checked_gives : {A B C D : Type 0} (g : A → B) (h : C → D) (p : Rule (Unit {0}) A) (q : Rule (Unit {0}) B) (x : A → Result C Flaw) (y : B → Result D Flaw)
    → Gives g p q → ((a : A) (c : C) → x a ≡ Ok c → y (g a) ≡ Ok (h c)) → Gives h (checked p x) (checked q y)
checked_gives g h p q x y first passes = record { gives = λ s t tokens c m. record { value = g m.value; read = first.gives s t tokens m.value m.read; passes = passes m.value c m.passes } }

-- ---- lists

module _ {A B : Type 0} (g : A → B) (text close : List ℕ) (item : Rule (Unit {0}) A) (other : Rule (Unit {0}) B) (each : Gives g item other) where
  chosen_gives : (b : Bool) → Gives (option_map g) (choose b (done None) (item >>= λ a. done (Some a))) (choose b (done None) (other >>= λ a. done (Some a)))
  chosen_gives true = done_gives (option_map g) None None refl
  chosen_gives false = then_gives g (option_map g) item other (λ a. done (Some a)) (λ a. done (Some a)) each (λ a. done_gives (option_map g) (Some a) (Some (g a)) refl)

  more_gives : Gives (option_map g) (more_item text close item) (more_item text close other)
  unfolding more_item
  more_gives = then_gives (λ b. b) (option_map g) (plain (closes_list text close)) (plain (closes_list text close)) (λ closes. choose closes (done None) (item >>= λ a. done (Some a))) (λ closes. choose closes (done None) (other >>= λ a. done (Some a)))
      (same_gives (plain (closes_list text close))) chosen_gives

  repeated_gives : (s t : Unit {0}) (tokens : List Token) (all : List A) → (repeat (more_item text close item)).means s tokens all t → (repeat (more_item text close other)).means s tokens (map g all) t
  repeated_gives s t tokens [] m = more_gives.gives s t tokens None m
  repeated_gives s t tokens (a ∷ all) m = record {
    front = m.front;
    back = m.back;
    between = m.between;
    parts = m.parts;
    item = more_gives.gives s m.between m.front (Some a) m.item;
    others = repeated_gives m.between t m.back all m.others;
  }

  some_gives : Gives (map g) (some_items text close item) (some_items text close other)
  unfolding some_items
  some_gives = then_gives g (map g) item other (λ first. repeat (more_item text close item) >>= λ others. done (first ∷ others)) (λ first. repeat (more_item text close other) >>= λ others. done (first ∷ others)) each
      (λ a. then_gives (map g) (map g) (repeat (more_item text close item)) (repeat (more_item text close other)) (λ others. done (a ∷ others)) (λ others. done (g a ∷ others)) (record { gives = repeated_gives })
      (λ all. done_gives (map g) (a ∷ all) (g a ∷ map g all) refl))

  none_gives : Gives (map g) (no_items text close) (no_items text close)
  unfolding no_items
  none_gives = then_gives (λ b. b) (map g) (a_sign text close) (a_sign text close) (λ _. done []) (λ _. done []) (same_gives (a_sign text close)) (λ _. done_gives (map g) [] [] refl)

  items_mean : (s t : Unit {0}) (tokens : List Token) (all : List A) → (items text close item).means s tokens all t → (items text close other).means s tokens (map g all) t
  unfolding items
  items_mean s t tokens all (inl m) = inl (m.0, none_gives.gives s t tokens all m.1)
  items_mean s t tokens all (inr m) = inr (m.0, some_gives.gives s t tokens all m.1)

  items_gives : Gives (map g) (items text close item) (items text close other)
  items_gives = record { gives = items_mean }

-- ---- types

-- what a name had as its number has another
abbrev pub Renames : (ℕ → ℕ) → List (List ℕ) → List (List ℕ) → Type 0
Renames number names others = (name : List ℕ) (n : ℕ) → position (bytes_eq name) names ≡ Some n → position (bytes_eq name) others ≡ Some (number n)

-- the same meaning with other names
abbrev pub with_names : Meaning → List (List ℕ) → Meaning
with_names m names = record { text = m.text; named = names; types = m.types; globals = m.globals; functions = m.functions }

not_by_word : (word : List ℕ) (k : ℕ) → word_type word ≡ Ok (head.Named k) → ⊥
not_by_word word k e = word_head word (head.Named k) e

not_by_sign : (bytes : List ℕ) (k : ℕ) → sign_type bytes ≡ Ok (head.Named k) → ⊥
not_by_sign bytes k e = by (bytes_eq bytes (codes "[")) (bytes_eq bytes (codes "{")) (bytes_eq bytes (codes "<")) e
  where
    by : (x y z : Bool) → (if x then Ok head.Array else (if y then Ok head.Struct else (if z then Ok head.Packed else Err Syntax))) ≡ Ok (head.Named k) → ⊥
    by true y z e = absurd cc
    by false true z e = absurd cc
    by false false true e = absurd cc
    by false false false e = absurd cc

module _ (number : ℕ → ℕ) (m : Meaning) (others : List (List ℕ)) (renames : Renames number m.named others) where
  abbrev r : Ty → Ty
  r = renumbered number

  abbrev n : Meaning
  n = with_names m others

  abbrev head_other : TypeHead → TypeHead
  head_other (head.Named k) = head.Named (number k)
  head_other (head.Int w) = head.Int w
  head_other head.Ptr = head.Ptr
  head_other head.Array = head.Array
  head_other head.Struct = head.Struct
  head_other head.Packed = head.Packed

  from_name : (bytes : List ℕ) (o : Option ℕ) (h : TypeHead) → number_in m.named bytes ≡ o → named_type o ≡ Ok h → named_type (number_in others bytes) ≡ Ok (head_other h)
  from_name bytes (Some k) h is e = ap named_type (renames (name_of (drop 1 bytes)) k is) ∙ ap (λ (x : TypeHead). fine (head_other x)) (from_fine (head.Named k) h e)
  from_name bytes None h is e = absurd cc

  not_named : (found : Result TypeHead Flaw) (h : TypeHead) → found ≡ Ok h → ((k : ℕ) → found ≡ Ok (head.Named k) → ⊥) → found ≡ Ok (head_other h)
  not_named found (head.Named k) e never = absurd (never k e)
  not_named found (head.Int w) e never = e
  not_named found head.Ptr e never = e
  not_named found head.Array e never = e
  not_named found head.Struct e never = e
  not_named found head.Packed e never = e

  by_kind : (k : TokenKind) (bytes : List ℕ) (h : TypeHead) → head_by m k bytes ≡ Ok h → head_by n k bytes ≡ Ok (head_other h)
  by_kind kind.Word bytes h e = not_named (word_type bytes) h e (not_by_word bytes)
  by_kind kind.Sign bytes h e = not_named (sign_type bytes) h e (not_by_sign bytes)
  by_kind kind.Local bytes h e = from_name bytes (number_in m.named bytes) h refl e
  by_kind _ bytes h e = absurd cc

  heads_give : Gives head_other (plain (type_head m)) (plain (type_head n))
  heads_give = plain_gives head_other (type_head m) (type_head n) (λ token h e. by_kind token.kind (spelled m.text token) h e)

  leaf_other : (h : TypeHead) (t : Ty) → leaf_of h ≡ Ok t → leaf_of (head_other h) ≡ Ok (r t)
  leaf_other (head.Int w) t e = ap fine (sym (int_other number w)) ∙ ap (λ (u : Ty). fine (r u)) (from_fine (ty.Int w) t e)
  leaf_other head.Ptr t e = ap fine (sym (ptr_other number)) ∙ ap (λ (u : Ty). fine (r u)) (from_fine ty.Ptr t e)
  leaf_other (head.Named k) t e = ap fine (sym (named_other number k)) ∙ ap (λ (u : Ty). fine (r u)) (from_fine (ty.Named k) t e)
  leaf_other head.Array t e = absurd cc
  leaf_other head.Struct t e = absurd cc
  leaf_other head.Packed t e = absurd cc

  module _ (inner other : Rule (Unit {0}) Ty) (each : Gives r inner other) where
    abbrev close_array : Rule (Unit {0}) (Unit {0})
    close_array = a_sign m.text (codes "]")

    array_gives : Gives r (array_parts m inner) (array_parts n other)
    unfolding array_parts
    array_gives =
        then_gives (λ c. c) r (plain (count_token m.text)) (plain (count_token m.text)) (λ count. a_word m.text (codes "x") >>= λ _. inner >>= λ element. close_array >>= λ _. done (ty.Array count element)) (λ count. a_word m.text (codes "x") >>= λ _. other >>= λ element. close_array >>= λ _. done (ty.Array count element)) (same_gives (plain (count_token m.text)))
        (λ count. then_gives (λ c. c) r (a_word m.text (codes "x")) (a_word m.text (codes "x")) (λ _. inner >>= λ element. close_array >>= λ _. done (ty.Array count element)) (λ _. other >>= λ element. close_array >>= λ _. done (ty.Array count element)) (same_gives (a_word m.text (codes "x")))
        (λ _. then_gives r r inner other (λ element. close_array >>= λ _. done (ty.Array count element)) (λ element. close_array >>= λ _. done (ty.Array count element)) each
        (λ element. then_gives (λ c. c) r close_array close_array (λ _. done (ty.Array count element)) (λ _. done (ty.Array count (r element))) (same_gives close_array)
        (λ _. done_gives r (ty.Array count element) (ty.Array count (r element)) (array_other number count element)))))

    struct_gives : Gives r (struct_parts m inner) (struct_parts n other)
    unfolding struct_parts
    struct_gives =
        then_gives (map r) r (items m.text (codes "}") inner) (items m.text (codes "}") other) (λ fields. done (ty.Struct false fields)) (λ fields. done (ty.Struct false fields)) (items_gives r m.text (codes "}") inner other each)
        (λ fields. done_gives r (ty.Struct false fields) (ty.Struct false (map r fields)) (struct_other number false fields))

    packed_gives : Gives r (packed_parts m inner) (packed_parts n other)
    unfolding packed_parts
    packed_gives =
        then_gives (λ c. c) r (a_sign m.text (codes "{")) (a_sign m.text (codes "{")) (λ _. items m.text (codes "}") inner >>= λ fields. a_sign m.text (codes ">") >>= λ _. done (ty.Struct true fields)) (λ _. items m.text (codes "}") other >>= λ fields. a_sign m.text (codes ">") >>= λ _. done (ty.Struct true fields)) (same_gives (a_sign m.text (codes "{")))
        (λ _. then_gives (map r) r (items m.text (codes "}") inner) (items m.text (codes "}") other) (λ fields. a_sign m.text (codes ">") >>= λ _. done (ty.Struct true fields)) (λ fields. a_sign m.text (codes ">") >>= λ _. done (ty.Struct true fields)) (items_gives r m.text (codes "}") inner other each)
        (λ fields. then_gives (λ c. c) r (a_sign m.text (codes ">")) (a_sign m.text (codes ">")) (λ _. done (ty.Struct true fields)) (λ _. done (ty.Struct true (map r fields))) (same_gives (a_sign m.text (codes ">")))
        (λ _. done_gives r (ty.Struct true fields) (ty.Struct true (map r fields)) (struct_other number true fields))))

    rest_gives : (h : TypeHead) → Gives r (after_type_head m inner h) (after_type_head n other (head_other h))
    rest_gives (head.Int w) = done_gives r (ty.Int w) (ty.Int w) (int_other number w)
    rest_gives head.Ptr = done_gives r ty.Ptr ty.Ptr (ptr_other number)
    rest_gives (head.Named k) = done_gives r (ty.Named k) (ty.Named (number k)) (named_other number k)
    rest_gives head.Array = array_gives
    rest_gives head.Struct = struct_gives
    rest_gives head.Packed = packed_gives

  type_gives : (depth : ℕ) → Gives r (a_type m depth) (a_type n depth)
  unfolding a_type
  type_gives zero = checked_gives head_other r (plain (type_head m)) (plain (type_head n)) leaf_of leaf_of heads_give leaf_other
  type_gives (suc depth) = then_gives head_other r (plain (type_head m)) (plain (type_head n)) (after_type_head m (a_type m depth)) (after_type_head n (a_type n depth)) heads_give (rest_gives (a_type m depth) (a_type n depth) (type_gives depth))

  -- a type that was read is read by the other names as the type with other numbers
  pub type_renamed : (depth : ℕ) (tokens : List Token) (t : Ty) → (a_type m depth).means tt tokens t tt → (a_type (with_names m others) depth).means tt tokens (renumbered number t) tt
  type_renamed depth tokens t e = (type_gives depth).gives tt tt tokens t e
