-- Types that were read are formed.
use Rattle.std.proofs.Common.{◌≡◌, ℕ, suc, zero, Bool, true, false, List, [], ◌∷◌, length, bytes_eq, codes, map, if◌then◌else◌, Option, Some, None, Result, Ok, Err, nat_lt, refl, sym, ap, subst, ◌∙◌}
use Rattle.std.specs.Prelude.{position}
use Rattle.std.specs.List.{list_all}
use Rattle.std.proofs.lemmas.Bool.{lt-ltb}
use Rattle.std.proofs.lemmas.List.Quantifiers.{position-Some}
use Rattle.no_lex.specs.declared.token.Token.{Token}
use Rattle.no_lex.specs.declared.token.TokenKind.{TokenKind}
use Rattle.no_lex.specs.declared.token.TokenKind.TheVariants as kind
use Rattle.no_ir.specs.declared.types.Ty.{Ty, roll-Ty}
use Rattle.no_ir.specs.declared.types.Ty.TheOpen.{Ty-F}
use Rattle.no_ir.specs.declared.types.Ty.TheFolds.{fold-roll-Ty, map-Ty}
use Rattle.no_ir.specs.declared.types.Ty.TheVariants as ty
use Rattle.no_ir.specs.declared.types.Ty.TheVariants.{rolls-Int, rolls-Ptr, rolls-Array, rolls-Struct, rolls-Named}
use Rattle.no_read_rules.specs.declared.fault.Flaw.{Flaw}
use Rattle.no_read_rules.specs.declared.fault.Flaw.TheVariants.{Syntax, LeftOut}
use Rattle.no_read_rules.specs.declared.types.TypeHead.{TypeHead}
use Rattle.no_read_rules.specs.declared.types.TypeHead.TheVariants as head
use Rattle.no_read_rules.specs.Lists.{items}
use Rattle.no_read_rules.specs.Rules.{Rule, plain, done, checked}
use Rattle.no_read_rules.specs.Scope.{Meaning}
use Rattle.no_read_rules.specs.Spelled.{spelled, a_word, a_sign}
use Rattle.no_read_rules.specs.Types.{word_type, sign_type, named_type, number_in, head_by, type_head, leaf_of, count_token, array_parts, struct_parts, packed_parts, after_type_head, a_type}
use Rattle.no_read_rules.specs.Unescaped.{name_of}
use Rattle.no_module.specs.Formed.{type_formed, type_step}
use Rattle.no_module.specs.Widths.{is_width}
use Rattle.no_read_formed.proofs.Saying.{All, Each, plain_all, done_all, then_all, checked_all, skip_all, items_all}

abbrev pub got : {A : Type 0} → A → Result A Flaw
got h = Ok h

pub from_got : {A : Type 0} (x y : A) → got x ≡ got y → x ≡ y
from_got x y e = cc

-- what a token that begins a type says
unfoldable pub head_formed : ℕ → TypeHead → Bool
head_formed n (head.Int w) = is_width w
head_formed n (head.Named k) = nat_lt k n
head_formed n _ = true

so_is : (n : ℕ) (k h : TypeHead) → head_formed n k ≡ true → got k ≡ got h → head_formed n h ≡ true
so_is n k h e m = subst (λ (x : TypeHead). head_formed n x ≡ true) (from_got k h m) e

pub word_head : (n : ℕ) (x : List ℕ) (h : TypeHead) → word_type x ≡ Ok h → head_formed n h ≡ true
unfolding head_formed
word_head n x h e = go (bytes_eq x (codes "i1")) (bytes_eq x (codes "i8")) (bytes_eq x (codes "i16")) (bytes_eq x (codes "i32")) (bytes_eq x (codes "i64")) (bytes_eq x (codes "ptr")) (bytes_eq x (codes "label")) e
  where
    go : (b c d e f g l : Bool)
        → (if b then Ok (head.Int 1) else (if c then Ok (head.Int 8) else (if d then Ok (head.Int 16) else (if e then Ok (head.Int 32) else (if f then Ok (head.Int 64) else (if g then Ok head.Ptr else (if l then Err LeftOut else Err Syntax))))))) ≡ Ok h
        → head_formed n h ≡ true
    go true c d e f g l m = so_is n (head.Int 1) h refl m
    go false true d e f g l m = so_is n (head.Int 8) h refl m
    go false false true e f g l m = so_is n (head.Int 16) h refl m
    go false false false true f g l m = so_is n (head.Int 32) h refl m
    go false false false false true g l m = so_is n (head.Int 64) h refl m
    go false false false false false true l m = so_is n head.Ptr h refl m
    go false false false false false false true m = absurd cc
    go false false false false false false false m = absurd cc

sign_head : (n : ℕ) (x : List ℕ) (h : TypeHead) → sign_type x ≡ Ok h → head_formed n h ≡ true
unfolding head_formed
sign_head n x h e = go (bytes_eq x (codes "[")) (bytes_eq x (codes "{")) (bytes_eq x (codes "<")) e
  where
    go : (b c d : Bool) → (if b then Ok head.Array else (if c then Ok head.Struct else (if d then Ok head.Packed else Err Syntax))) ≡ Ok h → head_formed n h ≡ true
    go true c d m = so_is n head.Array h refl m
    go false true d m = so_is n head.Struct h refl m
    go false false true m = so_is n head.Packed h refl m
    go false false false m = absurd cc

named_head : (names : List (List ℕ)) (o : Option ℕ) (h : TypeHead) → ((k : ℕ) → o ≡ Some k → nat_lt k (length names) ≡ true) → named_type o ≡ Ok h → head_formed (length names) h ≡ true
unfolding head_formed
named_head names (Some k) h is e = so_is (length names) (head.Named k) h (is k refl) e
named_head names None h is e = absurd cc

-- a name that is found has a number below the count of names
pub found_below : (names : List (List ℕ)) (name : List ℕ) (k : ℕ) → position (bytes_eq name) names ≡ Some k → nat_lt k (length names) ≡ true
found_below names name k e = lt-ltb k (length names) (position-Some (bytes_eq name) names k [] e).0

head_by_formed : (m : Meaning) (k : TokenKind) (x : List ℕ) (h : TypeHead) → head_by m k x ≡ Ok h → head_formed (length m.named) h ≡ true
head_by_formed m kind.Word x h e = word_head (length m.named) x h e
head_by_formed m kind.Sign x h e = sign_head (length m.named) x h e
head_by_formed m kind.Local x h e = named_head m.named (number_in m.named x) h (λ k is. found_below m.named _ k is) e
head_by_formed m kind.Integer x h e = absurd cc
head_by_formed m kind.Global x h e = absurd cc
head_by_formed m kind.Group x h e = absurd cc
head_by_formed m kind.Meta x h e = absurd cc
head_by_formed m kind.Quoted x h e = absurd cc
head_by_formed m kind.CMark x h e = absurd cc
head_by_formed m kind.Label x h e = absurd cc

-- ---- whole types

abbrev pub IsType : ℕ → Ty → Type 0
IsType n t = type_formed n t ≡ true

abbrev HeadIs : ℕ → TypeHead → Type 0
HeadIs n h = head_formed n h ≡ true

-- ---- form by form

layer : (n : ℕ) (x : Ty-F Ty) (t : Ty) → roll-Ty x ≡ t → type_formed n t ≡ type_step n (map-Ty Ty Bool (type_formed n) x)
layer n x t e = ap (type_formed n) (sym e) ∙ fold-roll-Ty Bool (type_step n) x

pub int_formed : (n w : ℕ) → type_formed n (ty.Int w) ≡ is_width w
int_formed n w = layer n (Ty-F.Int w) (ty.Int w) (rolls-Int w)

pub ptr_formed : (n : ℕ) → IsType n ty.Ptr
ptr_formed n = layer n Ty-F.Ptr ty.Ptr rolls-Ptr

pub named_formed : (n k : ℕ) → type_formed n (ty.Named k) ≡ nat_lt k n
named_formed n k = layer n (Ty-F.Named k) (ty.Named k) (rolls-Named k)

pub array_formed : (n count : ℕ) (element : Ty) → type_formed n (ty.Array count element) ≡ type_formed n element
array_formed n count element = layer n (Ty-F.Array count element) (ty.Array count element) (rolls-Array count element)

pub struct_formed : (n : ℕ) (packed : Bool) (fields : List Ty) → type_formed n (ty.Struct packed fields) ≡ list_all (λ field. field) (map (type_formed n) fields)
struct_formed n packed fields = layer n (Ty-F.Struct packed fields) (ty.Struct packed fields) (rolls-Struct packed fields)

each_field : (n : ℕ) (fields : List Ty) → Each (IsType n) fields → list_all (λ field. field) (map (type_formed n) fields) ≡ true
each_field n [] k = refl
each_field n (t ∷ ts) k = rw (k.0, each_field n ts k.1) refl

all_in : (n : ℕ) (fields : List Ty) (packed : Bool) → Each (IsType n) fields → IsType n (ty.Struct packed fields)
all_in n fields packed k = struct_formed n packed fields ∙ each_field n fields k

leaf_formed : (n : ℕ) (h : TypeHead) (t : Ty) → head_formed n h ≡ true → leaf_of h ≡ Ok t → IsType n t
unfolding head_formed
leaf_formed n (head.Int w) t e m = subst (IsType n) (from_got (ty.Int w) t m) (int_formed n w ∙ e)
leaf_formed n head.Ptr t e m = subst (IsType n) (from_got ty.Ptr t m) (ptr_formed n)
leaf_formed n (head.Named k) t e m = subst (IsType n) (from_got (ty.Named k) t m) (named_formed n k ∙ e)
leaf_formed n head.Array t e m = absurd cc
leaf_formed n head.Struct t e m = absurd cc
leaf_formed n head.Packed t e m = absurd cc

module _ (m : Meaning) where
  abbrev N : ℕ
  N = length m.named

  heads : All {S = Unit {0}} (HeadIs N) (plain (type_head m))
  heads = plain_all (HeadIs N) (type_head m) (λ h u e. head_by_formed m u.kind (spelled m.text u) h e)

  module _ (inner : Rule (Unit {0}) Ty) (h : All (IsType N) inner) where
    array_all : All (IsType N) (array_parts m inner)
    unfolding array_parts
    array_all = skip_all (IsType N) (plain (count_token m.text)) _ (λ count. skip_all (IsType N) (a_word m.text (codes "x")) _
        (λ _. then_all (IsType N) (IsType N) inner _ h (λ element k. skip_all (IsType N) (a_sign m.text (codes "]")) _ (λ _. done_all (IsType N) (ty.Array count element) (array_formed N count element ∙ k)))))

    struct_all : All (IsType N) (struct_parts m inner)
    unfolding struct_parts
    struct_all = then_all (Each (IsType N)) (IsType N) (items m.text (codes "}") inner) _ (items_all (IsType N) m.text (codes "}") inner h) (λ fields k. done_all (IsType N) (ty.Struct false fields) (all_in N fields false k))

    packed_all : All (IsType N) (packed_parts m inner)
    unfolding packed_parts
    packed_all = skip_all (IsType N) (a_sign m.text (codes "{")) _ (λ _. then_all (Each (IsType N)) (IsType N) (items m.text (codes "}") inner) _ (items_all (IsType N) m.text (codes "}") inner h)
        (λ fields k. skip_all (IsType N) (a_sign m.text (codes ">")) _ (λ _. done_all (IsType N) (ty.Struct true fields) (all_in N fields true k))))

    after_all : (k : TypeHead) → HeadIs N k → All (IsType N) (after_type_head m inner k)
    unfolding head_formed
    after_all (head.Int w) e = done_all (IsType N) (ty.Int w) (int_formed N w ∙ e)
    after_all head.Ptr e = done_all (IsType N) ty.Ptr (ptr_formed N)
    after_all (head.Named k) e = done_all (IsType N) (ty.Named k) (named_formed N k ∙ e)
    after_all head.Array e = array_all
    after_all head.Struct e = struct_all
    after_all head.Packed e = packed_all

  pub type_all : (depth : ℕ) → All (IsType N) (a_type m depth)
  unfolding a_type
  type_all zero = checked_all (HeadIs N) (IsType N) (plain (type_head m)) leaf_of heads (λ h t k e. leaf_formed N h t k e)
  type_all (suc depth) = then_all (HeadIs N) (IsType N) (plain (type_head m)) (after_type_head m (a_type m depth)) heads (λ h k. after_all (a_type m depth) (type_all depth) h k)
