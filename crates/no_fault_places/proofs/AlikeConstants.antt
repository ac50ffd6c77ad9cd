-- Texts that begin alike are read alike: types, places and constants.
use Rattle.std.proofs.Common.{◌≡◌, ℕ, suc, zero, Bool, true, false, List, [], ◌∷◌, Option, Some, None, Result, Ok, Err, IfOk, codes, bytes_eq, refl, sym, ap, subst, if◌then◌else◌}
use Rattle.no_lex.specs.declared.token.Token.{Token}
use Rattle.no_lex.specs.declared.token.TokenKind.{TokenKind}
use Rattle.no_lex.specs.declared.token.TokenKind.TheVariants as kind
use Rattle.no_ir.specs.declared.types.Ty.{Ty, out-Ty}
use Rattle.no_ir.specs.declared.types.Ty.TheVariants as ty
use Rattle.no_ir.specs.declared.constant.Const.{Const}
use Rattle.no_ir.specs.declared.constant.Symbol.{Symbol}
use Rattle.no_read_rules.specs.declared.fault.Flaw.{Flaw}
use Rattle.no_read_rules.specs.declared.fault.Flaw.TheVariants.{Syntax, LeftOut}
use Rattle.no_read_rules.specs.declared.types.TypeHead.{TypeHead}
use Rattle.no_read_rules.specs.declared.types.TypeHead.TheVariants as head
use Rattle.no_read_rules.specs.Rules.{Rule, plain, checked, ◌>>=◌}
use Rattle.no_read_rules.specs.Lists.{closes_list}
use Rattle.no_read_rules.specs.Scope.{Meaning}
use Rattle.no_read_rules.specs.Spelled.{spelled, is_kind}
use Rattle.no_read_rules.specs.Types.{number_in, word_type, named_type, head_by, type_head, leaf_of, count_token, array_parts, struct_parts, packed_parts, after_type_head, a_type, must_be}
use Rattle.no_module.specs.Widths.{is_width}
use Rattle.no_read_constants.specs.Places.{symbol_of, int_width, width_of, number_at, is_flag, an_index, indices, gep_parts, bare_or, place_head, after_place_head, a_place, begins_place}
use Rattle.no_read_constants.specs.Constants.{resolved, shape_of, element_in, fields_in, leaf_head, const_head, text_of, ptr_to_int, int_to_ptr, after_leaf, address, member, next_field, end_or, more_fields, some_fields, no_fields, fields, array_const, struct_const, packed_const, after_head, a_const}
use Rattle.no_read_constants.specs.declared.places.PlaceHead.{PlaceHead}
use Rattle.no_read_constants.specs.declared.places.PlaceHead.TheVariants.{Bare, Gep}
use Rattle.no_read_constants.specs.declared.constants.LeafHead.{LeafHead}
use Rattle.no_read_constants.specs.declared.constants.LeafHead.TheVariants as leaf
use Rattle.no_read_constants.specs.declared.constants.ConstHead.{ConstHead}
use Rattle.no_read_constants.specs.declared.constants.ConstHead.TheVariants as const_head
use Rattle.no_fault_places.specs.Alike.{IsAlike}
use Rattle.no_fault_places.proofs.Alike.{Same, Any, ValueAlike, same_value, Alike, plain_alike, plain_same, plain_any, done_alike, done_any, choose_alike, if_next_alike, then_alike, then_same, then_any, any_alike, checked_alike}
use Rattle.no_fault_places.proofs.AlikeLists.{InOption, InLists, kind_alike, word_alike, sign_alike, a_word_alike, a_sign_alike, repeat_alike, more_alike, items_alike, behind_alike}

-- ---- values that are the same, of which something is known

pub record Kept {A : Type 0} (P : A → Type 0) (a b : A) : Type 0 where
  pub same : b ≡ a
  pub known : P a

abbrev pub Each : {A : Type 0} → (A → Type 0) → List A → Type 0
Each P [] = Unit {0}
Each P (a ∷ xs) = P a × Each P xs

module _ {A : Type 0} (P : A → Type 0) where
  pub kept_again : (a : A) → P a → Kept P a a
  kept_again a k = record { same = refl; known = k }

  kept_value : (x y : Result A Flaw) → y ≡ x → IfOk x P → ValueAlike (Kept P) x y
  kept_value x y e k = subst (ValueAlike (Kept P) x) (sym e) (go x k)
    where
      go : (x : Result A Flaw) → IfOk x P → ValueAlike (Kept P) x x
      go (Ok a) l = kept_again a l
      go (Err d) l = tt

  kept_all : (xs ys : List A) → InLists (Kept P) xs ys → Kept (Each P) xs ys
  kept_all [] [] k = record { same = refl; known = tt }
  kept_all [] (b ∷ ys) k = absurd k
  kept_all (a ∷ xs) [] k = absurd k
  kept_all (a ∷ xs) (b ∷ ys) k = let l = kept_all xs ys k.1 in record { same = rw (k.0.same, l.same) refl; known = (k.0.known, l.known) }

pub then_kept : {here there : Meaning} {S A B : Type 0} {P : A → Type 0} {R : B → B → Type 0} (p q : Rule S A) (f g : A → Rule S B) → Alike here there (Kept P) p q → ((a : A) → P a → Alike here there R (f a) (g a)) → Alike here there R (p >>= f) (q >>= g)
then_kept {here = here} {there = there} {A = A} {P = P} {R = R} p q f g h k = then_alike {P = Kept P} p q f g h (λ a b e. subst (λ (c : A). Alike here there R (f a) (g c)) (sym e.same) (k a e.known))

-- a value where a test holds, which may be another
pub either : {A : Type 0} (b : Bool) (x y : A) → ValueAlike Any (if b then Ok x else Err Syntax) (if b then Ok y else Err Syntax)
either true x y = tt
either false x y = tt

pub checked_kept : {here there : Meaning} {S A B : Type 0} {P : A → Type 0} (p q : Rule S A) (f : A → Result B Flaw) → Alike here there (Kept P) p q → Alike here there Same (checked p f) (checked q f)
checked_kept {P = P} p q f h = checked_alike {P = Kept P} {R = Same} p q f f h (λ a b k. subst (ValueAlike Same (f a)) (sym (ap f k.same)) (same_value (f a)))

abbrev pub IsWidth : ℕ → Type 0
IsWidth w = is_width w ≡ true

-- ---- types that mean the same in both texts

pub record Typing (here there : Meaning) : Type 1 where
  pub Known : Ty → Type 0
  pub named : (s : List ℕ) (k : ℕ) → number_in here.named s ≡ Some k → Known (ty.Named k)
  pub int : (w : ℕ) → is_width w ≡ true → Known (ty.Int w)
  pub ptr : Known ty.Ptr
  pub array : (count : ℕ) (t : Ty) → Known t → Known (ty.Array count t)
  pub struct : (packed : Bool) (all : List Ty) → Each Known all → Known (ty.Struct packed all)
  pub resolves : (t : Ty) → Known t → resolved there t ≡ resolved here t
  pub again : (t : Ty) → Known t → Known (resolved here t)
  pub element : (t r : Ty) → Known t → Known r → Known (element_in t (out-Ty r))
  pub fields : (t : Ty) → Known t → Each Known (fields_in (out-Ty t))

module _ (here there : Meaning) (typing : Typing here there) where
  -- ---- what a token begins

  abbrev HeadKnown : TypeHead → Type 0
  HeadKnown (head.Int w) = is_width w ≡ true
  HeadKnown (head.Named k) = typing.Known (ty.Named k)
  HeadKnown _ = Unit {0}

  word_known : (a b c d e f g : Bool) → IfOk (if a then Ok (head.Int 1) else (if b then Ok (head.Int 8) else (if c then Ok (head.Int 16) else (if d then Ok (head.Int 32) else (if e then Ok (head.Int 64) else (if f then Ok head.Ptr else (if g then Err LeftOut else Err Syntax))))))) HeadKnown
  word_known true b c d e f g = refl
  word_known false true c d e f g = refl
  word_known false false true d e f g = refl
  word_known false false false true e f g = refl
  word_known false false false false true f g = refl
  word_known false false false false false true g = tt
  word_known false false false false false false true = tt
  word_known false false false false false false false = tt

  sign_known : (a b c : Bool) → IfOk (if a then Ok head.Array else (if b then Ok head.Struct else (if c then Ok head.Packed else Err Syntax))) HeadKnown
  sign_known true b c = tt
  sign_known false true c = tt
  sign_known false false true = tt
  sign_known false false false = tt

  named_known : (s : List ℕ) (o : Option ℕ) → number_in here.named s ≡ o → IfOk (named_type o) HeadKnown
  named_known s (Some k) e = typing.named s k e
  named_known s None e = tt

  head_known : (k : TokenKind) (s : List ℕ) → IfOk (head_by here k s) HeadKnown
  head_known kind.Word s = word_known (bytes_eq s (codes "i1")) (bytes_eq s (codes "i8")) (bytes_eq s (codes "i16")) (bytes_eq s (codes "i32")) (bytes_eq s (codes "i64")) (bytes_eq s (codes "ptr")) (bytes_eq s (codes "label"))
  head_known kind.Sign s = sign_known (bytes_eq s (codes "[")) (bytes_eq s (codes "{")) (bytes_eq s (codes "<"))
  head_known kind.Local s = named_known s (number_in here.named s) refl
  head_known _ s = tt

  same_head : (k : TokenKind) (s : List ℕ) → (k ≡ kind.Local → number_in there.named s ≡ number_in here.named s) → head_by there k s ≡ head_by here k s
  same_head kind.Word s e = refl
  same_head kind.Sign s e = refl
  same_head kind.Local s e = ap named_type (e refl)
  same_head _ s e = refl

  head_alike : {S : Type 0} → Alike here there {S = S} (Kept HeadKnown) (plain (type_head here)) (plain (type_head there))
  head_alike = plain_alike (type_head here) (type_head there)
      (λ t u k. kept_value HeadKnown (type_head here t) (type_head there u) (rw (k.kind, k.spelling) (same_head t.kind (spelled here.text t) k.number)) (head_known t.kind (spelled here.text t)))

  -- ---- whole types

  leaf_known : (h : TypeHead) → HeadKnown h → IfOk (leaf_of h) typing.Known
  leaf_known (head.Int w) k = typing.int w k
  leaf_known head.Ptr k = typing.ptr
  leaf_known (head.Named n) k = k
  leaf_known head.Array k = tt
  leaf_known head.Struct k = tt
  leaf_known head.Packed k = tt

  struct_kept : (packed : Bool) (xs ys : List Ty) → InLists (Kept typing.Known) xs ys → Kept typing.Known (ty.Struct packed xs) (ty.Struct packed ys)
  struct_kept packed xs ys l = let k = kept_all typing.Known xs ys l in record { same = ap (ty.Struct packed) k.same; known = typing.struct packed xs k.known }

  module _ (p q : Rule (Unit {0}) Ty) (h : Alike here there (Kept typing.Known) p q) where
    array_alike : Alike here there (Kept typing.Known) (array_parts here p) (array_parts there q)
    unfolding array_parts
    array_alike = then_same _ _ _ _ (plain_same (count_token here.text) (count_token there.text) (λ t u k. rw (k.kind, k.spelling) refl)) (λ count. then_same _ _ _ _ (a_word_alike (codes "x")) (λ _.
        then_kept _ _ _ _ h (λ t known. then_same _ _ _ _ (a_sign_alike (codes "]")) (λ _. done_alike _ _ (kept_again typing.Known (ty.Array count t) (typing.array count t known))))))

    struct_alike : Alike here there (Kept typing.Known) (struct_parts here p) (struct_parts there q)
    unfolding struct_parts
    struct_alike = then_alike _ _ _ _ (items_alike (codes "}") p q h) (λ xs ys l. done_alike _ _ (struct_kept false xs ys l))

    packed_alike : Alike here there (Kept typing.Known) (packed_parts here p) (packed_parts there q)
    unfolding packed_parts
    packed_alike = then_same _ _ _ _ (a_sign_alike (codes "{")) (λ _. then_alike _ _ _ _ (items_alike (codes "}") p q h) (λ xs ys l. then_same _ _ _ _ (a_sign_alike (codes ">")) (λ _. done_alike _ _ (struct_kept true xs ys l))))

    after_alike : (t : TypeHead) → HeadKnown t → Alike here there (Kept typing.Known) (after_type_head here p t) (after_type_head there q t)
    after_alike (head.Int w) k = done_alike _ _ (kept_again typing.Known (ty.Int w) (typing.int w k))
    after_alike head.Ptr k = done_alike _ _ (kept_again typing.Known ty.Ptr typing.ptr)
    after_alike (head.Named n) k = done_alike _ _ (kept_again typing.Known (ty.Named n) k)
    after_alike head.Array k = array_alike
    after_alike head.Struct k = struct_alike
    after_alike head.Packed k = packed_alike

  pub type_alike : (depth : ℕ) → Alike here there (Kept typing.Known) (a_type here depth) (a_type there depth)
  unfolding a_type
  type_alike zero = checked_alike {P = Kept HeadKnown} {R = Kept typing.Known} _ _ leaf_of leaf_of head_alike (λ a b k. kept_value typing.Known (leaf_of a) (leaf_of b) (ap leaf_of k.same) (leaf_known a k.known))
  type_alike (suc depth) = then_kept _ _ _ _ head_alike (after_alike (a_type here depth) (a_type there depth) (type_alike depth))

  -- a type that has to pass
  pub type_passes : {B : Type 0} (depth : ℕ) (f : Ty → Result B Flaw) → Alike here there Same (checked (a_type here depth) f) (checked (a_type there depth) f)
  type_passes depth f = checked_kept _ _ f (type_alike depth)

  -- a type where none may stand
  type_fails : {B : Type 0} {R : B → B → Type 0} (depth : ℕ) → Alike here there R (checked (a_type here depth) (λ _. Err Syntax)) (checked (a_type there depth) (λ _. Err Syntax))
  type_fails {R = R} depth = checked_alike {P = Kept typing.Known} {R = R} _ _ _ _ (type_alike depth) (λ a b k. tt)

  -- ---- numbers and names

  width_known : (a b c d e f g : Bool)
      → IfOk (int_width (if a then Ok (head.Int 1) else (if b then Ok (head.Int 8) else (if c then Ok (head.Int 16) else (if d then Ok (head.Int 32) else (if e then Ok (head.Int 64) else (if f then Ok head.Ptr else (if g then Err LeftOut else Err Syntax)))))))) IsWidth
  width_known true b c d e f g = refl
  width_known false true c d e f g = refl
  width_known false false true d e f g = refl
  width_known false false false true e f g = refl
  width_known false false false false true f g = refl
  width_known false false false false false true g = tt
  width_known false false false false false false true = tt
  width_known false false false false false false false = tt

  word_width : (b : Bool) (s : List ℕ) → IfOk (if b then int_width (word_type s) else Err Syntax) IsWidth
  word_width true s = width_known (bytes_eq s (codes "i1")) (bytes_eq s (codes "i8")) (bytes_eq s (codes "i16")) (bytes_eq s (codes "i32")) (bytes_eq s (codes "i64")) (bytes_eq s (codes "ptr")) (bytes_eq s (codes "label"))
  word_width false s = tt

  pub width_alike : {S : Type 0} → Alike here there {S = S} (Kept IsWidth) (plain (width_of here.text)) (plain (width_of there.text))
  width_alike = plain_alike (width_of here.text) (width_of there.text) (λ t u k. kept_value IsWidth (width_of here.text t) (width_of there.text u) (rw (k.kind, k.spelling) refl) (word_width (is_kind kind.Word t) (spelled here.text t)))

  pub number_alike : {S : Type 0} (width : ℕ) → Alike here there {S = S} Same (plain (number_at here.text width)) (plain (number_at there.text width))
  number_alike width = plain_same (number_at here.text width) (number_at there.text width) (λ t u k. rw (k.kind, k.spelling) refl)

  -- a name may be that of another symbol
  symbol_alike : (t u : Token) → IsAlike here there t u → ValueAlike Any (symbol_of here t) (symbol_of there u)
  symbol_alike t u k = rw (kind_alike kind.Global t u k) (either (is_kind kind.Global t) _ _)

  index_alike : Alike here there Any (an_index here) (an_index there)
  unfolding an_index
  index_alike = then_kept _ _ _ _ width_alike (λ width _. then_same _ _ _ _ (number_alike width) (λ number. done_any _ _))

  indices_alike : Alike here there Any (indices here) (indices there)
  unfolding indices
  indices_alike = then_any _ _ _ _ index_alike (λ a b. then_any _ _ _ _ (any_alike _ _ (repeat_alike _ _ (more_alike (codes ")") (an_index here) (an_index there) index_alike))) (λ xs ys. done_any _ _))

  -- ---- places

  pub flag_alike : (t u : Token) → IsAlike here there t u → is_flag there.text u ≡ is_flag here.text t
  flag_alike t u k = rw (word_alike (codes "inbounds") t u k, word_alike (codes "nusw") t u k, word_alike (codes "nuw") t u k) refl

  gep_alike : (depth : ℕ) → Alike here there Any (gep_parts here depth) (gep_parts there depth)
  unfolding gep_parts
  gep_alike depth = then_same _ _ _ _ (a_sign_alike (codes "(")) (λ _. then_kept _ _ _ _ (type_alike depth) (λ base known. then_same _ _ _ _ (a_sign_alike (codes ",")) (λ _. then_same _ _ _ _ (a_word_alike (codes "ptr")) (λ _.
      then_any _ _ _ _ (plain_alike (symbol_of here) (symbol_of there) symbol_alike) (λ a b. then_same _ _ _ _ (a_sign_alike (codes ",")) (λ _. then_any _ _ _ _ indices_alike (λ xs ys. done_any _ _)))))))

  -- a name on both sides, or a constant expression on both
  abbrev PlaceAlike : PlaceHead → PlaceHead → Type 0
  PlaceAlike (Bare a) (Bare b) = Unit {0}
  PlaceAlike (Bare a) Gep = ⊥
  PlaceAlike Gep (Bare b) = ⊥
  PlaceAlike Gep Gep = Unit {0}

  bare_alike : (x y : Result Symbol Flaw) (gep : Bool) → ValueAlike Any x y → ValueAlike PlaceAlike (bare_or x gep) (bare_or y gep)
  bare_alike (Ok a) (Ok b) gep v = tt
  bare_alike (Ok a) (Err d) gep v = absurd v
  bare_alike (Err c) (Ok b) gep v = absurd v
  bare_alike (Err c) (Err d) true v = tt
  bare_alike (Err c) (Err d) false v = tt

  place_head_alike : (t u : Token) → IsAlike here there t u → ValueAlike PlaceAlike (place_head here t) (place_head there u)
  place_head_alike t u k = rw (word_alike (codes "getelementptr") t u k) (bare_alike (symbol_of here t) (symbol_of there u) _ (symbol_alike t u k))

  after_place_alike : (depth : ℕ) (h i : PlaceHead) → PlaceAlike h i → Alike here there Any (after_place_head here depth h) (after_place_head there depth i)
  after_place_alike depth (Bare a) (Bare b) k = done_any _ _
  after_place_alike depth (Bare a) Gep k = absurd k
  after_place_alike depth Gep (Bare b) k = absurd k
  after_place_alike depth Gep Gep k = behind_alike (is_flag here.text) (is_flag there.text) (gep_parts here depth) (gep_parts there depth) flag_alike (gep_alike depth)

  pub place_alike : (depth : ℕ) → Alike here there Any (a_place here depth) (a_place there depth)
  unfolding a_place
  place_alike depth = then_alike {P = PlaceAlike} _ _ _ _ (plain_alike (place_head here) (place_head there) place_head_alike) (after_place_alike depth)

  begins_alike : (t u : Token) → IsAlike here there t u → begins_place there.text u ≡ begins_place here.text t
  begins_alike t u k = rw (kind_alike kind.Global t u k, word_alike (codes "getelementptr") t u k) refl

  -- ---- constants without brackets

  ptr_alike : (depth : ℕ) (of : Ty) → Alike here there Any (ptr_to_int here depth of) (ptr_to_int there depth of)
  unfolding ptr_to_int
  ptr_alike depth of = then_same _ _ _ _ (a_sign_alike (codes "(")) (λ _. then_same _ _ _ _ (a_word_alike (codes "ptr")) (λ _. then_any _ _ _ _ (place_alike depth) (λ a b. then_same _ _ _ _ (a_word_alike (codes "to")) (λ _.
      then_same _ _ _ _ (type_passes depth (must_be of)) (λ _. then_same _ _ _ _ (a_sign_alike (codes ")")) (λ _. done_any _ _))))))

  int_alike : Alike here there Any (int_to_ptr here) (int_to_ptr there)
  unfolding int_to_ptr
  int_alike = then_same _ _ _ _ (a_sign_alike (codes "(")) (λ _. then_kept _ _ _ _ width_alike (λ width _. then_same _ _ _ _ (number_alike width) (λ number. then_same _ _ _ _ (a_word_alike (codes "to")) (λ _.
      then_same _ _ _ _ (a_word_alike (codes "ptr")) (λ _. then_same _ _ _ _ (a_sign_alike (codes ")")) (λ _. done_any _ _))))))

  leaf_alike : (depth : ℕ) (of : Ty) (h : LeafHead) → Alike here there Any (after_leaf here depth of h) (after_leaf there depth of h)
  leaf_alike depth of leaf.Zero = done_any _ _
  leaf_alike depth of (leaf.Int n) = done_any _ _
  leaf_alike depth of leaf.Text = plain_any (text_of here.text) (text_of there.text) (λ t u k. rw (k.kind, k.spelling) refl)
  leaf_alike depth of leaf.PtrToInt = ptr_alike depth of
  leaf_alike depth of leaf.IntToPtr = int_alike

  address_alike : (depth : ℕ) → Alike here there Any (address here depth) (address there depth)
  unfolding address
  address_alike depth = then_any _ _ _ _ (place_alike depth) (λ a b. done_any _ _)

  -- ---- constants in brackets

  closes_alike : (close : List ℕ) → Alike here there {S = Unit {0}} Same (plain (closes_list here.text close)) (plain (closes_list there.text close))
  closes_alike close = plain_same _ _ (λ t u k. rw (sign_alike close t u k, sign_alike (codes ",") t u k) refl)

  module _ (depth : ℕ) (p q : Ty → Rule (Unit {0}) Const) (h : (of : Ty) → typing.Known of → Alike here there Any (p of) (q of)) where
    member_alike : (of : Ty) → typing.Known of → Alike here there Any (member here depth p of) (member there depth q of)
    unfolding member
    member_alike of known = then_same _ _ _ _ (type_passes depth (must_be of)) (λ _. h of known)

    next_alike : (close : List ℕ) (types : List Ty) → Each typing.Known types → Alike here there (InOption Any) (next_field here depth p close types) (next_field there depth q close types)
    unfolding next_field
    next_alike close [] known = then_same _ _ _ _ (closes_alike close) (λ closes. choose_alike closes _ _ _ _ (done_alike None None tt) (type_fails depth))
    next_alike close (of ∷ types) known = then_same _ _ _ _ (closes_alike close) (λ closes. choose_alike closes _ _ _ _ (done_alike None None tt) (then_any _ _ _ _ (member_alike of known.0) (λ a b. done_alike (Some a) (Some b) tt)))

    end_alike : (m n : Rule (Unit {0}) (List Const)) → Alike here there Any m n → (o r : Option Const) → InOption Any o r → Alike here there Any (end_or here depth p m o) (end_or there depth q n r)
    end_alike m n l None None v = done_any _ _
    end_alike m n l None (Some b) v = absurd v
    end_alike m n l (Some a) None v = absurd v
    end_alike m n l (Some a) (Some b) v = then_any _ _ _ _ l (λ xs ys. done_any _ _)

    more_fields_alike : (close : List ℕ) (types : List Ty) → Each typing.Known types → Alike here there Any (more_fields here depth p close types) (more_fields there depth q close types)
    unfolding more_fields
    more_fields_alike close [] known = then_any _ _ _ _ (any_alike _ _ (next_alike close [] known)) (λ a b. done_any _ _)
    more_fields_alike close (of ∷ types) known = then_alike _ _ _ _ (next_alike close (of ∷ types) known) (end_alike _ _ (more_fields_alike close types known.1))

    some_fields_alike : (close : List ℕ) (types : List Ty) → Each typing.Known types → Alike here there Any (some_fields here depth p close types) (some_fields there depth q close types)
    unfolding some_fields
    some_fields_alike close [] known = type_fails depth
    some_fields_alike close (of ∷ types) known = then_any _ _ _ _ (member_alike of known.0) (λ a b. then_any _ _ _ _ (more_fields_alike close types known.1) (λ xs ys. done_any _ _))

    fields_alike : (close : List ℕ) (types : List Ty) → Each typing.Known types → Alike here there Any (fields here depth p close types) (fields there depth q close types)
    unfolding fields no_fields
    fields_alike close types known = if_next_alike _ _ _ _ _ _ (sign_alike close) (then_same _ _ _ _ (a_sign_alike close) (λ _. done_any _ _)) (some_fields_alike close types known)

    array_const_alike : (of : Ty) → typing.Known of → Alike here there Any (array_const here depth p of) (array_const there depth q of)
    unfolding array_const
    array_const_alike of known = then_any _ _ _ _ (any_alike _ _ (items_alike (codes "]") _ _ (member_alike of known))) (λ xs ys. done_any _ _)

    struct_const_alike : (types : List Ty) → Each typing.Known types → Alike here there Any (struct_const here depth p types) (struct_const there depth q types)
    unfolding struct_const
    struct_const_alike types known = then_any _ _ _ _ (fields_alike (codes "}") types known) (λ xs ys. done_any _ _)

    packed_const_alike : (types : List Ty) → Each typing.Known types → Alike here there Any (packed_const here depth p types) (packed_const there depth q types)
    unfolding packed_const
    packed_const_alike types known = then_same _ _ _ _ (a_sign_alike (codes "{")) (λ _. then_any _ _ _ _ (fields_alike (codes "}") types known) (λ xs ys. then_same _ _ _ _ (a_sign_alike (codes ">")) (λ _. done_any _ _)))

    const_after_alike : (of r : Ty) → typing.Known of → typing.Known r → resolved here of ≡ r → resolved there of ≡ r → (c : ConstHead) → Alike here there Any (after_head here depth p of c) (after_head there depth q of c)
    const_after_alike of r known k e f (const_head.Leaf l) = leaf_alike (suc depth) of l
    const_after_alike of r known k e f const_head.Array = rw (e, f) (array_const_alike (element_in of (out-Ty r)) (typing.element of r known k))
    const_after_alike of r known k e f const_head.Struct = rw (e, f) (struct_const_alike (fields_in (out-Ty r)) (typing.fields r k))
    const_after_alike of r known k e f const_head.Packed = rw (e, f) (packed_const_alike (fields_in (out-Ty r)) (typing.fields r k))

  pub const_alike : (depth : ℕ) (of : Ty) → typing.Known of → Alike here there Any (a_const here depth of) (a_const there depth of)
  unfolding a_const
  const_alike zero of known = if_next_alike _ _ _ _ _ _ begins_alike (address_alike zero)
      (then_same _ _ _ _ (plain_same (leaf_head here.text (shape_of (resolved here of))) (leaf_head there.text (shape_of (resolved there of))) (λ t u k. rw (typing.resolves of known, k.kind, k.spelling) refl)) (leaf_alike zero of))
  const_alike (suc depth) of known = if_next_alike _ _ _ _ _ _ begins_alike (address_alike (suc depth))
      (then_same _ _ _ _ (plain_same (const_head here.text (shape_of (resolved here of))) (const_head there.text (shape_of (resolved there of))) (λ t u k. rw (typing.resolves of known, k.kind, k.spelling) refl))
      (const_after_alike depth (a_const here depth) (a_const there depth) (const_alike depth) of (resolved here of) known (typing.again of known) refl (typing.resolves of known)))
