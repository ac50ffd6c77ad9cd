-- No definition of a type begins inside another, so a text has no more names of types than definitions.
use Rattle.std.proofs.Common.{◌≡◌, ◌<◌, ◌≤◌, ℕ, suc, zero, ◌+◌, Bool, true, false, not, ◌&&◌, ◌||◌, ◌==◌, List, [], ◌∷◌, ◌++◌, length, bytes_eq, codes, if◌then◌else◌, Option, Some, None, Result, Ok, Err, refl, sym, ap, subst, ◌∙◌, ◌⊎◌, inl, inr, arith, true≢false, append_assoc, append-nil}
use Rattle.std.proofs.lemmas.List.{length-append}
use Rattle.no_lex.specs.declared.token.Token.{Token}
use Rattle.no_lex.specs.declared.token.TokenKind.{TokenKind}
use Rattle.no_lex.specs.declared.token.TokenKind.TheVariants as kind
use Rattle.no_ir.specs.Naming.{with_name, is_known}
use Rattle.no_ir.specs.declared.types.Ty.{Ty, out-Ty}
use Rattle.no_ir.specs.declared.types.Ty.TheOpen.{Ty-F}
use Rattle.no_ir.specs.declared.types.Ty.TheViews.{out-roll-Ty}
use Rattle.no_ir.specs.declared.types.Ty.TheVariants as ty
use Rattle.no_ir.specs.declared.types.Ty.TheVariants.{rolls-Named}
use Rattle.no_read_rules.specs.declared.fault.Flaw.{Flaw}
use Rattle.no_read_rules.specs.declared.fault.Flaw.TheVariants.{Syntax}
use Rattle.no_read_rules.specs.declared.types.TypeHead.{TypeHead}
use Rattle.no_read_rules.specs.declared.types.TypeHead.TheVariants as head
use Rattle.no_read_rules.specs.Lists.{closes_list, more_item, some_items, no_items, items}
use Rattle.no_read_rules.specs.Numbers.{count_of}
use Rattle.no_read_rules.specs.Repeated.{repeat}
use Rattle.no_read_rules.specs.Rules.{Rule, plain, done, ◌>>=◌, lift, choose, if_next, next_is, checked}
use Rattle.no_read_rules.specs.Scope.{Meaning}
use Rattle.no_read_rules.specs.Spelled.{kind_number, spelled, is_kind, is_word, is_sign, only_where, a_word, a_sign}
use Rattle.no_read_rules.specs.Types.{word_type, sign_type, named_type, number_in, head_by, type_head, leaf_of, count_token, array_parts, struct_parts, packed_parts, after_type_head, a_type}
use Rattle.no_read_types.specs.declared.definition.Definition.{Definition}
use Rattle.no_read_types.specs.Lifting.{name_at, begins_definition, struct_in, a_struct, a_definition, Piece, Kept, Defined, ArePieces, lifting_of, names_from}
use Rattle.no_read_names.proofs.Marks.{both, where_true, only_true, spells, other_than, kind_is}
use Rattle.no_read_names.proofs.RuleMoves.{AllAt, plain_at, done_at, choose_at, if_next_at, then_at}
use Rattle.no_read_formed.proofs.Saying.{kept}
use Rattle.no_read_formed.proofs.Types.{from_got, got}

module _ (text : List ℕ) where
  abbrev pub equals : Token → Bool
  equals u = is_sign text (codes "=") u

  -- no equals sign stands among these tokens
  abbrev pub Tame : List Token → Type 0
  Tame [] = Unit {0}
  Tame (u ∷ us) = (equals u ≡ false) × Tame us

  -- and the last is no name of a local
  pub record Ended (used : List Token) : Type 0 where
    pub front : List Token
    pub last : Token
    pub parts : used ≡ front ++ last ∷ []
    pub other : is_kind kind.Local last ≡ false

  tame_join : (us vs : List Token) → Tame us → Tame vs → Tame (us ++ vs)
  tame_join [] vs p q = q
  tame_join (u ∷ us) vs p q = (p.0, tame_join us vs p.1 q)

  ended_join : (us vs : List Token) → Ended vs → Ended (us ++ vs)
  ended_join us vs e = record { front = us ++ e.front; last = e.last; parts = ap (λ (l : List Token). us ++ l) e.parts ∙ sym (append_assoc us e.front (e.last ∷ [])); other = e.other }

  ended_one : (u : Token) → is_kind kind.Local u ≡ false → Ended (u ∷ [])
  ended_one u e = record { front = []; last = u; parts = refl; other = e }

  -- ---- tokens by kind

  kind_tame : (k : TokenKind) (u : Token) → (kind_number k == 8) ≡ false → is_kind k u ≡ true → equals u ≡ false
  kind_tame k u e p = ap (λ (c : TokenKind). kind_number c == 8 && bytes_eq (spelled text u) (codes "=")) (kind_is k u p) ∙ ap (λ (b : Bool). b && bytes_eq (spelled text u) (codes "=")) e

  kind_other : (k : TokenKind) (u : Token) → (kind_number k == 3) ≡ false → is_kind k u ≡ true → is_kind kind.Local u ≡ false
  kind_other k u e p = ap (λ (c : TokenKind). kind_number c == 3) (kind_is k u p) ∙ e

  sign_tame : (w : List ℕ) (u : Token) → bytes_eq w (codes "=") ≡ false → is_sign text w u ≡ true → equals u ≡ false
  sign_tame w u e p =
      let k = both (is_kind kind.Sign u) (bytes_eq (spelled text u) w) p in
      go (is_kind kind.Sign u) (ap (λ (x : List ℕ). bytes_eq x (codes "=")) (spells (spelled text u) w k.1) ∙ e)
    where
      go : (b : Bool) → bytes_eq (spelled text u) (codes "=") ≡ false → (b && bytes_eq (spelled text u) (codes "=")) ≡ false
      go true q = q
      go false q = refl

  sign_other : (w : List ℕ) (u : Token) → is_sign text w u ≡ true → is_kind kind.Local u ≡ false
  sign_other w u p = kind_other kind.Sign u refl (both (is_kind kind.Sign u) (bytes_eq (spelled text u) w) p).0

  word_tame : (w : List ℕ) (u : Token) → is_word text w u ≡ true → equals u ≡ false
  word_tame w u p = kind_tame kind.Word u refl (both (is_kind kind.Word u) (bytes_eq (spelled text u) w) p).0

  word_other : (w : List ℕ) (u : Token) → is_word text w u ≡ true → is_kind kind.Local u ≡ false
  word_other w u p = kind_other kind.Word u refl (both (is_kind kind.Word u) (bytes_eq (spelled text u) w) p).0

  -- ---- rules whose tokens are tame

  abbrev AreTame : {S A : Type 0} → Rule S A → Type 0
  AreTame p = AllAt (λ _ used. Tame used) p

  abbrev Closed : List Token → Type 0
  Closed used = Tame used × Ended used

  sign_at : {S : Type 0} (w : List ℕ) → bytes_eq w (codes "=") ≡ false → AllAt {S = S} (λ _ used. Closed used) (a_sign text w)
  sign_at w e = plain_at (λ _ used. Closed used) (λ token. only_where (is_sign text w token)) (λ a u k. let p = only_true (is_sign text w u) a k in ((sign_tame w u e p, tt), ended_one u (sign_other w u p)))

  word_at : {S : Type 0} (w : List ℕ) → AllAt {S = S} (λ _ used. Closed used) (a_word text w)
  word_at w = plain_at (λ _ used. Closed used) (λ token. only_where (is_word text w token)) (λ a u k. let p = only_true (is_word text w u) a k in ((word_tame w u p, tt), ended_one u (word_other w u p)))

  module _ {S A B : Type 0} where
    -- tame tokens, and then such tokens
    tame_then : (p : Rule S A) (q : A → Rule S B) → AreTame p → ((a : A) → AreTame (q a)) → AreTame (p >>= q)
    tame_then p q h k = then_at (λ _ u. Tame u) (λ _ _ v. Tame v) (λ _ used. Tame used) p q h k (λ a b u v x y. tame_join u v x y)

    -- tame tokens, and then closed ones
    closed_then : (p : Rule S A) (q : A → Rule S B) → AreTame p → ((a : A) → AllAt (λ _ v. Closed v) (q a)) → AllAt (λ _ used. Closed used) (p >>= q)
    closed_then p q h k = then_at (λ _ u. Tame u) (λ _ _ v. Closed v) (λ _ used. Closed used) p q h k (λ a b u v x y. (tame_join u v x y.0, ended_join u v y.1))

    -- closed tokens, and then none
    closed_done : (p : Rule S A) (f : A → B) → AllAt (λ _ u. Closed u) p → AllAt (λ _ used. Closed used) (p >>= λ a. done (f a))
    closed_done p f h = then_at (λ _ u. Closed u) (λ _ _ v. v ≡ []) (λ _ used. Closed used) p (λ a. done (f a)) h (λ a s t used b k. k.0)
        (λ a b u v x y. subst (λ (l : List Token). Closed (u ++ l)) (sym y) (subst (λ (l : List Token). Closed l) (sym (append-nil u)) x))

  loose : {S A : Type 0} (p : Rule S A) → AllAt (λ _ used. Closed used) p → AreTame p
  loose p h s t used a k = (h s t used a k).0

  done_tame : {S A : Type 0} (a : A) → AreTame {S = S} (done a)
  done_tame a = done_at (λ _ used. Tame used) a tt

  -- ---- lists

  module _ {S A : Type 0} (close : List ℕ) (apart : bytes_eq close (codes "=") ≡ false) (item : Rule S A) (h : AreTame item) where
    -- the last step of a list is its closing sign
    abbrev Step : Option A → List Token → Type 0
    Step None used = Closed used
    Step (Some a) used = Tame used

    -- behind an item: the closing sign, or a comma
    abbrev Comma : Bool → List Token → Type 0
    Comma true used = Closed used
    Comma false used = Tame used

    closes_at : AllAt {S = S} Comma (plain (closes_list text close))
    closes_at = plain_at Comma (closes_list text close) (λ b u k. go u b (is_sign text close u) (is_sign text (codes ",") u) refl refl k)
      where
        go : (u : Token) (b c d : Bool) → is_sign text close u ≡ c → is_sign text (codes ",") u ≡ d → (if c then Ok true else (if d then Ok false else Err Syntax)) ≡ Ok b → Comma b (u ∷ [])
        go u b true d p q k = subst (λ (x : Bool). Comma x (u ∷ [])) (from_got true b k) ((sign_tame close u apart p, tt), ended_one u (sign_other close u p))
        go u b false true p q k = subst (λ (x : Bool). Comma x (u ∷ [])) (from_got false b k) (sign_tame (codes ",") u refl q, tt)
        go u b false false p q k = absurd cc

    -- what follows: nothing behind the closing sign, an item behind a comma
    abbrev Behind : Bool → Option A → List Token → Type 0
    Behind true o v = (v ≡ []) × (o ≡ None)
    Behind false o v = (a : A) × (o ≡ Some a) × Tame v

    behind_at : (b : Bool) → AllAt (Behind b) (choose b (done None) (item >>= λ a. done (Some a)))
    behind_at true = λ s t used o k. (k.0, k.1)
    behind_at false = λ s t used o k. (k.first, k.in_back.1, subst Tame (sym (k.parts ∙ ap (λ (l : List Token). k.front ++ l) k.in_back.0 ∙ append-nil k.front)) (h s k.between k.front k.first k.in_front))

    step_at : AllAt Step (more_item text close item)
    unfolding more_item
    step_at = then_at Comma Behind Step (plain (closes_list text close)) (λ closes. choose closes (done None) (item >>= λ a. done (Some a))) closes_at behind_at join
      where
        join : (b : Bool) (o : Option A) (u v : List Token) → Comma b u → Behind b o v → Step o (u ++ v)
        join true o u v x y = subst (λ (p : Option A). Step p (u ++ v)) (sym y.1) (subst (λ (l : List Token). Closed (u ++ l)) (sym y.0) (subst (λ (l : List Token). Closed l) (sym (append-nil u)) x))
        join false o u v x y = subst (λ (p : Option A). Step p (u ++ v)) (sym y.1) (tame_join u v x y.2)

    steps_at : AllAt (λ _ used. Closed used) (repeat (more_item text close item))
    steps_at s t used [] k = step_at s t used None k
    steps_at s t used (a ∷ others) k =
        let x = step_at s k.between k.front (Some a) k.item in
        let y = steps_at k.between t k.back others k.others in
        subst (λ (l : List Token). Closed l) (sym k.parts) (tame_join k.front k.back x y.0, ended_join k.front k.back y.1)

    pub items_at : AllAt (λ _ used. Closed used) (items text close item)
    unfolding items no_items some_items
    items_at = if_next_at (λ _ used. Closed used) (is_sign text close) (no_items text close) (some_items text close item)
        (closed_done (a_sign text close) (λ _. []) (sign_at close apart))
        (closed_then item (λ first. repeat (more_item text close item) >>= λ others. done (first ∷ others)) h (λ a. closed_done (repeat (more_item text close item)) (λ others. a ∷ others) steps_at))

is_ok : {A : Type 0} → Result A Flaw → Bool
is_ok (Ok x) = true
is_ok (Err f) = false

-- ---- types

module _ (m : Meaning) where
  head_tame : (k : TokenKind) (x : List ℕ) (h : TypeHead) → head_by m k x ≡ Ok h → (kind_number k == 8 && bytes_eq x (codes "=")) ≡ false
  unfolding is_ok
  head_tame kind.Sign x h e = other_than (λ w. is_ok (sign_type w)) x (codes "=") refl (ap is_ok e)
  head_tame kind.Word x h e = refl
  head_tame kind.Local x h e = refl
  head_tame kind.Integer x h e = refl
  head_tame kind.Global x h e = refl
  head_tame kind.Group x h e = refl
  head_tame kind.Meta x h e = refl
  head_tame kind.Quoted x h e = refl
  head_tame kind.CMark x h e = refl
  head_tame kind.Label x h e = refl

  -- only the name of a type is a local
  HeadEnds : TypeHead → List Token → Type 0
  HeadEnds (head.Named n) used = Unit {0}
  HeadEnds (head.Int w) used = Ended m.text used
  HeadEnds head.Ptr used = Ended m.text used
  HeadEnds head.Array used = Unit {0}
  HeadEnds head.Struct used = Unit {0}
  HeadEnds head.Packed used = Unit {0}

  head_ends : (k : TokenKind) (x : List ℕ) (h : TypeHead) (u : Token) → head_by m k x ≡ Ok h → ((kind_number k == 3) ≡ false → is_kind kind.Local u ≡ false) → HeadEnds h (u ∷ [])
  unfolding HeadEnds
  head_ends kind.Local x h u e other = go (number_in m.named x) e
    where
      go : (o : Option ℕ) → named_type o ≡ Ok h → HeadEnds h (u ∷ [])
      go (Some n) p = subst (λ (y : TypeHead). HeadEnds y (u ∷ [])) (from_got (head.Named n) h p) tt
      go None p = absurd cc
  head_ends kind.Word x h u e other = any h (ended_one m.text u (other refl))
    where
      any : (y : TypeHead) → Ended m.text (u ∷ []) → HeadEnds y (u ∷ [])
      any (head.Named n) p = tt
      any (head.Int w) p = p
      any head.Ptr p = p
      any head.Array p = tt
      any head.Struct p = tt
      any head.Packed p = tt
  head_ends kind.Sign x h u e other = any h (ended_one m.text u (other refl))
    where
      any : (y : TypeHead) → Ended m.text (u ∷ []) → HeadEnds y (u ∷ [])
      any (head.Named n) p = tt
      any (head.Int w) p = p
      any head.Ptr p = p
      any head.Array p = tt
      any head.Struct p = tt
      any head.Packed p = tt
  head_ends kind.Integer x h u e other = absurd cc
  head_ends kind.Global x h u e other = absurd cc
  head_ends kind.Group x h u e other = absurd cc
  head_ends kind.Meta x h u e other = absurd cc
  head_ends kind.Quoted x h u e other = absurd cc
  head_ends kind.CMark x h u e other = absurd cc
  head_ends kind.Label x h u e other = absurd cc

  heads_at : AllAt {S = Unit {0}} (λ h used. Tame m.text used × HeadEnds h used) (plain (type_head m))
  heads_at = plain_at (λ h used. Tame m.text used × HeadEnds h used) (type_head m) (λ h u e. ((head_tame u.kind (spelled m.text u) h e, tt), head_ends u.kind (spelled m.text u) h u e (λ p. p)))

  count_at : AreTame m.text {S = Unit {0}} (plain (count_token m.text))
  count_at = plain_at (λ _ used. Tame m.text used) (count_token m.text) (λ n u e. (kind_tame m.text kind.Integer u refl (where_true (is_kind kind.Integer u) (count_of (spelled m.text u)) n e).0, tt))

  module _ (inner : Rule (Unit {0}) Ty) (h : AreTame m.text inner) where
    array_at : AllAt (λ _ used. Closed m.text used) (array_parts m inner)
    unfolding array_parts
    array_at = closed_then m.text (plain (count_token m.text)) _ count_at (λ count. closed_then m.text (a_word m.text (codes "x")) _ (loose m.text (a_word m.text (codes "x")) (word_at m.text (codes "x")))
        (λ _. closed_then m.text inner _ h (λ element. closed_done m.text (a_sign m.text (codes "]")) (λ _. ty.Array count element) (sign_at m.text (codes "]") refl))))

    fields_at : AllAt (λ _ used. Closed m.text used) (items m.text (codes "}") inner)
    fields_at = items_at m.text (codes "}") refl inner h

    struct_at : AllAt (λ _ used. Closed m.text used) (struct_parts m inner)
    unfolding struct_parts
    struct_at = closed_done m.text (items m.text (codes "}") inner) (λ fields. ty.Struct false fields) fields_at

    packed_at : AllAt (λ _ used. Closed m.text used) (packed_parts m inner)
    unfolding packed_parts
    packed_at = closed_then m.text (a_sign m.text (codes "{")) _ (loose m.text (a_sign m.text (codes "{")) (sign_at m.text (codes "{") refl))
        (λ _. closed_then m.text (items m.text (codes "}") inner) _ (loose m.text (items m.text (codes "}") inner) fields_at) (λ fields. closed_done m.text (a_sign m.text (codes ">")) (λ _. ty.Struct true fields) (sign_at m.text (codes ">") refl)))

  pub type_tame : (depth : ℕ) → AreTame m.text (a_type m depth)
  unfolding a_type
  type_tame zero = λ s t used a k. (heads_at s t used k.value k.read).0
  type_tame (suc depth) = then_at (λ h used. Tame m.text used × HeadEnds h used) (λ _ _ v. Tame m.text v) (λ _ used. Tame m.text used) (plain (type_head m)) (after_type_head m (a_type m depth)) heads_at
      (λ h. after h (type_tame depth)) (λ h a u v x y. tame_join m.text u v x.0 y)
    where
      after : (h : TypeHead) → AreTame m.text (a_type m depth) → AreTame m.text (after_type_head m (a_type m depth) h)
      after (head.Int w) t = done_tame m.text (ty.Int w)
      after head.Ptr t = done_tame m.text ty.Ptr
      after (head.Named n) t = done_tame m.text (ty.Named n)
      after head.Array t = loose m.text (array_parts m (a_type m depth)) (array_at (a_type m depth) t)
      after head.Struct t = loose m.text (struct_parts m (a_type m depth)) (struct_at (a_type m depth) t)
      after head.Packed t = loose m.text (packed_parts m (a_type m depth)) (packed_at (a_type m depth) t)

  -- a struct ends with a sign
  abbrev StructEnds : Ty → List Token → Type 0
  StructEnds t used = (u : Ty) → a_struct t ≡ Ok u → Ended m.text used

  not_named : (n : ℕ) (u : Ty) → a_struct (ty.Named n) ≡ Ok u → ⊥
  not_named n u e = none (struct_in (ty.Named n) (out-Ty (ty.Named n))) e (ap (struct_in (ty.Named n)) (ap out-Ty (sym (rolls-Named n)) ∙ out-roll-Ty (Ty-F.Named n)))
    where
      none : (r : Result Ty Flaw) → r ≡ Ok u → r ≡ Err Syntax → ⊥
      none r p q = cc

  struct_ends : (depth : ℕ) → AllAt StructEnds (a_type m (suc depth))
  unfolding a_type HeadEnds
  struct_ends depth = then_at HeadEnds Behind StructEnds (plain (type_head m)) (after_type_head m (a_type m depth)) (λ s t used h k. (heads_at s t used h k).1) after join
    where
      Behind : TypeHead → Ty → List Token → Type 0
      Behind (head.Named n) t v = (t ≡ ty.Named n) × (v ≡ [])
      Behind (head.Int w) t v = v ≡ []
      Behind head.Ptr t v = v ≡ []
      Behind head.Array t v = Ended m.text v
      Behind head.Struct t v = Ended m.text v
      Behind head.Packed t v = Ended m.text v

      after : (h : TypeHead) → AllAt (Behind h) (after_type_head m (a_type m depth) h)
      after (head.Named n) = λ s t used b k. (k.1, k.0)
      after (head.Int w) = λ s t used b k. k.0
      after head.Ptr = λ s t used b k. k.0
      after head.Array = λ s t used b k. (array_at (a_type m depth) (type_tame depth) s t used b k).1
      after head.Struct = λ s t used b k. (struct_at (a_type m depth) (type_tame depth) s t used b k).1
      after head.Packed = λ s t used b k. (packed_at (a_type m depth) (type_tame depth) s t used b k).1

      join : (h : TypeHead) (t : Ty) (u v : List Token) → HeadEnds h u → Behind h t v → StructEnds t (u ++ v)
      join (head.Named n) t u v x y = λ w e. absurd (not_named n w (subst (λ (z : Ty). a_struct z ≡ Ok w) y.0 e))
      join (head.Int w) t u v x y = λ _ e. subst (λ (l : List Token). Ended m.text (u ++ l)) (sym y) (subst (Ended m.text) (sym (append-nil u)) x)
      join head.Ptr t u v x y = λ _ e. subst (λ (l : List Token). Ended m.text (u ++ l)) (sym y) (subst (Ended m.text) (sym (append-nil u)) x)
      join head.Array t u v x y = λ _ e. ended_join m.text u v y
      join head.Struct t u v x y = λ _ e. ended_join m.text u v y
      join head.Packed t u v x y = λ _ e. ended_join m.text u v y

-- ---- where definitions begin

module _ (text : List ℕ) where
  quiet_end : (a : Token) (rest : List Token) → is_kind kind.Local a ≡ false → begins_definition text (a ∷ rest) ≡ false
  quiet_end a [] e = refl
  quiet_end a (b ∷ []) e = refl
  quiet_end a (b ∷ c ∷ rest) e = rw e refl

  quiet_next : (a : Token) (rest : List Token) → next_is (equals text) rest ≡ false → begins_definition text (a ∷ rest) ≡ false
  quiet_next a [] e = refl
  quiet_next a (b ∷ []) e = refl
  quiet_next a (b ∷ c ∷ rest) e = go (is_kind kind.Local a) (is_sign text (codes "=") b) (is_word text (codes "type") c) e
    where
      go : (p s q : Bool) → s ≡ false → (p && (s && q)) ≡ false
      go true false q k = refl
      go true true q k = absurd (true≢false k)
      go false s q k = refl

  passes : (a : Token) (rest : List Token) (ns : List (List ℕ)) → begins_definition text (a ∷ rest) ≡ false → names_from text ns (a ∷ rest) ≡ names_from text ns rest
  passes a rest ns e = ap (λ (b : Bool). names_from text (if b then with_name ns (name_at text a) else ns) rest) e

  inside : (front : List Token) (last : Token) (rest : List Token) (ns : List (List ℕ)) → Tame text (front ++ last ∷ []) → is_kind kind.Local last ≡ false → names_from text ns ((front ++ last ∷ []) ++ rest) ≡ names_from text ns rest
  inside [] last rest ns t e = passes last rest ns (quiet_end last rest e)
  inside (u ∷ front) last rest ns t e = passes u ((front ++ last ∷ []) ++ rest) ns (quiet_next u ((front ++ last ∷ []) ++ rest) (next front t.1)) ∙ inside front last rest ns t.1 e
    where
      next : (us : List Token) → Tame text (us ++ last ∷ []) → next_is (equals text) ((us ++ last ∷ []) ++ rest) ≡ false
      next [] k = k.0
      next (v ∷ us) k = k.0

  inside_all : (us rest : List Token) (ns : List (List ℕ)) → Tame text us → Ended text us → names_from text ns (us ++ rest) ≡ names_from text ns rest
  inside_all us rest ns t e =
      ap (λ (l : List Token). names_from text ns (l ++ rest)) e.parts ∙ inside e.front e.last rest ns (subst (Tame text) e.parts t) e.other

module _ (m : Meaning) where
  -- a definition has one name, where it begins
  pub definition_names : (ns names : List (List ℕ)) (used rest : List Token) (d : Definition) (after : List (List ℕ)) → (a_definition m).means names used d after → begins_definition m.text (used ++ rest) ≡ true
      → (name : List ℕ) × (names_from m.text ns (used ++ rest) ≡ names_from m.text (with_name ns name) rest)
  unfolding a_definition
  definition_names ns names used rest d after k begins =
      let sign = k.in_back in
      let word = sign.in_back in
      let type_ = word.in_back in
      let last = type_.in_back in
      let a = k.in_front.token in
      let b = sign.in_front.0.token in
      let c = word.in_front.0.token in
      let us = type_.front in
      let is_b : is_sign m.text (codes "=") b ≡ true = only_true (is_sign m.text (codes "=") b) sign.first (kept tt tt sign.first (only_where (is_sign m.text (codes "=") b)) sign.in_front.0.value) in
      let is_c : is_word m.text (codes "type") c ≡ true = only_true (is_word m.text (codes "type") c) word.first (kept tt tt word.first (only_where (is_word m.text (codes "type") c)) word.in_front.0.value) in
      let read = type_.in_front in
      let ends : Ended m.text us = struct_ends m 63 tt tt us read.value read.read.0 type_.first read.passes in
      let tame : Tame m.text us = type_tame m 64 tt tt us read.value read.read.0 in
      let whole : used ≡ a ∷ b ∷ c ∷ us =
      k.parts ∙ ap (λ (l : List Token). l ++ k.back) k.in_front.alone ∙ ap (λ (l : List Token). a ∷ l) (sign.parts ∙ ap (λ (l : List Token). l ++ sign.back) sign.in_front.0.alone
      ∙ ap (λ (l : List Token). b ∷ l) (word.parts ∙ ap (λ (l : List Token). l ++ word.back) word.in_front.0.alone
      ∙ ap (λ (l : List Token). c ∷ l) (type_.parts ∙ ap (λ (l : List Token). type_.front ++ l) last.0 ∙ append-nil type_.front))) in
      let starts : begins_definition m.text (a ∷ b ∷ c ∷ (us ++ rest)) ≡ true = subst (λ (l : List Token). begins_definition m.text (l ++ rest) ≡ true) whole begins in (
        name_at m.text a,
        ap (λ (l : List Token). names_from m.text ns (l ++ rest)) whole
            ∙ ap (λ (x : Bool). names_from m.text (if x then with_name ns (name_at m.text a) else ns) (b ∷ c ∷ (us ++ rest))) starts
            ∙ passes m.text b (c ∷ (us ++ rest)) (with_name ns (name_at m.text a)) (quiet_end m.text b (c ∷ (us ++ rest)) (sign_other m.text (codes "=") b is_b))
            ∙ passes m.text c (us ++ rest) (with_name ns (name_at m.text a)) (quiet_end m.text c (us ++ rest) (word_other m.text (codes "type") c is_c))
            ∙ inside_all m.text us rest (with_name ns (name_at m.text a)) tame ends,
      )

  longer_by_one : (names : List (List ℕ)) (name : List ℕ) → length (with_name names name) ≤ length names + 1
  longer_by_one names name = go (is_known names name)
    where
      go : (b : Bool) → length (if b then names else names ++ name ∷ []) ≤ length names + 1
      go true = omega arith
      go false = let e = length-append names (name ∷ []) in omega (arith, e)

  pub few_names : (pieces : List Piece) (ns names : List (List ℕ)) (tokens : List Token) → ArePieces m names tokens pieces → length (names_from m.text ns tokens) ≤ length ns + length (lifting_of pieces).defined
  few_names [] ns names tokens k = let e : names_from m.text ns tokens ≡ ns = ap (names_from m.text ns) k in let f : length (names_from m.text ns tokens) ≡ length ns = ap length e in omega (arith, f)
  few_names (Kept token ∷ pieces) ns names tokens k =
      let e : names_from m.text ns tokens ≡ names_from m.text ns k.back = ap (names_from m.text ns) k.parts ∙ passes m.text token k.back ns (subst (λ (l : List Token). begins_definition m.text l ≡ false) k.parts k.begins) in
      let f : length (names_from m.text ns tokens) ≡ length (names_from m.text ns k.back) = ap length e in
      let h = few_names pieces ns names k.back k.others in
      omega (arith, f, h)
  few_names (Defined d ∷ pieces) ns names tokens k =
      let x = definition_names ns names k.front k.back d k.between k.definition (subst (λ (l : List Token). begins_definition m.text l ≡ true) k.parts k.begins) in
      let f : length (names_from m.text ns tokens) ≡ length (names_from m.text (with_name ns x.0) k.back) = ap length (ap (names_from m.text ns) k.parts ∙ x.1) in
      let h = few_names pieces (with_name ns x.0) k.between k.back k.others in
      let g = longer_by_one ns x.0 in
      omega (arith, f, h, g)
