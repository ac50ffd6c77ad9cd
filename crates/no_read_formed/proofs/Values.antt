-- Places and constants that were read are formed.
use Rattle.std.proofs.Common.{◌≡◌, ◌<◌, ◌≤◌, ℕ, ◌+◌, ◌-◌, ◌*◌, ◌^◌, suc, zero, Bool, true, false, ◌&&◌, ◌==◌, nat_lt, nat_le, List, [], ◌∷◌, length, bytes_eq, codes, map, if◌then◌else◌, Option, Some, None, Result, Ok, Err, refl, sym, ap, subst, ◌∙◌, arith, ℤ}
use Rattle.std.specs.Prelude.{position, unwrap_or, slice_get, drop}
use Rattle.std.specs.List.{list_all}
use Rattle.std.proofs.lemmas.Bool.{lt-ltb, ltb-true, eqb-true}
use Rattle.std.proofs.lemmas.Nat.{pow_pos}
use Rattle.std.proofs.Math.Pow.{pow-sub-lt}
use Rattle.no_lex.specs.declared.token.Token.{Token}
use Rattle.no_lex.specs.declared.token.TokenKind.{TokenKind}
use Rattle.no_lex.specs.declared.token.TokenKind.TheVariants as kind
use Rattle.no_ir.specs.declared.types.Ty.{Ty, out-Ty}
use Rattle.no_ir.specs.declared.types.Ty.TheOpen.{Ty-F}
use Rattle.no_ir.specs.declared.types.Ty.TheViews.{out-roll-Ty}
use Rattle.no_ir.specs.declared.types.Ty.TheVariants as ty
use Rattle.no_ir.specs.declared.types.Ty.TheVariants.{rolls-Void}
use Rattle.no_ir.specs.declared.constant.Const.{Const, roll-Const}
use Rattle.no_ir.specs.declared.constant.Const.TheOpen.{Const-F}
use Rattle.no_ir.specs.declared.constant.Const.TheFolds.{fold-roll-Const, map-Const}
use Rattle.no_ir.specs.declared.constant.Const.TheVariants as const
use Rattle.no_ir.specs.declared.constant.Const.TheVariants.{rolls-Zero, rolls-Int, rolls-Str, rolls-Array, rolls-Struct, rolls-Address, rolls-AddressAsInt, rolls-IntAsPtr}
use Rattle.no_ir.specs.declared.constant.Place.{Place}
use Rattle.no_ir.specs.declared.constant.Symbol.{Symbol}
use Rattle.no_ir.specs.declared.constant.Symbol.TheVariants as symbol
use Rattle.no_read_rules.specs.declared.fault.Flaw.{Flaw}
use Rattle.no_read_rules.specs.declared.fault.Flaw.TheVariants.{Syntax, LeftOut, Number}
use Rattle.no_read_rules.specs.declared.types.TypeHead.{TypeHead}
use Rattle.no_read_rules.specs.declared.types.TypeHead.TheVariants as thead
use Rattle.no_read_rules.specs.Lists.{items, closes_list, more_item}
use Rattle.no_read_rules.specs.Numbers.{is_negative, digits_of, decimal, kept, integer_at}
use Rattle.no_read_rules.specs.Repeated.{repeat}
use Rattle.no_read_rules.specs.Rules.{Rule, plain, done, ◌>>=◌, checked, choose, if_next}
use Rattle.no_read_rules.specs.Scope.{Meaning}
use Rattle.no_read_rules.specs.Spelled.{spelled, is_kind, is_word, is_sign, a_word, a_sign}
use Rattle.no_read_rules.specs.Types.{a_type, must_be, word_type}
use Rattle.no_read_rules.specs.Unescaped.{name_of, unescaped, inner}
use Rattle.no_read_constants.specs.Places.{or_function, or_global, symbol_named, symbol_of, int_width, width_of, truth_at, number_by, number_at, is_flag, an_index, indices, gep_parts, bare_or, place_head, after_place_head, a_place, begins_place}
use Rattle.no_read_constants.specs.Skipped.{behind}
use Rattle.no_read_constants.specs.Constants.{named_in, resolved, shape_in, shape_of, element_in, fields_in, zero_at, null_at, as_int, word_at, word_const, integer_in, leaf_by, leaf_head, bracket_at, as_leaf, const_by, const_head, text_of, ptr_to_int, int_to_ptr, after_leaf, address, member, past, next_field, end_or, more_fields, some_fields, no_fields, fields, array_const, struct_const, packed_const, after_head, flat_const, bracket_const, a_const}
use Rattle.no_read_constants.specs.declared.places.PlaceHead.{PlaceHead}
use Rattle.no_read_constants.specs.declared.places.PlaceHead.TheVariants as place
use Rattle.no_read_constants.specs.declared.constants.Shape.{Shape}
use Rattle.no_read_constants.specs.declared.constants.Shape.TheVariants as shape
use Rattle.no_read_constants.specs.declared.constants.LeafHead.{LeafHead}
use Rattle.no_read_constants.specs.declared.constants.LeafHead.TheVariants as leaf
use Rattle.no_read_constants.specs.declared.constants.ConstHead.{ConstHead}
use Rattle.no_read_constants.specs.declared.constants.ConstHead.TheVariants as head
use Rattle.no_module.specs.Formed.{type_formed, Counts, symbol_formed, base_formed, place_formed, number_in, number_formed, elements_in, fields_formed, fields_in as formed_in, constant_step, constant_formed}
use Rattle.no_module.specs.Named.{resolved as stands_for}
use Rattle.no_module.specs.Scalars.{is_void, void_step}
use Rattle.no_module.specs.Widths.{is_width, is_below}
use Rattle.no_read_formed.proofs.Saying.{All, Each, Maybe, plain_all, done_all, if_next_all, choose_all, behind_all, then_all, checked_all, skip_all, repeat_all, items_all}
use Rattle.no_read_formed.proofs.Types.{from_got, got, found_below, head_formed, word_head, IsType, type_all}

-- what names mean in a text, and the counts of the module that it gives
pub record Agrees (m : Meaning) (c : Counts) : Type 0 where
  pub globals : length m.globals ≤ c.globals
  pub functions : length m.functions ≤ c.functions
  pub named : length c.types ≡ length m.named
  pub types : (t : Ty) → resolved m t ≡ stands_for c.types t

-- ---- numbers

zero_below : (w : ℕ) → is_below w 0 ≡ true
zero_below w = lt-ltb 0 (2 ^ w) (pow_pos w)

kept_below : (w : ℕ) (negative : Bool) (o : Option ℕ) (n : ℕ) → kept w negative o ≡ Ok n → is_below w n ≡ true
kept_below w negative None n e = absurd cc
kept_below w false (Some k) n e = go (nat_lt k (2 ^ w)) refl e
  where
    go : (b : Bool) → nat_lt k (2 ^ w) ≡ b → (if b then Ok k else Err Number) ≡ Ok n → is_below w n ≡ true
    go true is m = subst (λ (x : ℕ). is_below w x ≡ true) (from_got k n m) is
    go false is m = absurd cc
kept_below w true (Some k) n e = go (nat_le (2 * k) (2 ^ w)) (k == 0) refl e
  where
    go : (b z : Bool) → (k == 0) ≡ z → (if b then Ok (if z then 0 else 2 ^ w - k) else Err Number) ≡ Ok n → is_below w n ≡ true
    go true true is m = subst (λ (x : ℕ). is_below w x ≡ true) (from_got 0 n m) (zero_below w)
    go true false is m = subst (λ (x : ℕ). is_below w x ≡ true) (from_got (2 ^ w - k) n m) (lt-ltb (2 ^ w - k) (2 ^ w) (pow-sub-lt w (some k is)))
      where
        some : (j : ℕ) → (j == 0) ≡ false → 0 < j
        some zero q = absurd cc
        some (suc j) q = omega arith
    go false z is m = absurd cc

integer_below : (w : ℕ) (x : List ℕ) (n : ℕ) → integer_at w x ≡ Ok n → is_below w n ≡ true
integer_below w x n e = go (nat_lt 0 w && nat_le w 64) e
  where
    go : (b : Bool) → (if b then kept w (is_negative x) (decimal (2 ^ 64 - 1) (digits_of x)) else Err Syntax) ≡ Ok n → is_below w n ≡ true
    go true m = kept_below w (is_negative x) (decimal (2 ^ 64 - 1) (digits_of x)) n m
    go false m = absurd cc

truth_below : (w : ℕ) (x : List ℕ) (n : ℕ) → truth_at w x ≡ Ok n → is_below w n ≡ true
truth_below w x n e = go (w == 1) (bytes_eq x (codes "true")) (bytes_eq x (codes "false")) refl e
  where
    go : (b c d : Bool) → (w == 1) ≡ b → (if b && c then Ok 1 else (if b && d then Ok 0 else Err Syntax)) ≡ Ok n → is_below w n ≡ true
    go true true d is m = subst (λ (x : ℕ). is_below w x ≡ true) (from_got 1 n m) (subst (λ (v : ℕ). is_below v 1 ≡ true) (sym (eqb-true w 1 is)) refl)
    go true false true is m = subst (λ (x : ℕ). is_below w x ≡ true) (from_got 0 n m) (zero_below w)
    go true false false is m = absurd cc
    go false c d is m = absurd cc

number_by_below : (w : ℕ) (k : TokenKind) (x : List ℕ) (n : ℕ) → number_by w k x ≡ Ok n → is_below w n ≡ true
number_by_below w kind.Integer x n e = integer_below w x n e
number_by_below w kind.Word x n e = truth_below w x n e
number_by_below w kind.Global x n e = absurd cc
number_by_below w kind.Local x n e = absurd cc
number_by_below w kind.Group x n e = absurd cc
number_by_below w kind.Meta x n e = absurd cc
number_by_below w kind.Quoted x n e = absurd cc
number_by_below w kind.CMark x n e = absurd cc
number_by_below w kind.Sign x n e = absurd cc
number_by_below w kind.Label x n e = absurd cc

pub number_all : {S : Type 0} (text : List ℕ) (w : ℕ) → All {S = S} (λ n. is_below w n ≡ true) (plain (number_at text w))
number_all text w = plain_all (λ n. is_below w n ≡ true) (number_at text w) (λ n u e. number_by_below w u.kind (spelled text u) n e)

-- ---- widths

width_in : (r : Result TypeHead Flaw) (w : ℕ) → ((h : TypeHead) → r ≡ Ok h → head_formed 0 h ≡ true) → int_width r ≡ Ok w → is_width w ≡ true
unfolding head_formed
width_in (Ok (thead.Int v)) w h e = subst (λ (x : ℕ). is_width x ≡ true) (from_got v w e) (h (thead.Int v) refl)
width_in (Ok thead.Ptr) w h e = absurd cc
width_in (Ok thead.Array) w h e = absurd cc
width_in (Ok thead.Struct) w h e = absurd cc
width_in (Ok thead.Packed) w h e = absurd cc
width_in (Ok (thead.Named k)) w h e = absurd cc
width_in (Err flaw) w h e = absurd cc

pub width_all : {S : Type 0} (text : List ℕ) → All {S = S} (λ w. is_width w ≡ true) (plain (width_of text))
width_all text = plain_all (λ w. is_width w ≡ true) (width_of text) (λ w u e. go u w (is_kind kind.Word u) e)
  where
    go : (u : Token) (w : ℕ) (b : Bool) → (if b then int_width (word_type (spelled text u)) else Err Syntax) ≡ Ok w → is_width w ≡ true
    go u w true e = width_in (word_type (spelled text u)) w (λ h k. word_head 0 (spelled text u) h k) e
    go u w false e = absurd cc

-- ---- places

module _ (m : Meaning) (c : Counts) (a : Agrees m c) where
  longer : (k x y : ℕ) → nat_lt k x ≡ true → x ≤ y → nat_lt k y ≡ true
  longer k x y e le = lt-ltb k y (further (ltb-true k x e) le)
    where
      further : k < x → x ≤ y → k < y
      further p q = omega (arith, p, q)

  named_symbol : (name : List ℕ) (o p : Option ℕ) → position (bytes_eq name) m.globals ≡ o → position (bytes_eq name) m.functions ≡ p → symbol_formed c (or_global o p name) ≡ true
  named_symbol name (Some k) p e f = longer k (length m.globals) c.globals (found_below m.globals name k e) a.globals
  named_symbol name None (Some k) e f = longer k (length m.functions) c.functions (found_below m.functions name k f) a.functions
  named_symbol name None None e f = refl

  abbrev IsSymbol : Symbol → Type 0
  IsSymbol s = symbol_formed c s ≡ true

  symbol_is : (u : Token) (s : Symbol) → symbol_of m u ≡ Ok s → IsSymbol s
  symbol_is u s e = go (is_kind kind.Global u) e
    where
      named : (name : List ℕ) → IsSymbol (symbol_named m name)
      named name = named_symbol name (position (bytes_eq name) m.globals) (position (bytes_eq name) m.functions) refl refl

      go : (b : Bool) → (if b then Ok (symbol_named m (name_of (drop 1 (spelled m.text u)))) else Err Syntax) ≡ Ok s → IsSymbol s
      go true k = subst IsSymbol (from_got (symbol_named m (name_of (drop 1 (spelled m.text u)))) s k) (named (name_of (drop 1 (spelled m.text u))))
      go false k = absurd cc

  abbrev pub IsTypeHere : Ty → Type 0
  IsTypeHere t = IsType (length c.types) t

  pub type_here : (depth : ℕ) → All IsTypeHere (a_type m depth)
  type_here depth = subst (λ (n : ℕ). All (IsType n) (a_type m depth)) (sym a.named) (type_all m depth)

  abbrev pub IsPlace : Place → Type 0
  IsPlace p = place_formed c p ≡ true

  -- at least one index stands
  some_indices : All (λ steps. (i : ℤ) × (others : List ℤ) × (steps ≡ i ∷ others)) (indices m)
  unfolding indices
  some_indices = skip_all (λ steps. (i : ℤ) × (others : List ℤ) × (steps ≡ i ∷ others)) (an_index m) (λ first. repeat (more_item m.text (codes ")") (an_index m)) >>= λ others. done (first ∷ others))
      (λ first. skip_all (λ steps. (i : ℤ) × (others : List ℤ) × (steps ≡ i ∷ others)) (repeat (more_item m.text (codes ")") (an_index m))) (λ others. done (first ∷ others))
      (λ others. done_all (λ steps. (i : ℤ) × (others : List ℤ) × (steps ≡ i ∷ others)) (first ∷ others) (first, others, refl)))

  stepped : (s : Symbol) (base : Ty) (steps : List ℤ) → IsSymbol s → IsTypeHere base → ((i : ℤ) × (others : List ℤ) × (steps ≡ i ∷ others)) → IsPlace (record { symbol = s; base = base; indices = steps })
  stepped s base steps p q k = subst (λ (l : List ℤ). IsPlace (record { symbol = s; base = base; indices = l })) (sym k.2) (rw (p, q) refl)

  gep_all : (depth : ℕ) → All IsPlace (gep_parts m depth)
  unfolding gep_parts
  gep_all depth = skip_all IsPlace (a_sign m.text (codes "(")) _ (λ _. then_all IsTypeHere IsPlace (a_type m depth) _ (type_here depth)
      (λ base k. skip_all IsPlace (a_sign m.text (codes ",")) _ (λ _. skip_all IsPlace (a_word m.text (codes "ptr")) _
      (λ _. then_all IsSymbol IsPlace (plain (symbol_of m)) _ (plain_all IsSymbol (symbol_of m) (λ s u e. symbol_is u s e))
      (λ s l. skip_all IsPlace (a_sign m.text (codes ",")) _ (λ _. then_all (λ steps. (i : ℤ) × (others : List ℤ) × (steps ≡ i ∷ others)) IsPlace (indices m) _ some_indices
      (λ steps n. done_all IsPlace (record { symbol = s; base = base; indices = steps }) (stepped s base steps l k n))))))))

  HeadPlace : PlaceHead → Type 0
  HeadPlace (place.Bare s) = IsSymbol s
  HeadPlace place.Gep = Unit {0}

  bare_is : (r : Result Symbol Flaw) (b : Bool) (h : PlaceHead) → ((s : Symbol) → r ≡ Ok s → IsSymbol s) → bare_or r b ≡ Ok h → HeadPlace h
  unfolding HeadPlace
  bare_is (Ok s) b h k e = subst HeadPlace (from_got (place.Bare s) h e) (k s refl)
  bare_is (Err flaw) true h k e = subst HeadPlace (from_got place.Gep h e) tt
  bare_is (Err flaw) false h k e = absurd cc

  void_is : is_void ty.Void ≡ true
  void_is = ap void_step (ap out-Ty (sym rolls-Void) ∙ out-roll-Ty Ty-F.Void)

  after_place : (depth : ℕ) (h : PlaceHead) → HeadPlace h → All IsPlace (after_place_head m depth h)
  unfolding HeadPlace
  after_place depth (place.Bare s) k = done_all IsPlace (record { symbol = s; base = ty.Void; indices = [] }) (rw (k, void_is) refl)
  after_place depth place.Gep k = behind_all IsPlace (is_flag m.text) (gep_parts m depth) (gep_all depth)

  pub place_all : (depth : ℕ) → All IsPlace (a_place m depth)
  unfolding a_place
  place_all depth = then_all HeadPlace IsPlace (plain (place_head m)) (after_place_head m depth)
      (plain_all HeadPlace (place_head m) (λ h u e. bare_is (symbol_of m u) (is_word m.text (codes "getelementptr") u) h (λ s k. symbol_is u s k) e)) (λ h k. after_place depth h k)

  -- ---- constants, form by form

  layer : (x : Const-F Const) (k : Const) → roll-Const x ≡ k → (t : Ty) → constant_formed c k t ≡ constant_step c (map-Const Const (Ty → Bool) (constant_formed c) x) t
  layer x k e t = ap (λ (y : Const). constant_formed c y t) (sym e) ∙ ap (λ (f : Ty → Bool). f t) (fold-roll-Const (Ty → Bool) (constant_step c) x)

  abbrev pub IsConst : Ty → Const → Type 0
  IsConst t k = constant_formed c k t ≡ true

  zero_is : (t : Ty) → IsConst t const.Zero
  zero_is t = layer Const-F.Zero const.Zero rolls-Zero t

  int_is : (t : Ty) (n : ℕ) → number_formed n (stands_for c.types t) ≡ true → IsConst t (const.Int n)
  int_is t n e = layer (Const-F.Int n) (const.Int n) (rolls-Int n) t ∙ e

  text_is : (t : Ty) (bytes : List ℕ) → IsConst t (const.Str bytes)
  text_is t bytes = layer (Const-F.Str bytes) (const.Str bytes) (rolls-Str bytes) t

  pub address_is : (t : Ty) (p : Place) → IsPlace p → IsConst t (const.Address p)
  address_is t p k = layer (Const-F.Address p) (const.Address p) (rolls-Address p) t ∙ k

  number_is : (t : Ty) (p : Place) → IsPlace p → IsConst t (const.AddressAsInt p)
  number_is t p k = layer (Const-F.AddressAsInt p) (const.AddressAsInt p) (rolls-AddressAsInt p) t ∙ k

  pointer_is : (t : Ty) (n : ℕ) → IsConst t (const.IntAsPtr n)
  pointer_is t n = layer (Const-F.IntAsPtr n) (const.IntAsPtr n) (rolls-IntAsPtr n) t

  array_is : (t : Ty) (all : List Const) → elements_in (map (constant_formed c) all) (out-Ty (stands_for c.types t)) ≡ true → IsConst t (const.Array all)
  array_is t all e = layer (Const-F.Array all) (const.Array all) (rolls-Array all) t ∙ e

  struct_is : (t : Ty) (all : List Const) → formed_in (map (constant_formed c) all) (out-Ty (stands_for c.types t)) ≡ true → IsConst t (const.Struct all)
  struct_is t all e = layer (Const-F.Struct all) (const.Struct all) (rolls-Struct all) t ∙ e

  -- ---- leaves

  leaf_formed : Shape → LeafHead → Bool
  leaf_formed (shape.Int w) (leaf.Int n) = is_below w n
  leaf_formed _ _ = true

  abbrev LeafIs : Shape → LeafHead → Type 0
  LeafIs s l = leaf_formed s l ≡ true

  so_leaf : (s : Shape) (k l : LeafHead) → LeafIs s k → got k ≡ got l → LeafIs s l
  so_leaf s k l h e = subst (LeafIs s) (from_got k l e) h

  zero_leaf : (s : Shape) → LeafIs s (zero_at s)
  unfolding leaf_formed
  zero_leaf (shape.Int w) = zero_below w
  zero_leaf shape.Ptr = refl
  zero_leaf shape.Array = refl
  zero_leaf shape.Struct = refl
  zero_leaf shape.Other = refl

  null_leaf : (s : Shape) (l : LeafHead) → null_at s ≡ Ok l → LeafIs s l
  unfolding leaf_formed
  null_leaf shape.Ptr l e = so_leaf shape.Ptr leaf.Zero l refl e
  null_leaf (shape.Int w) l e = absurd cc
  null_leaf shape.Array l e = absurd cc
  null_leaf shape.Struct l e = absurd cc
  null_leaf shape.Other l e = absurd cc

  as_int_leaf : (w : ℕ) (r : Result ℕ Flaw) (l : LeafHead) → ((n : ℕ) → r ≡ Ok n → is_below w n ≡ true) → as_int r ≡ Ok l → LeafIs (shape.Int w) l
  unfolding leaf_formed
  as_int_leaf w (Ok n) l h e = so_leaf (shape.Int w) (leaf.Int n) l (h n refl) e
  as_int_leaf w (Err flaw) l h e = absurd cc

  word_at_leaf : (s : Shape) (x : List ℕ) (l : LeafHead) → word_at s x ≡ Ok l → LeafIs s l
  word_at_leaf (shape.Int w) x l e = as_int_leaf w (truth_at w x) l (λ n k. truth_below w x n k) e
  word_at_leaf shape.Ptr x l e = absurd cc
  word_at_leaf shape.Array x l e = absurd cc
  word_at_leaf shape.Struct x l e = absurd cc
  word_at_leaf shape.Other x l e = absurd cc

  other_leaf : (s : Shape) → LeafIs s leaf.PtrToInt
  unfolding leaf_formed
  other_leaf (shape.Int w) = refl
  other_leaf shape.Ptr = refl
  other_leaf shape.Array = refl
  other_leaf shape.Struct = refl
  other_leaf shape.Other = refl

  pointer_leaf : (s : Shape) → LeafIs s leaf.IntToPtr
  unfolding leaf_formed
  pointer_leaf (shape.Int w) = refl
  pointer_leaf shape.Ptr = refl
  pointer_leaf shape.Array = refl
  pointer_leaf shape.Struct = refl
  pointer_leaf shape.Other = refl

  text_leaf : (s : Shape) → LeafIs s leaf.Text
  unfolding leaf_formed
  text_leaf (shape.Int w) = refl
  text_leaf shape.Ptr = refl
  text_leaf shape.Array = refl
  text_leaf shape.Struct = refl
  text_leaf shape.Other = refl

  word_leaf : (s : Shape) (x : List ℕ) (l : LeafHead) → word_const s x ≡ Ok l → LeafIs s l
  word_leaf s x l e = go (bytes_eq x (codes "undef")) (bytes_eq x (codes "poison")) (bytes_eq x (codes "zeroinitializer")) (bytes_eq x (codes "null")) (bytes_eq x (codes "ptrtoint")) (bytes_eq x (codes "inttoptr")) e
    where
      go : (b c d f g h : Bool)
          → (if b then Ok (zero_at s) else (if c then Ok (zero_at s) else (if d then Ok (zero_at s) else (if f then null_at s else (if g then Ok leaf.PtrToInt else (if h then Ok leaf.IntToPtr else word_at s x)))))) ≡ Ok l → LeafIs s l
      go true c d f g h k = so_leaf s (zero_at s) l (zero_leaf s) k
      go false true d f g h k = so_leaf s (zero_at s) l (zero_leaf s) k
      go false false true f g h k = so_leaf s (zero_at s) l (zero_leaf s) k
      go false false false true g h k = null_leaf s l k
      go false false false false true h k = so_leaf s leaf.PtrToInt l (other_leaf s) k
      go false false false false false true k = so_leaf s leaf.IntToPtr l (pointer_leaf s) k
      go false false false false false false k = word_at_leaf s x l k

  integer_leaf : (s : Shape) (x : List ℕ) (l : LeafHead) → integer_in s x ≡ Ok l → LeafIs s l
  integer_leaf (shape.Int w) x l e = as_int_leaf w (integer_at w x) l (λ n k. integer_below w x n k) e
  integer_leaf shape.Ptr x l e = absurd cc
  integer_leaf shape.Array x l e = absurd cc
  integer_leaf shape.Struct x l e = absurd cc
  integer_leaf shape.Other x l e = absurd cc

  leaf_by_is : (s : Shape) (k : TokenKind) (x : List ℕ) (l : LeafHead) → leaf_by s k x ≡ Ok l → LeafIs s l
  leaf_by_is s kind.Word x l e = word_leaf s x l e
  leaf_by_is s kind.Integer x l e = integer_leaf s x l e
  leaf_by_is s kind.CMark x l e = so_leaf s leaf.Text l (text_leaf s) e
  leaf_by_is s kind.Global x l e = absurd cc
  leaf_by_is s kind.Local x l e = absurd cc
  leaf_by_is s kind.Group x l e = absurd cc
  leaf_by_is s kind.Meta x l e = absurd cc
  leaf_by_is s kind.Quoted x l e = absurd cc
  leaf_by_is s kind.Sign x l e = absurd cc
  leaf_by_is s kind.Label x l e = absurd cc

  -- ---- heads

  HeadConst : Shape → ConstHead → Type 0
  HeadConst s (head.Leaf l) = LeafIs s l
  HeadConst s head.Array = Unit {0}
  HeadConst s head.Struct = Unit {0}
  HeadConst s head.Packed = Unit {0}

  as_leaf_is : (s : Shape) (r : Result LeafHead Flaw) (h : ConstHead) → ((l : LeafHead) → r ≡ Ok l → LeafIs s l) → as_leaf r ≡ Ok h → HeadConst s h
  unfolding HeadConst
  as_leaf_is s (Ok l) h k e = subst (HeadConst s) (from_got (head.Leaf l) h e) (k l refl)
  as_leaf_is s (Err flaw) h k e = absurd cc

  bracket_is : (s : Shape) (x : List ℕ) (h : ConstHead) → bracket_at s x ≡ Ok h → HeadConst s h
  unfolding HeadConst
  bracket_is shape.Array x h e = go (bytes_eq x (codes "[")) e
    where
      go : (b : Bool) → (if b then Ok head.Array else Err Syntax) ≡ Ok h → HeadConst shape.Array h
      go true k = subst (HeadConst shape.Array) (from_got head.Array h k) tt
      go false k = absurd cc
  bracket_is shape.Struct x h e = go (bytes_eq x (codes "{")) (bytes_eq x (codes "<")) e
    where
      go : (b c : Bool) → (if b then Ok head.Struct else (if c then Ok head.Packed else Err Syntax)) ≡ Ok h → HeadConst shape.Struct h
      go true c k = subst (HeadConst shape.Struct) (from_got head.Struct h k) tt
      go false true k = subst (HeadConst shape.Struct) (from_got head.Packed h k) tt
      go false false k = absurd cc
  bracket_is (shape.Int w) x h e = absurd cc
  bracket_is shape.Ptr x h e = absurd cc
  bracket_is shape.Other x h e = absurd cc

  const_by_is : (s : Shape) (k : TokenKind) (x : List ℕ) (h : ConstHead) → const_by s k x ≡ Ok h → HeadConst s h
  const_by_is s kind.Sign x h e = bracket_is s x h e
  const_by_is s kind.Word x h e = as_leaf_is s (leaf_by s kind.Word x) h (λ l k. leaf_by_is s kind.Word x l k) e
  const_by_is s kind.Integer x h e = as_leaf_is s (leaf_by s kind.Integer x) h (λ l k. leaf_by_is s kind.Integer x l k) e
  const_by_is s kind.CMark x h e = as_leaf_is s (leaf_by s kind.CMark x) h (λ l k. leaf_by_is s kind.CMark x l k) e
  const_by_is s kind.Global x h e = absurd cc
  const_by_is s kind.Local x h e = absurd cc
  const_by_is s kind.Group x h e = absurd cc
  const_by_is s kind.Meta x h e = absurd cc
  const_by_is s kind.Quoted x h e = absurd cc
  const_by_is s kind.Label x h e = absurd cc

  -- ---- constants without brackets

  at_shape : (o : Ty-F Ty) (n : ℕ) → LeafIs (shape_in o) (leaf.Int n) → number_in n o ≡ true
  unfolding leaf_formed
  at_shape (Ty-F.Int w) n e = e
  at_shape Ty-F.Void n e = refl
  at_shape Ty-F.Ptr n e = refl
  at_shape (Ty-F.Array count element) n e = refl
  at_shape (Ty-F.Struct packed ts) n e = refl
  at_shape (Ty-F.Named k) n e = refl

  abbrev shape_at : Ty → Shape
  shape_at t = shape_of (resolved m t)

  same_number : (t : Ty) (n : ℕ) → LeafIs (shape_at t) (leaf.Int n) → number_formed n (stands_for c.types t) ≡ true
  same_number t n e = subst (λ (u : Ty). number_formed n u ≡ true) (a.types t) (at_shape (out-Ty (resolved m t)) n e)

  ptr_to_int_all : (depth : ℕ) (t : Ty) → All (IsConst t) (ptr_to_int m depth t)
  unfolding ptr_to_int
  ptr_to_int_all depth t = skip_all (IsConst t) (a_sign m.text (codes "(")) _ (λ _. skip_all (IsConst t) (a_word m.text (codes "ptr")) _ (λ _. then_all IsPlace (IsConst t) (a_place m depth) _ (place_all depth)
      (λ p k. skip_all (IsConst t) (a_word m.text (codes "to")) _ (λ _. skip_all (IsConst t) (checked (a_type m depth) (must_be t)) _ (λ _. skip_all (IsConst t) (a_sign m.text (codes ")")) _ (λ _. done_all (IsConst t) (const.AddressAsInt p) (number_is t p k)))))))

  int_to_ptr_all : (t : Ty) → All (IsConst t) (int_to_ptr m)
  unfolding int_to_ptr
  int_to_ptr_all t = skip_all (IsConst t) (a_sign m.text (codes "(")) _ (λ _. skip_all (IsConst t) (plain (width_of m.text)) _ (λ w. skip_all (IsConst t) (plain (number_at m.text w)) _
      (λ n. skip_all (IsConst t) (a_word m.text (codes "to")) _ (λ _. skip_all (IsConst t) (a_word m.text (codes "ptr")) _ (λ _. skip_all (IsConst t) (a_sign m.text (codes ")")) _ (λ _. done_all (IsConst t) (const.IntAsPtr n) (pointer_is t n)))))))

  text_token : (t : Ty) (u : Token) (k : Const) → text_of m.text u ≡ Ok k → IsConst t k
  text_token t u k e = go (is_kind kind.Quoted u) e
    where
      go : (b : Bool) → (if b then Ok (const.Str (unescaped (inner (spelled m.text u)))) else Err Syntax) ≡ Ok k → IsConst t k
      go true h = subst (IsConst t) (from_got (const.Str (unescaped (inner (spelled m.text u)))) k h) (text_is t (unescaped (inner (spelled m.text u))))
      go false h = absurd cc

  after_leaf_all : (depth : ℕ) (t : Ty) (l : LeafHead) → LeafIs (shape_at t) l → All (IsConst t) (after_leaf m depth t l)
  after_leaf_all depth t leaf.Zero k = done_all (IsConst t) const.Zero (zero_is t)
  after_leaf_all depth t (leaf.Int n) k = done_all (IsConst t) (const.Int n) (int_is t n (same_number t n k))
  after_leaf_all depth t leaf.Text k = plain_all (IsConst t) (text_of m.text) (λ x u e. text_token t u x e)
  after_leaf_all depth t leaf.PtrToInt k = ptr_to_int_all depth t
  after_leaf_all depth t leaf.IntToPtr k = int_to_ptr_all t

  address_all : (depth : ℕ) (t : Ty) → All (IsConst t) (address m depth)
  unfolding address
  address_all depth t = then_all IsPlace (IsConst t) (a_place m depth) _ (place_all depth) (λ p k. done_all (IsConst t) (const.Address p) (address_is t p k))

  -- ---- lists

  abbrev Filled : List Ty → List Const → Type 0
  Filled ts all = fields_formed (map (constant_formed c) all) ts ≡ true

  in_array : (o : Ty-F Ty) (t : Ty) (all : List Const) → Each (IsConst (element_in t o)) all → elements_in (map (constant_formed c) all) o ≡ true
  in_array (Ty-F.Array count element) t all k = go all k
    where
      go : (ks : List Const) → Each (IsConst element) ks → list_all (λ (formed : Ty → Bool). formed element) (map (constant_formed c) ks) ≡ true
      go [] h = refl
      go (x ∷ xs) h = rw (h.0, go xs h.1) refl
  in_array Ty-F.Void t all k = refl
  in_array (Ty-F.Int w) t all k = refl
  in_array Ty-F.Ptr t all k = refl
  in_array (Ty-F.Struct packed ts) t all k = refl
  in_array (Ty-F.Named j) t all k = refl

  in_struct : (o : Ty-F Ty) (all : List Const) → Filled (fields_in o) all → formed_in (map (constant_formed c) all) o ≡ true
  in_struct (Ty-F.Struct packed ts) all k = k
  in_struct Ty-F.Void all k = refl
  in_struct (Ty-F.Int w) all k = refl
  in_struct Ty-F.Ptr all k = refl
  in_struct (Ty-F.Array count element) all k = refl
  in_struct (Ty-F.Named j) all k = refl

  filled_none : (ts : List Ty) → Filled ts []
  filled_none ts = refl

  filled_more : (t : Ty) (ts : List Ty) (k : Const) (others : List Const) → IsConst t k → Filled ts others → Filled (t ∷ ts) (k ∷ others)
  filled_more t ts k others p q = rw (p, q) refl

  module _ (depth : ℕ) (inner_rule : Ty → Rule (Unit {0}) Const) (h : (t : Ty) → All (IsConst t) (inner_rule t)) where
    member_all : (t : Ty) → All (IsConst t) (member m depth inner_rule t)
    unfolding member
    member_all t = skip_all (IsConst t) (checked (a_type m depth) (must_be t)) (λ _. inner_rule t) (λ _. h t)

    next_all : (close : List ℕ) (t : Ty) (ts : List Ty) → All (Maybe (IsConst t)) (next_field m depth inner_rule close (t ∷ ts))
    unfolding next_field
    next_all close t ts = skip_all (Maybe (IsConst t)) (plain (closes_list m.text close)) _ (λ closes. choose_all (Maybe (IsConst t)) closes (done None) (member m depth inner_rule t >>= λ k. done (Some k))
        (done_all (Maybe (IsConst t)) None tt) (then_all (IsConst t) (Maybe (IsConst t)) (member m depth inner_rule t) (λ k. done (Some k)) (member_all t) (λ k x. done_all (Maybe (IsConst t)) (Some k) x)))

    more_all : (close : List ℕ) (ts : List Ty) → All (Filled ts) (more_fields m depth inner_rule close ts)
    unfolding more_fields
    more_all close [] = skip_all (Filled []) (next_field m depth inner_rule close []) (λ _. done []) (λ _. done_all (Filled []) [] (filled_none []))
    more_all close (t ∷ ts) = then_all (Maybe (IsConst t)) (Filled (t ∷ ts)) (next_field m depth inner_rule close (t ∷ ts)) (end_or m depth inner_rule (more_fields m depth inner_rule close ts)) (next_all close t ts) (λ o k. ended (more_all close ts) o k)
      where
        ended : All (Filled ts) (more_fields m depth inner_rule close ts) → (o : Option Const) → Maybe (IsConst t) o → All (Filled (t ∷ ts)) (end_or m depth inner_rule (more_fields m depth inner_rule close ts) o)
        ended more None k = done_all (Filled (t ∷ ts)) [] (filled_none (t ∷ ts))
        ended more (Some x) k = then_all (Filled ts) (Filled (t ∷ ts)) (more_fields m depth inner_rule close ts) (λ others. done (x ∷ others)) more (λ others l. done_all (Filled (t ∷ ts)) (x ∷ others) (filled_more t ts x others k l))

    some_all : (close : List ℕ) (ts : List Ty) → All (Filled ts) (some_fields m depth inner_rule close ts)
    unfolding some_fields
    some_all close [] = λ s t used k x. absurd (impossible k x.passes)
      where
        impossible : (k : List Const) → (Err Syntax ≡ Ok k) → ⊥
        impossible k e = cc
    some_all close (t ∷ ts) = then_all (IsConst t) (Filled (t ∷ ts)) (member m depth inner_rule t) (λ x. more_fields m depth inner_rule close ts >>= λ others. done (x ∷ others)) (member_all t)
        (λ x k. then_all (Filled ts) (Filled (t ∷ ts)) (more_fields m depth inner_rule close ts) (λ others. done (x ∷ others)) (more_all close ts) (λ others l. done_all (Filled (t ∷ ts)) (x ∷ others) (filled_more t ts x others k l)))

    none_all : (close : List ℕ) (ts : List Ty) → All (Filled ts) (no_fields m depth inner_rule close)
    unfolding no_fields
    none_all close ts = skip_all (Filled ts) (a_sign m.text close) (λ _. done []) (λ _. done_all (Filled ts) [] (filled_none ts))

    fields_all : (close : List ℕ) (ts : List Ty) → All (Filled ts) (fields m depth inner_rule close ts)
    unfolding fields
    fields_all close ts = if_next_all (Filled ts) (is_sign m.text close) (no_fields m depth inner_rule close) (some_fields m depth inner_rule close ts) (none_all close ts) (some_all close ts)

    here : (t : Ty) (all : List Const) → elements_in (map (constant_formed c) all) (out-Ty (resolved m t)) ≡ true → IsConst t (const.Array all)
    here t all e = array_is t all (subst (λ (u : Ty). elements_in (map (constant_formed c) all) (out-Ty u) ≡ true) (a.types t) e)

    there : (t : Ty) (all : List Const) → formed_in (map (constant_formed c) all) (out-Ty (resolved m t)) ≡ true → IsConst t (const.Struct all)
    there t all e = struct_is t all (subst (λ (u : Ty). formed_in (map (constant_formed c) all) (out-Ty u) ≡ true) (a.types t) e)

    array_all : (t : Ty) → All (IsConst t) (array_const m depth inner_rule (element_in t (out-Ty (resolved m t))))
    unfolding array_const
    array_all t = then_all (Each (IsConst (element_in t (out-Ty (resolved m t))))) (IsConst t) (items m.text (codes "]") (member m depth inner_rule (element_in t (out-Ty (resolved m t))))) (λ all. done (const.Array all))
        (items_all (IsConst (element_in t (out-Ty (resolved m t)))) m.text (codes "]") (member m depth inner_rule (element_in t (out-Ty (resolved m t)))) (member_all (element_in t (out-Ty (resolved m t)))))
        (λ all k. done_all (IsConst t) (const.Array all) (here t all (in_array (out-Ty (resolved m t)) t all k)))

    struct_all : (t : Ty) → All (IsConst t) (struct_const m depth inner_rule (fields_in (out-Ty (resolved m t))))
    unfolding struct_const
    struct_all t = then_all (Filled (fields_in (out-Ty (resolved m t)))) (IsConst t) (fields m depth inner_rule (codes "}") (fields_in (out-Ty (resolved m t)))) (λ all. done (const.Struct all)) (fields_all (codes "}") (fields_in (out-Ty (resolved m t))))
        (λ all k. done_all (IsConst t) (const.Struct all) (there t all (in_struct (out-Ty (resolved m t)) all k)))

    packed_all : (t : Ty) → All (IsConst t) (packed_const m depth inner_rule (fields_in (out-Ty (resolved m t))))
    unfolding packed_const
    packed_all t = skip_all (IsConst t) (a_sign m.text (codes "{")) _ (λ _. then_all (Filled (fields_in (out-Ty (resolved m t)))) (IsConst t) (fields m depth inner_rule (codes "}") (fields_in (out-Ty (resolved m t)))) _ (fields_all (codes "}") (fields_in (out-Ty (resolved m t))))
        (λ all k. skip_all (IsConst t) (a_sign m.text (codes ">")) _ (λ _. done_all (IsConst t) (const.Struct all) (there t all (in_struct (out-Ty (resolved m t)) all k)))))

    after_head_all : (t : Ty) (k : ConstHead) → HeadConst (shape_at t) k → All (IsConst t) (after_head m depth inner_rule t k)
    unfolding HeadConst
    after_head_all t (head.Leaf l) k = after_leaf_all (suc depth) t l k
    after_head_all t head.Array k = array_all t
    after_head_all t head.Struct k = struct_all t
    after_head_all t head.Packed k = packed_all t

  pub const_all : (depth : ℕ) (t : Ty) → All (IsConst t) (a_const m depth t)
  unfolding a_const
  const_all zero t = if_next_all (IsConst t) (begins_place m.text) (address m zero) (flat_const m t) (address_all zero t)
      (then_all (LeafIs (shape_at t)) (IsConst t) (plain (leaf_head m.text (shape_at t))) (after_leaf m zero t)
      (plain_all (LeafIs (shape_at t)) (leaf_head m.text (shape_at t)) (λ l u e. leaf_by_is (shape_at t) u.kind (spelled m.text u) l e)) (λ l k. after_leaf_all zero t l k))
  const_all (suc depth) t = if_next_all (IsConst t) (begins_place m.text) (address m (suc depth)) (bracket_const m depth (a_const m depth) t) (address_all (suc depth) t)
      (then_all (HeadConst (shape_at t)) (IsConst t) (plain (const_head m.text (shape_at t))) (after_head m depth (a_const m depth) t)
      (plain_all (HeadConst (shape_at t)) (const_head m.text (shape_at t)) (λ l u e. const_by_is (shape_at t) u.kind (spelled m.text u) l e)) (λ l k. after_head_all depth (a_const m depth) (const_all depth) t l k))
