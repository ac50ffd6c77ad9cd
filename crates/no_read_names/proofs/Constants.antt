-- What constants do to the scan.
use Rattle.std.proofs.Common.{◌≡◌, ℕ, suc, zero, Bool, true, false, ◌&&◌, ◌==◌, inl, List, [], ◌∷◌, ◌++◌, codes, if◌then◌else◌, Option, Some, None, Result, Ok, Err, is_ok, refl, sym, ap, subst}
use Rattle.no_lex.specs.declared.token.Token.{Token}
use Rattle.no_lex.specs.declared.token.TokenKind.{TokenKind}
use Rattle.no_lex.specs.declared.token.TokenKind.TheVariants as kind
use Rattle.no_ir.specs.declared.types.Ty.{Ty, out-Ty}
use Rattle.no_ir.specs.declared.constant.Const.{Const}
use Rattle.no_ir.specs.declared.constant.Const.TheVariants as const
use Rattle.no_read_rules.specs.declared.fault.Flaw.{Flaw}
use Rattle.no_read_rules.specs.declared.fault.Flaw.TheVariants.{Syntax}
use Rattle.no_read_rules.specs.Lists.{items, closes_list}
use Rattle.no_read_rules.specs.Rules.{Rule, plain, done, ◌>>=◌, checked, choose}
use Rattle.no_read_rules.specs.Scope.{Meaning}
use Rattle.no_read_rules.specs.Spelled.{spelled, is_kind, is_sign, a_word, a_sign}
use Rattle.no_read_rules.specs.Types.{a_type, must_be}
use Rattle.no_read_rules.specs.Unescaped.{unescaped, inner}
use Rattle.no_read_constants.specs.Places.{width_of, number_at, a_place, begins_place}
use Rattle.no_read_constants.specs.Constants.{resolved, shape_of, element_in, fields_in, as_int, word_const, leaf_by, leaf_head, bracket_at, as_leaf, const_by, const_head, text_of, ptr_to_int, int_to_ptr, after_leaf, address, member, past, next_field, end_or, more_fields, some_fields, no_fields, fields, array_const, struct_const, packed_const, after_head, flat_const, bracket_const, a_const}
use Rattle.no_read_constants.specs.declared.constants.Shape.{Shape}
use Rattle.no_read_constants.specs.declared.constants.Shape.TheVariants as shape
use Rattle.no_read_constants.specs.declared.constants.LeafHead.{LeafHead}
use Rattle.no_read_constants.specs.declared.constants.LeafHead.TheVariants as leaf
use Rattle.no_read_constants.specs.declared.constants.ConstHead.{ConstHead}
use Rattle.no_read_constants.specs.declared.constants.ConstHead.TheVariants as head
use Rattle.no_read_symbols.specs.declared.standing.Bracket.{Bracket}
use Rattle.no_read_symbols.specs.declared.standing.Bracket.TheVariants as bracket
use Rattle.no_read_symbols.specs.Scan.{sign_bracket}
use Rattle.no_read_names.proofs.Marks.{IsSo, from_flaw, where_true, word_so, sign_so, token_so, kind_token, integer_so, quoted_so, mark_so}
use Rattle.no_read_names.proofs.RuleMoves.{Runs, AllAt, Until, plain_at, done_at, done_runs, then_at, then_runs, checked_runs, if_next_at, if_next_runs, some_item, closing, closes_at, behind_item, joined, items_run, anywhere, below, word_runs, sign_runs, sign_at, opens_round, closes_round, opens_brace, square_closing, brace_closing}
use Rattle.no_read_names.proofs.Spots.{Spot, flat, deep, Moves, moves_none, moves_then, other_moves, square_opens, brace_opens}
use Rattle.no_read_names.proofs.Types.{or_sign, type_runs}
use Rattle.no_read_names.proofs.Places.{curved, width_moves, number_moves, IsValue, value_moves, value_then, place_is, place_runs}

-- ---- the token that begins a constant

const_bracket : ConstHead → Bracket
const_bracket (head.Leaf l) = bracket.Other
const_bracket head.Array = bracket.OpenSquare
const_bracket head.Struct = bracket.OpenBrace
const_bracket head.Packed = bracket.Other

no_define : (s : Shape) → is_ok (word_const s (codes "define")) ≡ false
no_define (shape.Int w) = by (w == 1)
  where
    by : (b : Bool) → is_ok (as_int (if b && false then Ok 1 else (if b && false then Ok 0 else Err Syntax))) ≡ false
    by true = refl
    by false = refl
no_define shape.Ptr = refl
no_define shape.Array = refl
no_define shape.Struct = refl
no_define shape.Other = refl

no_declare : (s : Shape) → is_ok (word_const s (codes "declare")) ≡ false
no_declare (shape.Int w) = by (w == 1)
  where
    by : (b : Bool) → is_ok (as_int (if b && false then Ok 1 else (if b && false then Ok 0 else Err Syntax))) ≡ false
    by true = refl
    by false = refl
no_declare shape.Ptr = refl
no_declare shape.Array = refl
no_declare shape.Struct = refl
no_declare shape.Other = refl

leaf_so : (s : Shape) (k : TokenKind) (x : List ℕ) (l : LeafHead) → leaf_by s k x ≡ Ok l → IsSo k x bracket.Other
leaf_so s kind.Word x l e = word_so (λ w. is_ok (word_const s w)) x (no_define s) (no_declare s) (ap is_ok e)
leaf_so s kind.Integer x l e = integer_so x
leaf_so s kind.CMark x l e = mark_so x
leaf_so s kind.Global x l e = absurd cc
leaf_so s kind.Local x l e = absurd cc
leaf_so s kind.Group x l e = absurd cc
leaf_so s kind.Meta x l e = absurd cc
leaf_so s kind.Quoted x l e = absurd cc
leaf_so s kind.Sign x l e = absurd cc
leaf_so s kind.Label x l e = absurd cc

bracket_so : (s : Shape) (x : List ℕ) (h : ConstHead) → bracket_at s x ≡ Ok h → sign_bracket x ≡ const_bracket h
unfolding const_bracket
bracket_so shape.Array x h e = or_sign const_bracket x (codes "[") head.Array h _ refl (λ m. absurd cc) e
bracket_so shape.Struct x h e = or_sign const_bracket x (codes "{") head.Struct h _ refl (or_sign const_bracket x (codes "<") head.Packed h _ refl (λ m. absurd cc)) e
bracket_so (shape.Int w) x h e = absurd cc
bracket_so shape.Ptr x h e = absurd cc
bracket_so shape.Other x h e = absurd cc

as_leaf_is : (r : Result LeafHead Flaw) (h : ConstHead) → as_leaf r ≡ Ok h → (l : LeafHead) × (r ≡ Ok l) × (h ≡ head.Leaf l)
as_leaf_is (Ok l) h e = (l, refl, sym (from_flaw (head.Leaf l) h e))
as_leaf_is (Err flaw) h e = absurd cc

const_so : (s : Shape) (k : TokenKind) (x : List ℕ) (h : ConstHead) → const_by s k x ≡ Ok h → IsSo k x (const_bracket h)
unfolding const_bracket
const_so s k x h e = go k e
  where
    leafed : (c : TokenKind) → as_leaf (leaf_by s c x) ≡ Ok h → IsSo c x (const_bracket h)
    leafed c m = let i = as_leaf_is (leaf_by s c x) h m in subst (λ (g : ConstHead). IsSo c x (const_bracket g)) (sym i.2) (leaf_so s c x i.0 i.1)

    go : (c : TokenKind) → const_by s c x ≡ Ok h → IsSo c x (const_bracket h)
    go kind.Sign m = sign_so x (const_bracket h) (bracket_so s x h m)
    go kind.Word m = leafed kind.Word m
    go kind.Integer m = leafed kind.Integer m
    go kind.Global m = leafed kind.Global m
    go kind.Local m = leafed kind.Local m
    go kind.Group m = leafed kind.Group m
    go kind.Meta m = leafed kind.Meta m
    go kind.Quoted m = leafed kind.Quoted m
    go kind.CMark m = leafed kind.CMark m
    go kind.Label m = leafed kind.Label m

behind_const : ConstHead → Spot
behind_const head.Array = deep
behind_const head.Struct = deep
behind_const _ = flat

const_moves : (text : List ℕ) (s : Shape) (h : ConstHead) (t : Token) → const_head text s t ≡ Ok h → Moves text flat (behind_const h) (t ∷ [])
unfolding const_bracket behind_const
const_moves text s (head.Leaf l) t e = other_moves text t (token_so text t bracket.Other (const_so s t.kind (spelled text t) (head.Leaf l) e))
const_moves text s head.Array t e = square_opens text (λ d. d) t (token_so text t bracket.OpenSquare (const_so s t.kind (spelled text t) head.Array e))
const_moves text s head.Struct t e = brace_opens text (λ d. d) t (token_so text t bracket.OpenBrace (const_so s t.kind (spelled text t) head.Struct e))
const_moves text s head.Packed t e = other_moves text t (token_so text t bracket.Other (const_so s t.kind (spelled text t) head.Packed e))

-- ---- constants without brackets

module _ (m : Meaning) where
  text_runs : Runs {S = Unit {0}} m.text flat flat (plain (text_of m.text))
  text_runs = plain_at (λ _ used. Moves m.text flat flat used) (text_of m.text) (λ c t e. other_moves m.text t (kind_token kind.Quoted m.text t quoted_so (where_true (is_kind kind.Quoted t) (Ok (const.Str (unescaped (inner (spelled m.text t))))) c e).0))

  to_int_runs : (depth : ℕ) (ty : Ty) → Runs m.text flat flat (ptr_to_int m depth ty)
  unfolding ptr_to_int
  to_int_runs depth ty = then_runs m.text flat curved flat (a_sign m.text (codes "(")) _ (opens_round m.text (λ d. d))
      (λ _. then_runs m.text curved curved flat (a_word m.text (codes "ptr")) _ (anywhere m.text curved (a_word m.text (codes "ptr")) (word_runs m.text (codes "ptr") refl refl))
      (λ _. then_runs m.text curved curved flat (a_place m depth) _ (below m.text curved (a_place m depth) (place_runs m depth))
      (λ place. then_runs m.text curved curved flat (a_word m.text (codes "to")) _ (anywhere m.text curved (a_word m.text (codes "to")) (word_runs m.text (codes "to") refl refl))
      (λ _. then_runs m.text curved curved flat (checked (a_type m depth) (must_be ty)) _ (checked_runs m.text curved curved (a_type m depth) (must_be ty) (anywhere m.text curved (a_type m depth) (type_runs m depth)))
      (λ _. then_runs m.text curved flat flat (a_sign m.text (codes ")")) _ (closes_round m.text (λ d. d))
      (λ _. done_runs m.text flat (const.AddressAsInt place)))))))

  to_ptr_runs : Runs m.text flat flat (int_to_ptr m)
  unfolding int_to_ptr
  to_ptr_runs = then_runs m.text flat curved flat (a_sign m.text (codes "(")) _ (opens_round m.text (λ d. d))
      (λ _. then_runs m.text curved curved flat (plain (width_of m.text)) _ (anywhere m.text curved (plain (width_of m.text)) (plain_at (λ _ used. Moves m.text flat flat used) (width_of m.text) (λ w t e. width_moves m.text w t e)))
      (λ width. then_runs m.text curved curved flat (plain (number_at m.text width)) _ (anywhere m.text curved (plain (number_at m.text width)) (plain_at (λ _ used. Moves m.text flat flat used) (number_at m.text width) (λ n t e. number_moves m.text width n t e)))
      (λ number. then_runs m.text curved curved flat (a_word m.text (codes "to")) _ (anywhere m.text curved (a_word m.text (codes "to")) (word_runs m.text (codes "to") refl refl))
      (λ _. then_runs m.text curved curved flat (a_word m.text (codes "ptr")) _ (anywhere m.text curved (a_word m.text (codes "ptr")) (word_runs m.text (codes "ptr") refl refl))
      (λ _. then_runs m.text curved flat flat (a_sign m.text (codes ")")) _ (closes_round m.text (λ d. d))
      (λ _. done_runs m.text flat (const.IntAsPtr number)))))))

  leaf_runs : (depth : ℕ) (ty : Ty) (l : LeafHead) → Runs m.text flat flat (after_leaf m depth ty l)
  leaf_runs depth ty leaf.Zero = done_runs m.text flat const.Zero
  leaf_runs depth ty (leaf.Int n) = done_runs m.text flat (const.Int n)
  leaf_runs depth ty leaf.Text = text_runs
  leaf_runs depth ty leaf.PtrToInt = to_int_runs depth ty
  leaf_runs depth ty leaf.IntToPtr = to_ptr_runs

  address_is : (depth : ℕ) → AllAt (λ _ used. IsValue m.text used) (address m depth)
  unfolding address
  address_is depth = then_at (λ _ used. IsValue m.text used) (λ _ _ used. used ≡ []) (λ _ used. IsValue m.text used) (a_place m depth) (λ place. done (const.Address place))
      (place_is m depth) (λ place s t used c k. k.0) (λ place c u v p q. value_then m.text u v p q)

  flat_runs : (ty : Ty) → Runs m.text flat flat (flat_const m ty)
  flat_runs ty = then_runs m.text flat flat flat (plain (leaf_head m.text (shape_of (resolved m ty)))) (after_leaf m zero ty)
      (plain_at (λ _ used. Moves m.text flat flat used) (leaf_head m.text (shape_of (resolved m ty))) (λ l t e. other_moves m.text t (token_so m.text t bracket.Other (leaf_so (shape_of (resolved m ty)) t.kind (spelled m.text t) l e))))
      (leaf_runs zero ty)

-- ---- lists

abbrev refused : (A : Type 0) → Result A Flaw
refused A = Err Syntax

module _ (m : Meaning) (depth : ℕ) (within : Ty → Rule (Unit {0}) Const) (l : (ty : Ty) → Runs m.text deep deep (within ty)) where
  abbrev brace : List ℕ
  brace = codes "}"

  abbrev closes : (t : Token) → is_sign m.text brace t ≡ true → Moves m.text deep flat (t ∷ [])
  closes = brace_closing m.text (λ d. d)

  member_runs : (ty : Ty) → Runs m.text deep deep (member m depth within ty)
  unfolding member
  member_runs ty = then_runs m.text deep deep deep (checked (a_type m depth) (must_be ty)) _ (checked_runs m.text deep deep (a_type m depth) (must_be ty) (anywhere m.text deep (a_type m depth) (type_runs m depth))) (λ _. l ty)

  next_runs : (ty : Ty) (types : List Ty) → AllAt (Until m.text deep flat) (next_field m depth within brace (ty ∷ types))
  unfolding next_field
  next_runs ty types = then_at (closing m.text deep flat brace closes) (behind_item m.text deep flat brace closes) (Until m.text deep flat) (plain (closes_list m.text brace)) (λ c. choose c (done None) (member m depth within ty >>= λ x. done (Some x)))
      (closes_at m.text deep flat brace closes) go (joined m.text deep flat brace closes)
    where
      go : (c : Bool) → AllAt (behind_item m.text deep flat brace closes c) (choose c (done None) (member m depth within ty >>= λ x. done (Some x)))
      go true = done_at (behind_item m.text deep flat brace closes true) None (refl, moves_none m.text flat)
      go false = some_item m.text deep (member m depth within ty) (member_runs ty)

  past_never : {A : Type 0} (x : A) → refused A ≡ Ok x → ⊥
  past_never x e = cc

  -- past the last field the list closes
  abbrev behind_last : Bool → List Token → Type 0
  behind_last true used = Moves m.text flat flat used
  behind_last false used = ⊥

  last_runs : Runs m.text deep flat (next_field m depth within brace [])
  unfolding next_field
  last_runs = then_at (closing m.text deep flat brace closes) (λ c _ used. behind_last c used) (λ _ used. Moves m.text deep flat used) (plain (closes_list m.text brace)) (λ c. choose c (done None) (past m depth within))
      (closes_at m.text deep flat brace closes) go join
    where
      go : (c : Bool) → AllAt (λ _ used. behind_last c used) (choose c (done None) (past m depth within))
      go true = done_runs m.text flat None
      go false = λ s t used x k. past_never x k.passes

      join : (c : Bool) (x : Option Const) (u v : List Token) → closing m.text deep flat brace closes c u → behind_last c v → Moves m.text deep flat (u ++ v)
      join true x u v p q = moves_then m.text u v deep flat flat p q
      join false x u v p q = absurd q

  abbrev behind_field : Option Const → List Token → Type 0
  behind_field None used = Moves m.text flat flat used
  behind_field (Some c) used = Moves m.text deep flat used

  more_run : (types : List Ty) → Runs m.text deep flat (more_fields m depth within brace types)
  unfolding more_fields
  more_run [] = then_runs m.text deep flat flat (next_field m depth within brace []) _ last_runs (λ _. done_runs m.text flat [])
  more_run (ty ∷ types) = then_at (Until m.text deep flat) (λ o _ used. behind_field o used) (λ _ used. Moves m.text deep flat used) (next_field m depth within brace (ty ∷ types)) (end_or m depth within (more_fields m depth within brace types))
      (next_runs ty types) (go (more_run types)) join
    where
      go : Runs m.text deep flat (more_fields m depth within brace types) → (o : Option Const) → AllAt (λ _ used. behind_field o used) (end_or m depth within (more_fields m depth within brace types) o)
      go k None = done_runs m.text flat []
      go k (Some c) = then_runs m.text deep flat flat (more_fields m depth within brace types) _ k (λ others. done_runs m.text flat (c ∷ others))

      join : (o : Option Const) (x : List Const) (u v : List Token) → Until m.text deep flat o u → behind_field o v → Moves m.text deep flat (u ++ v)
      join None x u v p q = moves_then m.text u v deep flat flat p q
      join (Some c) x u v p q = moves_then m.text u v deep deep flat p q

  some_run : (types : List Ty) → Runs m.text deep flat (some_fields m depth within brace types)
  unfolding some_fields
  some_run [] = λ s t used x k. absurd (past_never x k.passes)
  some_run (ty ∷ types) = then_runs m.text deep deep flat (member m depth within ty) _ (member_runs ty)
      (λ c. then_runs m.text deep flat flat (more_fields m depth within brace types) _ (more_run types) (λ others. done_runs m.text flat (c ∷ others)))

  none_run : Runs m.text deep flat (no_fields m depth within brace)
  unfolding no_fields
  none_run = then_runs m.text deep flat flat (a_sign m.text brace) _ (sign_at m.text brace deep flat closes) (λ _. done_runs m.text flat [])

  fields_run : (types : List Ty) → Runs m.text deep flat (fields m depth within brace types)
  unfolding fields
  fields_run types = if_next_runs m.text deep flat (is_sign m.text brace) (no_fields m depth within brace) (some_fields m depth within brace types) none_run (some_run types)

  array_runs : (element : Ty) → Runs m.text deep flat (array_const m depth within element)
  unfolding array_const
  array_runs element = then_runs m.text deep flat flat (items m.text (codes "]") (member m depth within element)) _ (items_run m.text deep flat (codes "]") (square_closing m.text (λ d. d)) (member m depth within element) (member_runs element)) (λ all. done_runs m.text flat (const.Array all))

  struct_runs : (types : List Ty) → Runs m.text deep flat (struct_const m depth within types)
  unfolding struct_const
  struct_runs types = then_runs m.text deep flat flat (fields m depth within brace types) _ (fields_run types) (λ all. done_runs m.text flat (const.Struct all))

  packed_runs : (types : List Ty) → Runs m.text flat flat (packed_const m depth within types)
  unfolding packed_const
  packed_runs types = then_runs m.text flat deep flat (a_sign m.text (codes "{")) _ (opens_brace m.text (λ d. d))
      (λ _. then_runs m.text deep flat flat (fields m depth within brace types) _ (fields_run types)
      (λ all. then_runs m.text flat flat flat (a_sign m.text (codes ">")) _ (sign_runs m.text (codes ">") refl) (λ _. done_runs m.text flat (const.Struct all))))

  after_runs : (ty : Ty) (h : ConstHead) → Runs m.text (behind_const h) flat (after_head m depth within ty h)
  unfolding behind_const
  after_runs ty (head.Leaf k) = leaf_runs m (suc depth) ty k
  after_runs ty head.Array = array_runs (element_in ty (out-Ty (resolved m ty)))
  after_runs ty head.Struct = struct_runs (fields_in (out-Ty (resolved m ty)))
  after_runs ty head.Packed = packed_runs (fields_in (out-Ty (resolved m ty)))

  bracket_runs : (ty : Ty) → Runs m.text flat flat (bracket_const m depth within ty)
  bracket_runs ty = then_at (λ h used. Moves m.text flat (behind_const h) used) (λ h _ used. Moves m.text (behind_const h) flat used) (λ _ used. Moves m.text flat flat used)
      (plain (const_head m.text (shape_of (resolved m ty)))) (after_head m depth within ty)
      (plain_at (λ h used. Moves m.text flat (behind_const h) used) (const_head m.text (shape_of (resolved m ty))) (λ h t e. const_moves m.text (shape_of (resolved m ty)) h t e))
      (after_runs ty) (λ h c u v p q. moves_then m.text u v flat (behind_const h) flat p q)

module _ (m : Meaning) where
  -- at the outer level
  pub const_is : (depth : ℕ) (ty : Ty) → AllAt (λ _ used. IsValue m.text used) (a_const m depth ty)
  unfolding a_const
  const_is zero ty = if_next_at (λ _ used. IsValue m.text used) (begins_place m.text) (address m zero) (flat_const m ty) (address_is m zero) (λ s t used c k. inl (flat_runs m ty s t used c k))
  const_is (suc depth) ty = if_next_at (λ _ used. IsValue m.text used) (begins_place m.text) (address m (suc depth)) (bracket_const m depth (a_const m depth) ty) (address_is m (suc depth))
      (λ s t used c k. inl (bracket_runs m depth (a_const m depth) (λ ty s t used c k. value_moves m.text used (const_is depth ty s t used c k)) ty s t used c k))

  -- and inside brackets
  pub const_runs : (depth : ℕ) (ty : Ty) → Runs m.text deep deep (a_const m depth ty)
  const_runs depth ty s t used c k = value_moves m.text used (const_is depth ty s t used c k)
