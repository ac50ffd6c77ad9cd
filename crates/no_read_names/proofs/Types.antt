-- What types do to the scan.
use Rattle.std.proofs.Common.{◌≡◌, ℕ, suc, zero, Bool, true, false, List, [], ◌∷◌, bytes_eq, codes, if◌then◌else◌, Option, Some, None, Result, Ok, Err, is_ok, refl, sym, ap, subst, ◌∙◌}
use Rattle.no_lex.specs.declared.token.Token.{Token}
use Rattle.no_lex.specs.declared.token.TokenKind.{TokenKind}
use Rattle.no_lex.specs.declared.token.TokenKind.TheVariants as kind
use Rattle.no_ir.specs.declared.types.Ty.{Ty}
use Rattle.no_ir.specs.declared.types.Ty.TheVariants as ty
use Rattle.no_read_rules.specs.declared.fault.Flaw.{Flaw}
use Rattle.no_read_rules.specs.declared.fault.Flaw.TheVariants.{Syntax, LeftOut}
use Rattle.no_read_rules.specs.declared.types.TypeHead.{TypeHead}
use Rattle.no_read_rules.specs.declared.types.TypeHead.TheVariants as head
use Rattle.no_read_rules.specs.Lists.{items}
use Rattle.no_read_rules.specs.Numbers.{count_of}
use Rattle.no_read_rules.specs.Rules.{Rule, plain}
use Rattle.no_read_rules.specs.Scope.{Meaning}
use Rattle.no_read_rules.specs.Spelled.{spelled, is_kind, a_word, a_sign}
use Rattle.no_read_rules.specs.Types.{word_type, sign_type, named_type, number_in, head_by, type_head, leaf_of, count_token, array_parts, struct_parts, packed_parts, after_type_head, a_type}
use Rattle.no_read_symbols.specs.declared.standing.Bracket.{Bracket}
use Rattle.no_read_symbols.specs.declared.standing.Bracket.TheVariants as bracket
use Rattle.no_read_symbols.specs.Scan.{sign_bracket}
use Rattle.no_read_names.proofs.Marks.{IsSo, from_flaw, spells, where_true, word_so, sign_so, token_so, kind_token, integer_so, local_so}
use Rattle.no_read_names.proofs.RuleMoves.{Runs, AllAt, plain_at, done_runs, then_at, then_runs, anywhere, items_run, word_runs, sign_runs, closes_square, opens_brace, brace_closing}
use Rattle.no_read_names.proofs.Spots.{Spot, flat, deep, IsToken, Moves, moves_then, other_moves, square_opens, brace_opens}

-- a token as the first of a row of words or signs
pub or_sign : {X : Type 0} (g : X → Bracket) (x w : List ℕ) (a h : X) (o : Result X Flaw) → sign_bracket w ≡ g a → (o ≡ Ok h → sign_bracket x ≡ g h) → (if bytes_eq x w then Ok a else o) ≡ Ok h → sign_bracket x ≡ g h
or_sign g x w a h o e more m = go (bytes_eq x w) refl m
  where
    go : (b : Bool) → bytes_eq x w ≡ b → (if b then Ok a else o) ≡ Ok h → sign_bracket x ≡ g h
    go true is k = ap sign_bracket (spells x w is) ∙ e ∙ ap g (from_flaw a h k)
    go false is k = more k

-- ---- the token that begins a type

pub head_bracket : TypeHead → Bracket
head_bracket head.Array = bracket.OpenSquare
head_bracket head.Struct = bracket.OpenBrace
head_bracket _ = bracket.Other

abbrev got : TypeHead → Result TypeHead Flaw
got h = Ok h

is_other : (k h : TypeHead) → head_bracket k ≡ bracket.Other → got k ≡ got h → head_bracket h ≡ bracket.Other
is_other k h e m = ap head_bracket (sym (from_flaw k h m)) ∙ e

word_head : (x : List ℕ) (h : TypeHead) → word_type x ≡ Ok h → head_bracket h ≡ bracket.Other
unfolding head_bracket
word_head x h e = go (bytes_eq x (codes "i1")) (bytes_eq x (codes "i8")) (bytes_eq x (codes "i16")) (bytes_eq x (codes "i32")) (bytes_eq x (codes "i64")) (bytes_eq x (codes "ptr")) (bytes_eq x (codes "label")) e
  where
    go : (b c d e f g l : Bool)
        → (if b then Ok (head.Int 1) else (if c then Ok (head.Int 8) else (if d then Ok (head.Int 16) else (if e then Ok (head.Int 32) else (if f then Ok (head.Int 64) else (if g then Ok head.Ptr else (if l then Err LeftOut else Err Syntax))))))) ≡ Ok h
        → head_bracket h ≡ bracket.Other
    go true c d e f g l m = is_other (head.Int 1) h refl m
    go false true d e f g l m = is_other (head.Int 8) h refl m
    go false false true e f g l m = is_other (head.Int 16) h refl m
    go false false false true f g l m = is_other (head.Int 32) h refl m
    go false false false false true g l m = is_other (head.Int 64) h refl m
    go false false false false false true l m = is_other head.Ptr h refl m
    go false false false false false false true m = absurd cc
    go false false false false false false false m = absurd cc

sign_head : (x : List ℕ) (h : TypeHead) → sign_type x ≡ Ok h → sign_bracket x ≡ head_bracket h
unfolding head_bracket
sign_head x h e = or_sign head_bracket x (codes "[") head.Array h _ refl (or_sign head_bracket x (codes "{") head.Struct h _ refl (or_sign head_bracket x (codes "<") head.Packed h _ refl (λ m. absurd cc))) e

named_head : (o : Option ℕ) (h : TypeHead) → named_type o ≡ Ok h → head_bracket h ≡ bracket.Other
unfolding head_bracket
named_head (Some n) h e = ap head_bracket (sym (from_flaw (head.Named n) h e))
named_head None h e = absurd cc

head_so : (m : Meaning) (k : TokenKind) (x : List ℕ) (h : TypeHead) → head_by m k x ≡ Ok h → IsSo k x (head_bracket h)
head_so m kind.Word x h e = subst (IsSo kind.Word x) (sym (word_head x h e)) (word_so (λ w. is_ok (word_type w)) x refl refl (ap is_ok e))
head_so m kind.Sign x h e = sign_so x (head_bracket h) (sign_head x h e)
head_so m kind.Local x h e = subst (IsSo kind.Local x) (sym (named_head (number_in m.named x) h e)) (local_so x)
head_so m kind.Integer x h e = absurd cc
head_so m kind.Global x h e = absurd cc
head_so m kind.Group x h e = absurd cc
head_so m kind.Meta x h e = absurd cc
head_so m kind.Quoted x h e = absurd cc
head_so m kind.CMark x h e = absurd cc
head_so m kind.Label x h e = absurd cc

head_token : (m : Meaning) (t : Token) (h : TypeHead) → type_head m t ≡ Ok h → IsToken m.text t (head_bracket h)
head_token m t h e = token_so m.text t (head_bracket h) (head_so m t.kind (spelled m.text t) h e)

-- the brackets that are open behind it
behind_head : TypeHead → Spot
behind_head head.Array = deep
behind_head head.Struct = deep
behind_head _ = flat

head_moves : (m : Meaning) (h : TypeHead) (t : Token) → type_head m t ≡ Ok h → Moves m.text flat (behind_head h) (t ∷ [])
unfolding head_bracket behind_head
head_moves m (head.Int w) t e = other_moves m.text t (head_token m t (head.Int w) e)
head_moves m head.Ptr t e = other_moves m.text t (head_token m t head.Ptr e)
head_moves m (head.Named n) t e = other_moves m.text t (head_token m t (head.Named n) e)
head_moves m head.Array t e = square_opens m.text (λ d. d) t (head_token m t head.Array e)
head_moves m head.Struct t e = brace_opens m.text (λ d. d) t (head_token m t head.Struct e)
head_moves m head.Packed t e = other_moves m.text t (head_token m t head.Packed e)

-- ---- types

module _ (m : Meaning) where
  count_moves : (n : ℕ) (t : Token) → count_token m.text t ≡ Ok n → Moves m.text flat flat (t ∷ [])
  count_moves n t e = other_moves m.text t (kind_token kind.Integer m.text t integer_so (where_true (is_kind kind.Integer t) (count_of (spelled m.text t)) n e).0)

  module _ (inner : Rule (Unit {0}) Ty) (l : Runs m.text flat flat inner) where
    array_runs : Runs m.text deep flat (array_parts m inner)
    unfolding array_parts
    array_runs = then_runs m.text deep deep flat (plain (count_token m.text)) _ (anywhere m.text deep (plain (count_token m.text)) (plain_at (λ _ used. Moves m.text flat flat used) (count_token m.text) count_moves))
        (λ count. then_runs m.text deep deep flat (a_word m.text (codes "x")) _ (anywhere m.text deep (a_word m.text (codes "x")) (word_runs m.text (codes "x") refl refl))
        (λ _. then_runs m.text deep deep flat inner _ (anywhere m.text deep inner l)
        (λ element. then_runs m.text deep flat flat (a_sign m.text (codes "]")) _ (closes_square m.text (λ d. d)) (λ _. done_runs m.text flat (ty.Array count element)))))

    fields_run : Runs m.text deep flat (items m.text (codes "}") inner)
    fields_run = items_run m.text deep flat (codes "}") (brace_closing m.text (λ d. d)) inner (anywhere m.text deep inner l)

    struct_runs : Runs m.text deep flat (struct_parts m inner)
    unfolding struct_parts
    struct_runs = then_runs m.text deep flat flat (items m.text (codes "}") inner) _ fields_run (λ fields. done_runs m.text flat (ty.Struct false fields))

    packed_runs : Runs m.text flat flat (packed_parts m inner)
    unfolding packed_parts
    packed_runs = then_runs m.text flat deep flat (a_sign m.text (codes "{")) _ (opens_brace m.text (λ d. d))
        (λ _. then_runs m.text deep flat flat (items m.text (codes "}") inner) _ fields_run
        (λ fields. then_runs m.text flat flat flat (a_sign m.text (codes ">")) _ (sign_runs m.text (codes ">") refl) (λ _. done_runs m.text flat (ty.Struct true fields))))

    after_runs : (h : TypeHead) → Runs m.text (behind_head h) flat (after_type_head m inner h)
    unfolding behind_head
    after_runs (head.Int w) = done_runs m.text flat (ty.Int w)
    after_runs head.Ptr = done_runs m.text flat ty.Ptr
    after_runs (head.Named n) = done_runs m.text flat (ty.Named n)
    after_runs head.Array = array_runs
    after_runs head.Struct = struct_runs
    after_runs head.Packed = packed_runs

  -- a type without brackets
  leaf_moves : (h : TypeHead) (t : Token) (a : Ty) → type_head m t ≡ Ok h → leaf_of h ≡ Ok a → Moves m.text flat flat (t ∷ [])
  unfolding behind_head
  leaf_moves (head.Int w) t a e l = head_moves m (head.Int w) t e
  leaf_moves head.Ptr t a e l = head_moves m head.Ptr t e
  leaf_moves (head.Named n) t a e l = head_moves m (head.Named n) t e
  leaf_moves head.Array t a e l = absurd cc
  leaf_moves head.Struct t a e l = absurd cc
  leaf_moves head.Packed t a e l = absurd cc

  -- what the first token is, whatever follows
  first_at : AllAt {S = Unit {0}} (λ h used. (a : Ty) → leaf_of h ≡ Ok a → Moves m.text flat flat used) (plain (type_head m))
  first_at = plain_at (λ h used. (a : Ty) → leaf_of h ≡ Ok a → Moves m.text flat flat used) (type_head m) (λ h t e a l. leaf_moves h t a e l)

  pub type_runs : (depth : ℕ) → Runs m.text flat flat (a_type m depth)
  unfolding a_type
  type_runs zero = λ s t used a k. first_at s t used k.value k.read a k.passes
  type_runs (suc depth) = then_at (λ h used. Moves m.text flat (behind_head h) used) (λ h _ used. Moves m.text (behind_head h) flat used) (λ _ used. Moves m.text flat flat used) (plain (type_head m)) (after_type_head m (a_type m depth))
      (plain_at (λ h used. Moves m.text flat (behind_head h) used) (type_head m) (λ h t e. head_moves m h t e))
      (after_runs (a_type m depth) (type_runs depth))
      (λ h a u v p q. moves_then m.text u v flat (behind_head h) flat p q)
