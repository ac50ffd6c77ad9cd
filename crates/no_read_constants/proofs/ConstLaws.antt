-- The laws of constants, and the loops over elements and fields.
use Rattle.std.proofs.Common.{◌≡◌, ℕ, suc, zero, ◌<◌, Bool, true, false, drop, ap, List, [], ◌∷◌, ◌++◌, Option, Some, None, Result, Ok, Err, length, codes, refl, sym, ◌∙◌, append_assoc, append-nil}
use Rattle.no_lex.specs.declared.token.Token.{Token}
use Rattle.no_ir.specs.declared.types.Ty.{Ty}
use Rattle.no_ir.specs.declared.constant.Const.{Const}
use Rattle.no_read_rules.specs.declared.fault.Flaw.TheVariants.{Syntax}
use Rattle.no_read_rules.specs.declared.fault.Stop.{Stop}
use Rattle.no_read_rules.specs.declared.fault.Stop.TheVariants as stop
use Rattle.no_read_rules.specs.declared.fault.Stopped.{Stopped}
use Rattle.no_read_rules.specs.Rules.{Rule, Fails, after, plain, done, choose, judged, none, Good, IsSolid}
use Rattle.no_read_rules.specs.Repeated.{repeat_all, with_front}
use Rattle.no_read_rules.specs.Scope.{Meaning}
use Rattle.no_read_rules.specs.Lists.{more_item, closes_list}
use Rattle.no_read_rules.specs.Types.{a_type, must_be}
use Rattle.no_read_rules.proofs.Laws.{once, from_ok, after_ok, plain_good, plain_solid, done_good, then_good, first_solid, checked_good, checked_solid, choose_good, if_next_good, if_next_solid}
use Rattle.no_read_rules.proofs.ListLaws.{items_good, more_good, more_solid}
use Rattle.no_read_rules.proofs.Repeats as repeats
use Rattle.no_read_rules.proofs.TypeLaws.{type_good, type_solid}
use Rattle.no_read_constants.specs.Places.{begins_place}
use Rattle.no_read_constants.specs.Constants.{ptr_to_int, int_to_ptr, after_leaf, address, member, past, next_field, end_or, more_fields, some_fields, no_fields, fields, array_const, struct_const, packed_const, after_head, flat_const, bracket_const, a_const}
use Rattle.no_read_constants.specs.declared.constants.LeafHead.{LeafHead}
use Rattle.no_read_constants.specs.declared.constants.LeafHead.TheVariants as leaf
use Rattle.no_read_constants.specs.declared.constants.ConstHead.{ConstHead}
use Rattle.no_read_constants.specs.declared.constants.ConstHead.TheVariants as head
use Rattle.no_read_constants.proofs.PlaceLaws.{place_good, place_solid}

-- ---- without brackets

ptr_good : (m : Meaning) (depth : ℕ) (ty : Ty) → Good none (ptr_to_int m depth ty)
unfolding ptr_to_int
ptr_good m depth ty = then_good none _ _ (plain_good _) (λ _. then_good none _ _ (plain_good _) (λ _. then_good none _ _ (place_good m depth) (λ place. then_good none _ _ (plain_good _) (λ _.
    then_good none _ _ (checked_good none _ (must_be ty) (type_good m depth)) (λ _. then_good none _ _ (plain_good _) (λ _. done_good none _))))))

int_good : (m : Meaning) → Good none (int_to_ptr m)
unfolding int_to_ptr
int_good m = then_good none _ _ (plain_good _) (λ _. then_good none _ _ (plain_good _) (λ width. then_good none _ _ (plain_good _) (λ number. then_good none _ _ (plain_good _) (λ _.
    then_good none _ _ (plain_good _) (λ _. then_good none _ _ (plain_good _) (λ _. done_good none _))))))

leaf_good : (m : Meaning) (depth : ℕ) (ty : Ty) (h : LeafHead) → Good none (after_leaf m depth ty h)
leaf_good m depth ty leaf.Zero = done_good none _
leaf_good m depth ty (leaf.Int n) = done_good none _
leaf_good m depth ty leaf.Text = plain_good _
leaf_good m depth ty leaf.PtrToInt = ptr_good m depth ty
leaf_good m depth ty leaf.IntToPtr = int_good m

address_good : (m : Meaning) (depth : ℕ) → Good none (address m depth)
unfolding address
address_good m depth = then_good none _ _ (place_good m depth) (λ place. done_good none _)

address_solid : (m : Meaning) (depth : ℕ) → IsSolid (address m depth)
unfolding address
address_solid m depth = first_solid _ _ (place_solid m depth)

-- ---- lists

module _ (m : Meaning) (depth : ℕ) (inner : Ty → Rule (Unit {0}) Const) where
  member_solid : (ty : Ty) → IsSolid (member m depth inner ty)
  unfolding member
  member_solid ty = first_solid _ _ (checked_solid _ (must_be ty) (type_solid m depth))

  module _ (gi : (ty : Ty) → Good none (inner ty)) where
    member_good : (ty : Ty) → Good none (member m depth inner ty)
    unfolding member
    member_good ty = then_good none _ _ (checked_good none _ (must_be ty) (type_good m depth)) (λ _. gi ty)

    next_good : (close : List ℕ) (types : List Ty) → Good none (next_field m depth inner close types)
    unfolding next_field
    next_good close [] = then_good none _ _ (plain_good _) (λ closes. choose_good none closes _ _ (done_good none None) (checked_good none _ _ (type_good m depth)))
    next_good close (ty ∷ types) = then_good none _ _ (plain_good _) (λ closes. choose_good none closes _ _ (done_good none None) (then_good none _ _ (member_good ty) (λ c. done_good none (Some c))))

    end_good : (more : Rule (Unit {0}) (List Const)) → Good none more → (o : Option Const) → Good none (end_or m depth inner more o)
    end_good more l None = done_good none []
    end_good more l (Some c) = then_good none _ _ l (λ others. done_good none (c ∷ others))

    more_fields_good : (close : List ℕ) (types : List Ty) → Good none (more_fields m depth inner close types)
    unfolding more_fields
    more_fields_good close [] = then_good none _ _ (next_good close []) (λ _. done_good none [])
    more_fields_good close (ty ∷ types) = then_good none _ _ (next_good close (ty ∷ types)) (end_good _ (more_fields_good close types))

    some_good : (close : List ℕ) (types : List Ty) → Good none (some_fields m depth inner close types)
    unfolding some_fields
    some_good close [] = checked_good none _ _ (type_good m depth)
    some_good close (ty ∷ types) = then_good none _ _ (member_good ty) (λ c. then_good none _ _ (more_fields_good close types) (λ others. done_good none (c ∷ others)))

    some_solid : (close : List ℕ) (types : List Ty) → IsSolid (some_fields m depth inner close types)
    unfolding some_fields
    some_solid close [] = checked_solid _ _ (type_solid m depth)
    some_solid close (ty ∷ types) = first_solid _ _ (member_solid ty)

    none_good : (close : List ℕ) → Good none (no_fields m depth inner close)
    unfolding no_fields
    none_good close = then_good none _ _ (plain_good _) (λ _. done_good none [])

    none_solid : (close : List ℕ) → IsSolid (no_fields m depth inner close)
    unfolding no_fields
    none_solid close = first_solid _ _ (plain_solid _)

    fields_good : (close : List ℕ) (types : List Ty) → Good none (fields m depth inner close types)
    unfolding fields
    fields_good close types = if_next_good none _ _ _ (none_good close) (some_good close types) (none_solid close) (some_solid close types)

    array_good : (element : Ty) → Good none (array_const m depth inner element)
    unfolding array_const
    array_good element = then_good none _ _ (items_good m.text (codes "]") (member m depth inner element) (member_good element) (member_solid element)) (λ all. done_good none _)

    struct_good : (types : List Ty) → Good none (struct_const m depth inner types)
    unfolding struct_const
    struct_good types = then_good none _ _ (fields_good (codes "}") types) (λ all. done_good none _)

    packed_good : (types : List Ty) → Good none (packed_const m depth inner types)
    unfolding packed_const
    packed_good types = then_good none _ _ (plain_good _) (λ _. then_good none _ _ (fields_good (codes "}") types) (λ all. then_good none _ _ (plain_good _) (λ _. done_good none _)))

    head_good : (ty : Ty) (h : ConstHead) → Good none (after_head m depth inner ty h)
    head_good ty (head.Leaf l) = leaf_good m (suc depth) ty l
    head_good ty head.Array = array_good _
    head_good ty head.Struct = struct_good _
    head_good ty head.Packed = packed_good _

pub const_solid : (m : Meaning) (depth : ℕ) (ty : Ty) → IsSolid (a_const m depth ty)
unfolding a_const
const_solid m zero ty = if_next_solid (begins_place m.text) (address m zero) (flat_const m ty) (address_solid m zero) (first_solid _ _ (plain_solid _))
const_solid m (suc depth) ty = if_next_solid (begins_place m.text) (address m (suc depth)) (bracket_const m depth (a_const m depth) ty) (address_solid m (suc depth)) (first_solid _ _ (plain_solid _))

pub const_good : (m : Meaning) (depth : ℕ) (ty : Ty) → Good none (a_const m depth ty)
unfolding a_const
const_good m zero ty = if_next_good none (begins_place m.text) (address m zero) (flat_const m ty) (address_good m zero) (then_good none _ _ (plain_good _) (leaf_good m zero ty)) (address_solid m zero) (first_solid _ _ (plain_solid _))
const_good m (suc depth) ty = if_next_good none (begins_place m.text) (address m (suc depth)) (bracket_const m depth (a_const m depth) ty) (address_good m (suc depth))
    (then_good none _ _ (plain_good _) (head_good m depth (a_const m depth) (const_good m depth) ty)) (address_solid m (suc depth)) (first_solid _ _ (plain_solid _))

-- at most one constant is read
pub one_const : (m : Meaning) (depth : ℕ) (ty : Ty) (tokens : List Token) (a b : Const) → (a_const m depth ty).means tt tokens a tt → (a_const m depth ty).means tt tokens b tt → a ≡ b
one_const m depth ty tokens a b x y = once none (a_const m depth ty) (const_good m depth ty) tt tt tt tokens a b x y

-- ---- the loops

abbrev Total : Type 0
Total = Result (List Const × Unit {0} × List Token) Stopped

module _ (m : Meaning) (depth : ℕ) where
  abbrev inside : Ty → Rule (Unit {0}) Const
  inside = a_const m depth

  module _ (element : Ty) where
    abbrev step : Rule (Unit {0}) (Option Const)
    step = more_item m.text (codes "]") (member m depth inside element)

    step_good : Good none step
    step_good = more_good m.text (codes "]") (member m depth inside element) (member_good m depth inside (const_good m depth) element)

    step_solid : IsSolid step
    step_solid = more_solid m.text (codes "]") (member m depth inside element)

    pub elements_fail : (e : Stop) (front : List Const) (tokens : List Token) (total : Total) → Fails e (step.read tt tokens) → with_front front (repeat_all step tt tokens) ≡ total → Fails e total
    elements_fail e front tokens total f so_far = repeats.fails none step step_good step_solid e front tt tokens total f so_far

    pub elements_stop : (front : List Const) (tokens rest : List Token) (o : Option Const) (total : Total) → step.read tt tokens ≡ Ok (o, tt, rest) → o ≡ None
        → with_front front (repeat_all step tt tokens) ≡ total → total ≡ Ok (front, tt, rest)
    elements_stop front tokens rest o total e is so_far = repeats.stops none step step_good step_solid front tt tt tokens rest o total e is so_far

    pub elements_fall : (tokens rest : List Token) (o : Option Const) → step.read tt tokens ≡ Ok (o, tt, rest) → length rest < length tokens
    elements_fall tokens rest o e = repeats.shorter none step step_good step_solid tt tt tokens rest o e

    pub elements_go : (front : List Const) (tokens aft : List Token) (o : Option Const) (a : Const) (total : Total) → step.read tt tokens ≡ Ok (o, tt, aft) → o ≡ Some a
        → with_front front (repeat_all step tt tokens) ≡ total → with_front (front ++ a ∷ []) (repeat_all step tt aft) ≡ total
    elements_go front tokens aft o a total e is so_far = repeats.goes_on none step step_good step_solid front tt tt tokens aft o a total e is so_far

  abbrev next : List Ty → Rule (Unit {0}) (Option Const)
  next = next_field m depth inside (codes "}")

  abbrev more : List Ty → Rule (Unit {0}) (List Const)
  more = more_fields m depth inside (codes "}")

  pub fields_fail : (e : Stop) (types : List Ty) (front : List Const) (tokens : List Token) (total : Total) → Fails e ((next types).read tt tokens) → with_front front ((more types).read tt tokens) ≡ total → Fails e total
  unfolding more_fields
  fields_fail stop.NoMemory types front tokens total f so_far = tt
  fields_fail (stop.Fault d) [] front tokens total f so_far = sym so_far ∙ (rw f refl)
  fields_fail (stop.Fault d) (ty ∷ types) front tokens total f so_far = sym so_far ∙ (rw f refl)

  pub fields_stop : (types : List Ty) (front : List Const) (tokens rest : List Token) (o : Option Const) (total : Total) → (next types).read tt tokens ≡ Ok (o, tt, rest) → o ≡ None
      → with_front front ((more types).read tt tokens) ≡ total → total ≡ Ok (front, tt, rest)
  unfolding more_fields
  fields_stop [] front tokens rest o total e is so_far = sym so_far ∙ (rw (e, append-nil front) refl)
  fields_stop (ty ∷ types) front tokens rest o total e is so_far = sym so_far ∙ (rw (e, is, append-nil front) refl)

  regroup : (front : List Const) (a : Const) (r : Total) → with_front front (after r (λ x. Ok (a ∷ x.0, x.1, x.2))) ≡ with_front (front ++ a ∷ []) r
  regroup front a (Ok x) = rw (append_assoc front (a ∷ []) x.0) refl
  regroup front a (Err d) = refl

  next_solid : (types : List Ty) → IsSolid (next types)
  unfolding next_field
  next_solid [] = first_solid _ _ (plain_solid _)
  next_solid (ty ∷ types) = first_solid _ _ (plain_solid _)

  pub fields_fall : (types : List Ty) (tokens rest : List Token) (o : Option Const) → (next types).read tt tokens ≡ Ok (o, tt, rest) → length rest < length tokens
  fields_fall types tokens rest o e = repeats.shorter none (next types) (next_good m depth inside (const_good m depth) (codes "}") types) (next_solid types) tt tt tokens rest o e

  -- no member stands past the last field
  past_never : (tokens rest : List Token) (o : Option Const) (a : Const) → (next []).read tt tokens ≡ Ok (o, tt, rest) → o ≡ Some a → ⊥
  unfolding next_field
  past_never tokens rest o a e is =
      let r = after_ok {A = Bool × Unit {0} × List Token} {B = Option Const × Unit {0} × List Token} ((plain (closes_list m.text (codes "}"))).read tt tokens) (λ x. (choose x.0 (done None) (past m depth inside)).read x.1 x.2) (o, tt, rest) e in
      go r.0.0 r.0.2 r.2
    where
      refused : (from : List Token) (x : Result (Ty × Unit {0} × List Token) Stopped) → after {B = Option Const × Unit {0} × List Token} x (λ y. judged from (Err Syntax) y) ≡ Ok (o, tt, rest) → ⊥
      refused from (Ok y) k = cc
      refused from (Err d) k = cc

      go : (closes : Bool) (from : List Token) → (choose closes (done None) (past m depth inside)).read tt from ≡ Ok (o, tt, rest) → ⊥
      go true from k = none_some o a (from_first (None, tt, from) (o, tt, rest) (from_ok {A = Option Const × Unit {0} × List Token} (None, tt, from) (o, tt, rest) k)) is
        where
          from_first : (x y : Option Const × Unit {0} × List Token) → x ≡ y → x.0 ≡ y.0
          from_first x y p = ap (λ (t : Option Const × Unit {0} × List Token). t.0) p

          none_some : (x : Option Const) (y : Const) → None ≡ x → x ≡ Some y → ⊥
          none_some x y p q = cc
      go false from k = refused from ((a_type m depth).read tt from) k

  pub fields_go : (types others : List Ty) (front : List Const) (tokens aft : List Token) (o : Option Const) (a : Const) (total : Total) → (next types).read tt tokens ≡ Ok (o, tt, aft) → o ≡ Some a → others ≡ drop 1 types
      → with_front front ((more types).read tt tokens) ≡ total → with_front (front ++ a ∷ []) ((more others).read tt aft) ≡ total
  unfolding more_fields
  fields_go [] others front tokens aft o a total e is t so_far = absurd (past_never tokens aft o a e is)
  fields_go (t ∷ ts) others front tokens aft o a total e is same so_far =
      let one : with_front front ((more (t ∷ ts)).read tt tokens) ≡ with_front (front ++ a ∷ []) ((more ts).read tt aft) = rw (e, is) (regroup front a ((more ts).read tt aft)) in
      let go : with_front (front ++ a ∷ []) ((more ts).read tt aft) ≡ total = sym one ∙ so_far in
      rw same go
