-- Reading is decided by a prefix: types, places and constants.
use Rattle.std.proofs.Common.{◌≡◌, ℕ, suc, zero, List, [], ◌∷◌, Option, Some, None, inl, inr, codes, Result}
use Rattle.no_lex.specs.declared.token.Token.{Token}
use Rattle.no_ir.specs.declared.types.Ty.{Ty}
use Rattle.no_ir.specs.declared.constant.Const.{Const}
use Rattle.no_read_rules.specs.declared.fault.Flaw.{Flaw}
use Rattle.no_read_rules.specs.declared.types.TypeHead.{TypeHead}
use Rattle.no_read_rules.specs.declared.types.TypeHead.TheVariants as head
use Rattle.no_read_rules.specs.Rules.{Rule, plain, checked}
use Rattle.no_read_rules.specs.Scope.{Meaning}
use Rattle.no_read_rules.specs.Spelled.{is_sign}
use Rattle.no_read_rules.specs.Types.{type_head, leaf_of, array_parts, struct_parts, packed_parts, after_type_head, a_type, must_be}
use Rattle.no_read_rules.proofs.Laws.{plain_good}
use Rattle.no_read_rules.proofs.TypeLaws.{type_good}
use Rattle.no_read_constants.specs.Places.{is_flag, an_index, indices, gep_parts, after_place_head, a_place, begins_place}
use Rattle.no_read_constants.specs.Constants.{ptr_to_int, int_to_ptr, after_leaf, address, member, next_field, end_or, more_fields, some_fields, no_fields, fields, array_const, struct_const, packed_const, after_head, flat_const, bracket_const, a_const}
use Rattle.no_read_constants.specs.declared.places.PlaceHead.{PlaceHead}
use Rattle.no_read_constants.specs.declared.places.PlaceHead.TheVariants.{Bare, Gep}
use Rattle.no_read_constants.specs.declared.constants.LeafHead.{LeafHead}
use Rattle.no_read_constants.specs.declared.constants.LeafHead.TheVariants as leaf
use Rattle.no_read_constants.specs.declared.constants.ConstHead.{ConstHead}
use Rattle.no_read_constants.specs.declared.constants.ConstHead.TheVariants as const_head
use Rattle.no_fault_places.specs.Prefixes.{Steady}
use Rattle.no_fault_places.proofs.Prefix.{plain_steady, done_steady, choose_steady, if_next_steady, then_steady, checked_steady}
use Rattle.no_fault_places.proofs.Lists.{items_steady, more_items_steady, behind_steady}

-- ---- one token that has to pass

alone : (token u : Token) (more : List Token) → token ∷ more ≡ u ∷ [] → more ≡ []
alone token u more e = cc

pub plain_checked : {S A B : Type 0} (f : Token → Result A Flaw) (g : A → Result B Flaw) → Steady {S = S} (checked (plain f) g)
plain_checked {S = S} f g = checked_steady (plain f) g (plain_good f) (plain_steady f) (λ s t token more a m. inl (alone token m.token more m.alone))

-- ---- types

module _ (m : Meaning) where
  module _ (inner : Rule (Unit {0}) Ty) (h : Steady inner) where
    array_steady : Steady (array_parts m inner)
    unfolding array_parts
    array_steady = then_steady _ _ (plain_steady _) (λ count. then_steady _ _ (plain_steady _) (λ _. then_steady _ _ h (λ element. then_steady _ _ (plain_steady _) (λ _. done_steady _))))

    struct_steady : Steady (struct_parts m inner)
    unfolding struct_parts
    struct_steady = then_steady _ _ (items_steady m.text (codes "}") inner h) (λ fields. done_steady _)

    packed_steady : Steady (packed_parts m inner)
    unfolding packed_parts
    packed_steady = then_steady _ _ (plain_steady _) (λ _. then_steady _ _ (items_steady m.text (codes "}") inner h) (λ fields. then_steady _ _ (plain_steady _) (λ _. done_steady _)))

    after_steady : (t : TypeHead) → Steady (after_type_head m inner t)
    after_steady (head.Int w) = done_steady _
    after_steady head.Ptr = done_steady _
    after_steady (head.Named n) = done_steady _
    after_steady head.Array = array_steady
    after_steady head.Struct = struct_steady
    after_steady head.Packed = packed_steady

  pub type_steady : (depth : ℕ) → Steady (a_type m depth)
  unfolding a_type
  type_steady zero = plain_checked (type_head m) leaf_of
  type_steady (suc depth) = then_steady _ _ (plain_steady _) (after_steady (a_type m depth) (type_steady depth))

  -- a type that has to pass is read as a whole
  pub type_checked : {B : Type 0} (depth : ℕ) (f : Ty → Result B Flaw) → Steady (checked (a_type m depth) f)
  type_checked depth f = checked_steady (a_type m depth) f (type_good m depth) (type_steady depth) (λ s t token more a r. inr (record { meaning = m; depth = depth; ty = a; means = r }))

  -- ---- places

  index_steady : Steady (an_index m)
  unfolding an_index
  index_steady = then_steady _ _ (plain_steady _) (λ width. then_steady _ _ (plain_steady _) (λ number. done_steady _))

  indices_steady : Steady (indices m)
  unfolding indices
  indices_steady = then_steady _ _ index_steady (λ first. then_steady _ _ (more_items_steady m.text (codes ")") (an_index m) index_steady) (λ others. done_steady _))

  gep_steady : (depth : ℕ) → Steady (gep_parts m depth)
  unfolding gep_parts
  gep_steady depth = then_steady _ _ (plain_steady _) (λ _. then_steady _ _ (type_steady depth) (λ base. then_steady _ _ (plain_steady _) (λ _. then_steady _ _ (plain_steady _) (λ _.
      then_steady _ _ (plain_steady _) (λ symbol. then_steady _ _ (plain_steady _) (λ _. then_steady _ _ indices_steady (λ steps. done_steady _)))))))

  place_head_steady : (depth : ℕ) (h : PlaceHead) → Steady (after_place_head m depth h)
  place_head_steady depth (Bare symbol) = done_steady _
  place_head_steady depth Gep = behind_steady (is_flag m.text) (gep_parts m depth) (gep_steady depth)

  pub place_steady : (depth : ℕ) → Steady (a_place m depth)
  unfolding a_place
  place_steady depth = then_steady _ _ (plain_steady _) (place_head_steady depth)

  -- ---- constants without brackets

  ptr_steady : (depth : ℕ) (ty : Ty) → Steady (ptr_to_int m depth ty)
  unfolding ptr_to_int
  ptr_steady depth ty = then_steady _ _ (plain_steady _) (λ _. then_steady _ _ (plain_steady _) (λ _. then_steady _ _ (place_steady depth) (λ place. then_steady _ _ (plain_steady _) (λ _.
      then_steady _ _ (type_checked depth (must_be ty)) (λ _. then_steady _ _ (plain_steady _) (λ _. done_steady _))))))

  int_steady : Steady (int_to_ptr m)
  unfolding int_to_ptr
  int_steady = then_steady _ _ (plain_steady _) (λ _. then_steady _ _ (plain_steady _) (λ width. then_steady _ _ (plain_steady _) (λ number. then_steady _ _ (plain_steady _) (λ _.
      then_steady _ _ (plain_steady _) (λ _. then_steady _ _ (plain_steady _) (λ _. done_steady _))))))

  leaf_steady : (depth : ℕ) (ty : Ty) (h : LeafHead) → Steady (after_leaf m depth ty h)
  leaf_steady depth ty leaf.Zero = done_steady _
  leaf_steady depth ty (leaf.Int n) = done_steady _
  leaf_steady depth ty leaf.Text = plain_steady _
  leaf_steady depth ty leaf.PtrToInt = ptr_steady depth ty
  leaf_steady depth ty leaf.IntToPtr = int_steady

  address_steady : (depth : ℕ) → Steady (address m depth)
  unfolding address
  address_steady depth = then_steady _ _ (place_steady depth) (λ place. done_steady _)

  -- ---- constants in brackets

  module _ (depth : ℕ) (inner : Ty → Rule (Unit {0}) Const) (h : (ty : Ty) → Steady (inner ty)) where
    member_steady : (ty : Ty) → Steady (member m depth inner ty)
    unfolding member
    member_steady ty = then_steady _ _ (type_checked depth (must_be ty)) (λ _. h ty)

    next_steady : (close : List ℕ) (types : List Ty) → Steady (next_field m depth inner close types)
    unfolding next_field
    next_steady close [] = then_steady _ _ (plain_steady _) (λ closes. choose_steady closes _ _ (done_steady None) (type_checked depth _))
    next_steady close (ty ∷ types) = then_steady _ _ (plain_steady _) (λ closes. choose_steady closes _ _ (done_steady None) (then_steady _ _ (member_steady ty) (λ c. done_steady (Some c))))

    end_steady : (more : Rule (Unit {0}) (List Const)) → Steady more → (o : Option Const) → Steady (end_or m depth inner more o)
    end_steady more l None = done_steady []
    end_steady more l (Some c) = then_steady _ _ l (λ others. done_steady (c ∷ others))

    more_fields_steady : (close : List ℕ) (types : List Ty) → Steady (more_fields m depth inner close types)
    unfolding more_fields
    more_fields_steady close [] = then_steady _ _ (next_steady close []) (λ _. done_steady [])
    more_fields_steady close (ty ∷ types) = then_steady _ _ (next_steady close (ty ∷ types)) (end_steady _ (more_fields_steady close types))

    some_fields_steady : (close : List ℕ) (types : List Ty) → Steady (some_fields m depth inner close types)
    unfolding some_fields
    some_fields_steady close [] = type_checked depth _
    some_fields_steady close (ty ∷ types) = then_steady _ _ (member_steady ty) (λ c. then_steady _ _ (more_fields_steady close types) (λ others. done_steady (c ∷ others)))

    no_fields_steady : (close : List ℕ) → Steady (no_fields m depth inner close)
    unfolding no_fields
    no_fields_steady close = then_steady _ _ (plain_steady _) (λ _. done_steady [])

    fields_steady : (close : List ℕ) (types : List Ty) → Steady (fields m depth inner close types)
    unfolding fields
    fields_steady close types = if_next_steady (is_sign m.text close) _ _ (no_fields_steady close) (some_fields_steady close types)

    array_const_steady : (element : Ty) → Steady (array_const m depth inner element)
    unfolding array_const
    array_const_steady element = then_steady _ _ (items_steady m.text (codes "]") (member m depth inner element) (member_steady element)) (λ all. done_steady _)

    struct_const_steady : (types : List Ty) → Steady (struct_const m depth inner types)
    unfolding struct_const
    struct_const_steady types = then_steady _ _ (fields_steady (codes "}") types) (λ all. done_steady _)

    packed_const_steady : (types : List Ty) → Steady (packed_const m depth inner types)
    unfolding packed_const
    packed_const_steady types = then_steady _ _ (plain_steady _) (λ _. then_steady _ _ (fields_steady (codes "}") types) (λ all. then_steady _ _ (plain_steady _) (λ _. done_steady _)))

    head_steady : (ty : Ty) (h : ConstHead) → Steady (after_head m depth inner ty h)
    head_steady ty (const_head.Leaf l) = leaf_steady (suc depth) ty l
    head_steady ty const_head.Array = array_const_steady _
    head_steady ty const_head.Struct = struct_const_steady _
    head_steady ty const_head.Packed = packed_const_steady _

  pub const_steady : (depth : ℕ) (ty : Ty) → Steady (a_const m depth ty)
  unfolding a_const
  const_steady zero ty = if_next_steady (begins_place m.text) (address m zero) (flat_const m ty) (address_steady zero) (then_steady _ _ (plain_steady _) (leaf_steady zero ty))
  const_steady (suc depth) ty = if_next_steady (begins_place m.text) (address m (suc depth)) (bracket_const m depth (a_const m depth) ty) (address_steady (suc depth))
      (then_steady _ _ (plain_steady _) (head_steady depth (a_const m depth) (const_steady depth) ty))
