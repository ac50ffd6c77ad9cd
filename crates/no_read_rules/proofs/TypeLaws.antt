-- The laws of types, and the loop over the fields of a struct.
use Rattle.std.proofs.Common.{◌≡◌, ℕ, suc, zero, ◌<◌, List, [], ◌∷◌, ◌++◌, Option, Some, None, Result, Ok, length}
use Rattle.no_lex.specs.declared.token.Token.{Token}
use Rattle.no_ir.specs.declared.types.Ty.{Ty}
use Rattle.no_read_rules.specs.declared.fault.Stop.{Stop}
use Rattle.no_read_rules.specs.declared.fault.Stopped.{Stopped}
use Rattle.no_read_rules.specs.declared.types.TypeHead.{TypeHead}
use Rattle.no_read_rules.specs.declared.types.TypeHead.TheVariants as head
use Rattle.no_read_rules.specs.Rules.{Rule, Fails, none, Good, IsSolid}
use Rattle.no_read_rules.specs.Repeated.{repeat_all, with_front}
use Rattle.no_read_rules.specs.Scope.{Meaning}
use Rattle.no_read_rules.specs.Lists.{more_item}
use Rattle.no_read_rules.specs.Types.{leaf_of, array_parts, struct_parts, packed_parts, after_type_head, a_type}
use Rattle.no_read_rules.proofs.Laws.{once, plain_good, plain_solid, done_good, then_good, first_solid, checked_good, checked_solid}
use Rattle.no_read_rules.proofs.ListLaws.{items_good, more_good, more_solid}
use Rattle.no_read_rules.proofs.Repeats as repeats

array_good : (m : Meaning) (inner : Rule (Unit {0}) Ty) → Good none inner → Good none (array_parts m inner)
unfolding array_parts
array_good m inner l = then_good none _ _ (plain_good _) (λ count. then_good none _ _ (plain_good _) (λ _. then_good none _ _ l (λ element. then_good none _ _ (plain_good _) (λ _. done_good none _))))

struct_good : (m : Meaning) (inner : Rule (Unit {0}) Ty) → Good none inner → IsSolid inner → Good none (struct_parts m inner)
unfolding struct_parts
struct_good m inner l s = then_good none _ _ (items_good _ _ inner l s) (λ fields. done_good none _)

packed_good : (m : Meaning) (inner : Rule (Unit {0}) Ty) → Good none inner → IsSolid inner → Good none (packed_parts m inner)
unfolding packed_parts
packed_good m inner l s = then_good none _ _ (plain_good _) (λ _. then_good none _ _ (items_good _ _ inner l s) (λ fields. then_good none _ _ (plain_good _) (λ _. done_good none _)))

after_good : (m : Meaning) (inner : Rule (Unit {0}) Ty) → Good none inner → IsSolid inner → (h : TypeHead) → Good none (after_type_head m inner h)
after_good m inner l s (head.Int w) = done_good none _
after_good m inner l s head.Ptr = done_good none _
after_good m inner l s (head.Named n) = done_good none _
after_good m inner l s head.Array = array_good m inner l
after_good m inner l s head.Struct = struct_good m inner l s
after_good m inner l s head.Packed = packed_good m inner l s

pub type_solid : (m : Meaning) (depth : ℕ) → IsSolid (a_type m depth)
unfolding a_type
type_solid m zero = checked_solid _ leaf_of (plain_solid _)
type_solid m (suc depth) = first_solid _ _ (plain_solid _)

pub type_good : (m : Meaning) (depth : ℕ) → Good none (a_type m depth)
unfolding a_type
type_good m zero = checked_good none _ leaf_of (plain_good _)
type_good m (suc depth) = then_good none _ _ (plain_good _) (after_good m (a_type m depth) (type_good m depth) (type_solid m depth))

-- at most one type is read
pub one_type : (m : Meaning) (depth : ℕ) (tokens : List Token) (a b : Ty) → (a_type m depth).means tt tokens a tt → (a_type m depth).means tt tokens b tt → a ≡ b
one_type m depth tokens a b x y = once none (a_type m depth) (type_good m depth) tt tt tt tokens a b x y

-- ---- the loop over fields

module _ (m : Meaning) (close : List ℕ) (depth : ℕ) where
  abbrev step : Rule (Unit {0}) (Option Ty)
  step = more_item m.text close (a_type m depth)

  step_good : Good none step
  step_good = more_good m.text close (a_type m depth) (type_good m depth)

  step_solid : IsSolid step
  step_solid = more_solid m.text close (a_type m depth)

  pub fields_fail : (e : Stop) (front : List Ty) (tokens : List Token) (total : Result (List Ty × Unit {0} × List Token) Stopped) → Fails e (step.read tt tokens) → with_front front (repeat_all step tt tokens) ≡ total → Fails e total
  fields_fail e front tokens total f so_far = repeats.fails none step step_good step_solid e front tt tokens total f so_far

  pub fields_stop : (front : List Ty) (tokens rest : List Token) (o : Option Ty) (total : Result (List Ty × Unit {0} × List Token) Stopped) → step.read tt tokens ≡ Ok (o, tt, rest) → o ≡ None
      → with_front front (repeat_all step tt tokens) ≡ total → total ≡ Ok (front, tt, rest)
  fields_stop front tokens rest o total e is so_far = repeats.stops none step step_good step_solid front tt tt tokens rest o total e is so_far

  pub fields_fall : (tokens rest : List Token) (o : Option Ty) → step.read tt tokens ≡ Ok (o, tt, rest) → length rest < length tokens
  fields_fall tokens rest o e = repeats.shorter none step step_good step_solid tt tt tokens rest o e

  pub fields_go : (front : List Ty) (tokens aft : List Token) (o : Option Ty) (a : Ty) (total : Result (List Ty × Unit {0} × List Token) Stopped) → step.read tt tokens ≡ Ok (o, tt, aft) → o ≡ Some a
      → with_front front (repeat_all step tt tokens) ≡ total → with_front (front ++ a ∷ []) (repeat_all step tt aft) ≡ total
  fields_go front tokens aft o a total e is so_far = repeats.goes_on none step step_good step_solid front tt tt tokens aft o a total e is so_far
