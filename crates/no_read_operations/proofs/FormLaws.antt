-- The laws of the forms of instructions.
use Rattle.std.proofs.Common.{ℕ, Bool, true, false, List, codes}
use Rattle.no_lex.specs.declared.token.TokenKind.TheVariants.{Local}
use Rattle.no_ir.specs.declared.function.Role.{Role}
use Rattle.no_ir.specs.declared.types.Ty.{Ty}
use Rattle.no_ir.specs.declared.types.Ty.TheVariants as ty
use Rattle.no_ir.specs.declared.instruction.BinOp.{BinOp}
use Rattle.no_ir.specs.declared.instruction.CastOp.{CastOp}
use Rattle.no_ir.specs.declared.instruction.Op.{Op}
use Rattle.no_read_rules.specs.Rules.{Rule, plain, checked, none, Good, IsSolid}
use Rattle.no_read_rules.specs.Scope.{Meaning}
use Rattle.no_read_rules.specs.Spelled.{is_kind, is_word, is_sign, only_where, a_word, a_sign}
use Rattle.no_read_rules.specs.Types.{a_type, must_be}
use Rattle.no_read_rules.proofs.Laws.{avoids_none, plain_good, plain_solid, done_good, lift_good, lift_solid, then_good, first_solid, checked_good, checked_solid, if_next_good, if_next_solid}
use Rattle.no_read_rules.proofs.Repeats.{repeat_good}
use Rattle.no_read_rules.proofs.TypeLaws.{type_good, type_solid}
use Rattle.no_read_constants.proofs.ConstLaws.{const_good, const_solid}
use Rattle.no_read_constants.proofs.PlaceLaws.{behind_good}
use Rattle.no_read_constants.specs.Places.{is_flag, width_of}
use Rattle.no_read_constants.specs.Constants.{a_const}
use Rattle.no_read_registers.specs.declared.locals.Locals.{Locals}
use Rattle.no_read_registers.proofs.LocalLaws.{register_good, register_solid, label_good, label_solid, label_name_good}
use Rattle.no_read_operations.specs.declared.operands.Flags.TheVariants as flags
use Rattle.no_read_operations.specs.declared.ends.Ending.{Ending}
use Rattle.no_read_operations.specs.declared.ends.Listed.{Listed}
use Rattle.no_read_operations.specs.declared.memory.AllocaEnd.{AllocaEnd}
use Rattle.no_read_operations.specs.Operands.{DEPTH, word, sign, some_type, this_type, a_width, register_operand, const_operand, an_operand, a_pointer, sized_operand, is_flag_word}
use Rattle.no_read_operations.specs.Ends.{is_comma, an_alignment, an_attachment, opens_alignment, end_alignment, end_attachment, end_step, ends, end_mark, finish, ended, opens_item, list_item, list_attachment, list_step, listed}
use Rattle.no_read_operations.specs.Simple.{binary_flags, binary_parts, binary, cast_flags, cast_parts, cast_form, pred_of, compare_parts, compare, freeze, select}
use Rattle.no_read_operations.specs.Memory as memory
use Rattle.no_read_operations.specs.Flow.{return_void, return_value, ret, branch, branch_if, br, same_width, a_case, no_case, one_case, more_case, switch, a_pair, phi}
use Rattle.no_read_operations.proofs.FoldedLaws.{folded_good, last_good}

pub word_good : (text w : List ℕ) → Good none (word text w)
word_good text w = lift_good none _ (plain_good _)

word_solid : (text w : List ℕ) → IsSolid (word text w)
word_solid text w = lift_solid (a_word text w) (plain_solid (λ token. only_where (is_word text w token)))

pub sign_good : (text w : List ℕ) → Good none (sign text w)
sign_good text w = lift_good none _ (plain_good _)

sign_solid : (text w : List ℕ) → IsSolid (sign text w)
sign_solid text w = lift_solid (a_sign text w) (plain_solid (λ token. only_where (is_sign text w token)))

pub some_type_good : (m : Meaning) → Good none (some_type m)
some_type_good m = lift_good none _ (type_good m DEPTH)

pub some_type_solid : (m : Meaning) → IsSolid (some_type m)
some_type_solid m = lift_solid (a_type m DEPTH) (type_solid m DEPTH)

this_type_good : (m : Meaning) (want : Ty) → Good none (this_type m want)
this_type_good m want = lift_good none _ (checked_good none _ (must_be want) (type_good m DEPTH))

width_good : (m : Meaning) → Good none (a_width m)
width_good m = lift_good none _ (plain_good _)

width_solid : (m : Meaning) → IsSolid (a_width m)
width_solid m = lift_solid (plain (width_of m.text)) (plain_solid (width_of m.text))

-- ---- operands

register_operand_good : (text : List ℕ) → Good none (register_operand text)
unfolding register_operand
register_operand_good text = then_good none _ _ (register_good text) (λ r. done_good none _)

register_operand_solid : (text : List ℕ) → IsSolid (register_operand text)
unfolding register_operand
register_operand_solid text = first_solid _ _ (register_solid text)

const_operand_good : (m : Meaning) (of : Ty) → Good none (const_operand m of)
unfolding const_operand
const_operand_good m of = then_good none _ _ (lift_good none _ (const_good m DEPTH of)) (λ c. done_good none _)

const_operand_solid : (m : Meaning) (of : Ty) → IsSolid (const_operand m of)
unfolding const_operand
const_operand_solid m of = first_solid _ _ (lift_solid (a_const m DEPTH of) (const_solid m DEPTH of))

pub operand_good : (m : Meaning) (of : Ty) → Good none (an_operand m of)
unfolding an_operand
operand_good m of = if_next_good none (is_kind Local) _ _ (register_operand_good m.text) (const_operand_good m of) (register_operand_solid m.text) (const_operand_solid m of)

pub operand_solid : (m : Meaning) (of : Ty) → IsSolid (an_operand m of)
unfolding an_operand
operand_solid m of = if_next_solid (is_kind Local) (register_operand m.text) (const_operand m of) (register_operand_solid m.text) (const_operand_solid m of)

pointer_good : (m : Meaning) → Good none (a_pointer m)
unfolding a_pointer
pointer_good m = then_good none _ _ (word_good _ _) (λ _. operand_good m ty.Ptr)

pub sized_good : (m : Meaning) → Good none (sized_operand m)
unfolding sized_operand
sized_good m = then_good none _ _ (width_good m) (λ w. then_good none _ _ (operand_good m (ty.Int w)) (λ v. done_good none _))

pub sized_solid : (m : Meaning) → IsSolid (sized_operand m)
unfolding sized_operand
sized_solid m = first_solid _ _ (width_solid m)

-- ---- ends

alignment_good : (text : List ℕ) → Good none (an_alignment text)
unfolding an_alignment
alignment_good text = then_good none _ _ (plain_good _) (λ _. plain_good _)

alignment_solid : (text : List ℕ) → IsSolid (an_alignment text)
unfolding an_alignment
alignment_solid text = first_solid _ _ (plain_solid _)

attachment_good : (text : List ℕ) (role : Role) (inserted : Bool) → Good none (an_attachment text role inserted)
unfolding an_attachment
attachment_good text role inserted = then_good none _ _ (plain_good _) (λ k. then_good none _ _ (plain_good _) (λ n. done_good none _))

attachment_solid : (text : List ℕ) (role : Role) (inserted : Bool) → IsSolid (an_attachment text role inserted)
unfolding an_attachment
attachment_solid text role inserted = first_solid _ _ (plain_solid _)

end_alignment_good : (text : List ℕ) (e : Ending) → Good none (end_alignment text e)
unfolding end_alignment
end_alignment_good text e = then_good none _ _ (alignment_good text) (λ n. done_good none _)

end_alignment_solid : (text : List ℕ) (e : Ending) → IsSolid (end_alignment text e)
unfolding end_alignment
end_alignment_solid text e = first_solid _ _ (alignment_solid text)

end_attachment_good : (text : List ℕ) (role : Role) (e : Ending) → Good none (end_attachment text role e)
unfolding end_attachment
end_attachment_good text role e = then_good none _ _ (attachment_good text role e.inserted) (λ i. done_good none _)

end_attachment_solid : (text : List ℕ) (role : Role) (e : Ending) → IsSolid (end_attachment text role e)
unfolding end_attachment
end_attachment_solid text role e = first_solid _ _ (attachment_solid text role e.inserted)

pub end_step_good : (text : List ℕ) (role : Role) (e : Ending) → Good none (end_step text role e)
unfolding end_step
end_step_good text role e = then_good none _ _ (plain_good _) (λ _. if_next_good none (opens_alignment text e) _ _ (end_alignment_good text e) (end_attachment_good text role e) (end_alignment_solid text e) (end_attachment_solid text role e))

pub end_step_solid : (text : List ℕ) (role : Role) (e : Ending) → IsSolid (end_step text role e)
unfolding end_step
end_step_solid text role e = first_solid _ _ (plain_solid _)

pub ends_good : (text : List ℕ) (role : Role) (e : Ending) → Good (is_comma text) (ends text role e)
ends_good text role e = folded_good (is_comma text) (end_step text role) (end_step_good text role) (end_step_solid text role) e

pub end_mark_good : (text : List ℕ) (role : Role) (aligns : Bool) → Good (is_comma text) (end_mark text role aligns)
unfolding end_mark
end_mark_good text role aligns = last_good (is_comma text) _ _ (ends_good text role _)

pub finish_good : (text : List ℕ) (role : Role) (aligns : Bool) (op : Op) → Good (is_comma text) (finish text role aligns op)
unfolding finish
finish_good text role aligns op = last_good (is_comma text) _ _ (lift_good (is_comma text) _ (end_mark_good text role aligns))

pub ended_good : (text : List ℕ) (role : Role) (aligns : Bool) (form : Rule Locals Op) → Good none form → Good (is_comma text) (ended text role aligns form)
ended_good text role aligns form l = then_good (is_comma text) _ _ l (finish_good text role aligns)

module _ {A : Type 0} (text : List ℕ) (role : Role) (item : Rule Locals A) (gi : Good none item) (si : IsSolid item) where
  list_item_good : (l : Listed A) → Good none (list_item item l)
  unfolding list_item
  list_item_good l = then_good none _ _ gi (λ a. done_good none _)

  list_item_solid : (l : Listed A) → IsSolid (list_item item l)
  unfolding list_item
  list_item_solid l = first_solid _ _ si

  list_attachment_good : (l : Listed A) → Good none (list_attachment text role l)
  unfolding list_attachment
  list_attachment_good l = then_good none _ _ (lift_good none _ (attachment_good text role l.inserted)) (λ i. done_good none _)

  list_attachment_solid : (l : Listed A) → IsSolid (list_attachment text role l)
  unfolding list_attachment
  list_attachment_solid l = first_solid _ _ (lift_solid (an_attachment text role l.inserted) (attachment_solid text role l.inserted))

  pub list_step_good : (l : Listed A) → Good none (list_step text role item l)
  unfolding list_step
  list_step_good l = then_good none _ _ (sign_good _ _) (λ _. if_next_good none (opens_item l) _ _ (list_item_good l) (list_attachment_good l) (list_item_solid l) (list_attachment_solid l))

  pub list_step_solid : (l : Listed A) → IsSolid (list_step text role item l)
  unfolding list_step
  list_step_solid l = first_solid _ _ (sign_solid _ _)

  pub listed_good : (l : Listed A) → Good (is_comma text) (listed text role item l)
  listed_good l = folded_good (is_comma text) (list_step text role item) list_step_good list_step_solid l

-- ---- operations on values

binary_parts_good : (m : Meaning) (b : BinOp) → Good none (binary_parts m b)
unfolding binary_parts
binary_parts_good m b = then_good none _ _ (width_good m) (λ w. then_good none _ _ (operand_good m (ty.Int w)) (λ x. then_good none _ _ (sign_good _ _) (λ _. then_good none _ _ (operand_good m (ty.Int w)) (λ y. done_good none _))))

binary_parts_solid : (m : Meaning) (b : BinOp) → IsSolid (binary_parts m b)
unfolding binary_parts
binary_parts_solid m b = first_solid _ _ (width_solid m)

pub binary_good : (m : Meaning) (b : BinOp) → Good none (binary m b)
binary_good m b = behind_good (is_flag_word m.text (binary_flags b)) (binary_parts m b) none (binary_parts_good m b) (binary_parts_solid m b)

cast_parts_good : (m : Meaning) (c : CastOp) → Good none (cast_parts m c)
unfolding cast_parts
cast_parts_good m c = then_good none _ _ (some_type_good m) (λ from. then_good none _ _ (operand_good m from) (λ v. then_good none _ _ (word_good _ _) (λ _. then_good none _ _ (some_type_good m) (λ target. done_good none _))))

cast_parts_solid : (m : Meaning) (c : CastOp) → IsSolid (cast_parts m c)
unfolding cast_parts
cast_parts_solid m c = first_solid _ _ (some_type_solid m)

pub cast_good : (m : Meaning) (c : CastOp) → Good none (cast_form m c)
cast_good m c = behind_good (is_flag_word m.text (cast_flags c)) (cast_parts m c) none (cast_parts_good m c) (cast_parts_solid m c)

compare_parts_good : (m : Meaning) → Good none (compare_parts m)
unfolding compare_parts
compare_parts_good m = then_good none _ _ (lift_good none _ (plain_good _)) (λ p. then_good none _ _ (some_type_good m) (λ of. then_good none _ _ (operand_good m of) (λ x. then_good none _ _ (sign_good _ _) (λ _.
    then_good none _ _ (operand_good m of) (λ y. done_good none _)))))

compare_parts_solid : (m : Meaning) → IsSolid (compare_parts m)
unfolding compare_parts
compare_parts_solid m = first_solid _ _ (lift_solid (plain (pred_of m.text)) (plain_solid (pred_of m.text)))

pub compare_good : (m : Meaning) → Good none (compare m)
compare_good m = behind_good (is_flag_word m.text flags.SameSign) (compare_parts m) none (compare_parts_good m) (compare_parts_solid m)

pub freeze_good : (m : Meaning) → Good none (freeze m)
unfolding freeze
freeze_good m = then_good none _ _ (some_type_good m) (λ of. then_good none _ _ (operand_good m of) (λ v. done_good none _))

pub select_good : (m : Meaning) → Good none (select m)
unfolding select
select_good m = then_good none _ _ (word_good _ _) (λ _. then_good none _ _ (operand_good m (ty.Int 1)) (λ c. then_good none _ _ (sign_good _ _) (λ _. then_good none _ _ (some_type_good m) (λ of.
    then_good none _ _ (operand_good m of) (λ x. then_good none _ _ (sign_good _ _) (λ _. then_good none _ _ (this_type_good m of) (λ _. then_good none _ _ (operand_good m of) (λ y. done_good none _))))))))

-- ---- memory

load_parts_good : (m : Meaning) (v : Bool) → Good none (memory.load_parts m v)
unfolding memory.load_parts
load_parts_good m v = then_good none _ _ (some_type_good m) (λ of. then_good none _ _ (sign_good _ _) (λ _. then_good none _ _ (pointer_good m) (λ p. done_good none _)))

volatile_load_good : (m : Meaning) → Good none (memory.volatile_load m)
unfolding memory.volatile_load
volatile_load_good m = then_good none _ _ (word_good _ _) (λ _. load_parts_good m true)

load_solid : (m : Meaning) → IsSolid (memory.load_parts m false)
unfolding memory.load_parts
load_solid m = first_solid _ _ (some_type_solid m)

volatile_load_solid : (m : Meaning) → IsSolid (memory.volatile_load m)
unfolding memory.volatile_load
volatile_load_solid m = first_solid _ _ (word_solid _ _)

pub load_good : (m : Meaning) → Good none (memory.load m)
load_good m = if_next_good none (memory.is_volatile m.text) _ _ (volatile_load_good m) (load_parts_good m false) (volatile_load_solid m) (load_solid m)

store_parts_good : (m : Meaning) (v : Bool) → Good none (memory.store_parts m v)
unfolding memory.store_parts
store_parts_good m v = then_good none _ _ (some_type_good m) (λ of. then_good none _ _ (operand_good m of) (λ x. then_good none _ _ (sign_good _ _) (λ _. then_good none _ _ (pointer_good m) (λ p. done_good none _))))

volatile_store_good : (m : Meaning) → Good none (memory.volatile_store m)
unfolding memory.volatile_store
volatile_store_good m = then_good none _ _ (word_good _ _) (λ _. store_parts_good m true)

store_solid : (m : Meaning) → IsSolid (memory.store_parts m false)
unfolding memory.store_parts
store_solid m = first_solid _ _ (some_type_solid m)

volatile_store_solid : (m : Meaning) → IsSolid (memory.volatile_store m)
unfolding memory.volatile_store
volatile_store_solid m = first_solid _ _ (word_solid _ _)

pub store_good : (m : Meaning) → Good none (memory.store m)
store_good m = if_next_good none (memory.is_volatile m.text) _ _ (volatile_store_good m) (store_parts_good m false) (volatile_store_solid m) (store_solid m)

address_parts_good : (m : Meaning) (role : Role) → Good (is_comma m.text) (memory.address_parts m role)
unfolding memory.address_parts
address_parts_good m role = then_good (is_comma m.text) _ _ (some_type_good m) (λ base. then_good (is_comma m.text) _ _ (sign_good _ _) (λ _. then_good (is_comma m.text) _ _ (pointer_good m) (λ p. then_good (is_comma m.text) _ _ (sign_good _ _) (λ _.
    then_good (is_comma m.text) _ _ (sized_good m) (λ first. last_good (is_comma m.text) _ _ (listed_good m.text role (sized_operand m) (sized_good m) (sized_solid m) _))))))

address_parts_solid : (m : Meaning) (role : Role) → IsSolid (memory.address_parts m role)
unfolding memory.address_parts
address_parts_solid m role = first_solid _ _ (some_type_solid m)

pub address_good : (m : Meaning) (role : Role) → Good (is_comma m.text) (memory.address m role)
address_good m role = behind_good (is_flag m.text) (memory.address_parts m role) (is_comma m.text) (address_parts_good m role) (address_parts_solid m role)

stated_alignment_good : (text : List ℕ) (e : AllocaEnd) → Good none (memory.stated_alignment text e)
unfolding memory.stated_alignment
stated_alignment_good text e = then_good none _ _ (lift_good none _ (alignment_good text)) (λ n. done_good none _)

stated_alignment_solid : (text : List ℕ) (e : AllocaEnd) → IsSolid (memory.stated_alignment text e)
unfolding memory.stated_alignment
stated_alignment_solid text e = first_solid _ _ (lift_solid (an_alignment text) (alignment_solid text))

stated_count_good : (m : Meaning) (e : AllocaEnd) → Good none (memory.stated_count m e)
unfolding memory.stated_count
stated_count_good m e = then_good none _ _ (sized_good m) (λ n. done_good none _)

stated_count_solid : (m : Meaning) (e : AllocaEnd) → IsSolid (memory.stated_count m e)
unfolding memory.stated_count
stated_count_solid m e = first_solid _ _ (sized_solid m)

alloca_attachment_good : (text : List ℕ) (role : Role) (e : AllocaEnd) → Good none (memory.alloca_attachment text role e)
unfolding memory.alloca_attachment
alloca_attachment_good text role e = then_good none _ _ (lift_good none _ (attachment_good text role e.inserted)) (λ i. done_good none _)

alloca_attachment_solid : (text : List ℕ) (role : Role) (e : AllocaEnd) → IsSolid (memory.alloca_attachment text role e)
unfolding memory.alloca_attachment
alloca_attachment_solid text role e = first_solid _ _ (lift_solid (an_attachment text role e.inserted) (attachment_solid text role e.inserted))

pub alloca_step_good : (m : Meaning) (role : Role) (e : AllocaEnd) → Good none (memory.alloca_step m role e)
unfolding memory.alloca_step
alloca_step_good m role e = then_good none _ _ (sign_good _ _) (λ _. if_next_good none (memory.opens_alignment m.text e) _ _ (stated_alignment_good m.text e)
    (if_next_good none (memory.opens_count e) _ _ (stated_count_good m e) (alloca_attachment_good m.text role e) (stated_count_solid m e) (alloca_attachment_solid m.text role e))
    (stated_alignment_solid m.text e) (if_next_solid (memory.opens_count e) (memory.stated_count m e) (memory.alloca_attachment m.text role e) (stated_count_solid m e) (alloca_attachment_solid m.text role e)))

pub alloca_step_solid : (m : Meaning) (role : Role) (e : AllocaEnd) → IsSolid (memory.alloca_step m role e)
unfolding memory.alloca_step
alloca_step_solid m role e = first_solid _ _ (sign_solid _ _)

pub alloca_good : (m : Meaning) (role : Role) → Good (is_comma m.text) (memory.alloca m role)
unfolding memory.alloca
alloca_good m role = then_good (is_comma m.text) _ _ (some_type_good m) (λ of. last_good (is_comma m.text) _ _ (folded_good (is_comma m.text) (memory.alloca_step m role) (alloca_step_good m role) (alloca_step_solid m role) memory.alloca_start))

-- ---- control flow

return_void_good : (m : Meaning) → Good none (return_void m)
unfolding return_void
return_void_good m = then_good none _ _ (word_good _ _) (λ _. done_good none _)

return_void_solid : (m : Meaning) → IsSolid (return_void m)
unfolding return_void
return_void_solid m = first_solid _ _ (word_solid _ _)

return_value_good : (m : Meaning) → Good none (return_value m)
unfolding return_value
return_value_good m = then_good none _ _ (some_type_good m) (λ of. then_good none _ _ (operand_good m of) (λ v. done_good none _))

return_value_solid : (m : Meaning) → IsSolid (return_value m)
unfolding return_value
return_value_solid m = first_solid _ _ (some_type_solid m)

pub ret_good : (m : Meaning) → Good none (ret m)
ret_good m = if_next_good none (is_word m.text (codes "void")) _ _ (return_void_good m) (return_value_good m) (return_void_solid m) (return_value_solid m)

branch_good : (m : Meaning) → Good none (branch m)
unfolding branch
branch_good m = then_good none _ _ (label_good m.text) (λ l. done_good none _)

branch_solid : (m : Meaning) → IsSolid (branch m)
unfolding branch
branch_solid m = first_solid _ _ (label_solid m.text)

branch_if_good : (m : Meaning) → Good none (branch_if m)
unfolding branch_if
branch_if_good m = then_good none _ _ (word_good _ _) (λ _. then_good none _ _ (operand_good m (ty.Int 1)) (λ c. then_good none _ _ (sign_good _ _) (λ _. then_good none _ _ (label_good m.text) (λ x.
    then_good none _ _ (sign_good _ _) (λ _. then_good none _ _ (label_good m.text) (λ y. done_good none _))))))

branch_if_solid : (m : Meaning) → IsSolid (branch_if m)
unfolding branch_if
branch_if_solid m = first_solid _ _ (word_solid _ _)

pub br_good : (m : Meaning) → Good none (br m)
br_good m = if_next_good none (is_word m.text (codes "label")) _ _ (branch_good m) (branch_if_good m) (branch_solid m) (branch_if_solid m)

case_good : (m : Meaning) (w : ℕ) → Good none (a_case m w)
unfolding a_case
case_good m w = then_good none _ _ (lift_good none _ (checked_good none _ (same_width w) (plain_good _))) (λ _. then_good none _ _ (lift_good none _ (plain_good _)) (λ k. then_good none _ _ (sign_good _ _) (λ _. then_good none _ _ (label_good m.text) (λ l. done_good none _))))

case_solid : (m : Meaning) (w : ℕ) → IsSolid (a_case m w)
unfolding a_case
case_solid m w = first_solid _ _ (lift_solid (checked (plain (width_of m.text)) (same_width w)) (checked_solid (plain (width_of m.text)) (same_width w) (plain_solid (width_of m.text))))

no_case_good : (m : Meaning) → Good none (no_case m)
unfolding no_case
no_case_good m = then_good none _ _ (sign_good _ _) (λ _. done_good none _)

no_case_solid : (m : Meaning) → IsSolid (no_case m)
unfolding no_case
no_case_solid m = first_solid _ _ (sign_solid _ _)

one_case_good : (m : Meaning) (w : ℕ) → Good none (one_case m w)
unfolding one_case
one_case_good m w = then_good none _ _ (case_good m w) (λ c. done_good none _)

one_case_solid : (m : Meaning) (w : ℕ) → IsSolid (one_case m w)
unfolding one_case
one_case_solid m w = first_solid _ _ (case_solid m w)

pub more_case_good : (m : Meaning) (w : ℕ) → Good none (more_case m w)
more_case_good m w = if_next_good none (is_sign m.text (codes "]")) _ _ (no_case_good m) (one_case_good m w) (no_case_solid m) (one_case_solid m w)

pub more_case_solid : (m : Meaning) (w : ℕ) → IsSolid (more_case m w)
more_case_solid m w = if_next_solid (is_sign m.text (codes "]")) (no_case m) (one_case m w) (no_case_solid m) (one_case_solid m w)

pub switch_good : (m : Meaning) → Good none (switch m)
unfolding switch
switch_good m = then_good none _ _ (width_good m) (λ w. then_good none _ _ (operand_good m (ty.Int w)) (λ v. then_good none _ _ (sign_good _ _) (λ _. then_good none _ _ (label_good m.text) (λ l. then_good none _ _ (sign_good _ _) (λ _.
    then_good none _ _ (repeat_good none _ (more_case_good m w) (more_case_solid m w) (λ s t used o n. avoids_none used)) (λ cases. done_good none _))))))

pub pair_good : (m : Meaning) (of : Ty) → Good none (a_pair m of)
unfolding a_pair
pair_good m of = then_good none _ _ (sign_good _ _) (λ _. then_good none _ _ (operand_good m of) (λ v. then_good none _ _ (sign_good _ _) (λ _. then_good none _ _ (label_name_good m.text) (λ l. then_good none _ _ (sign_good _ _) (λ _. done_good none _)))))

pub pair_solid : (m : Meaning) (of : Ty) → IsSolid (a_pair m of)
unfolding a_pair
pair_solid m of = first_solid _ _ (sign_solid _ _)

pub phi_good : (m : Meaning) (role : Role) → Good (is_comma m.text) (phi m role)
unfolding phi
phi_good m role = then_good (is_comma m.text) _ _ (some_type_good m) (λ of. then_good (is_comma m.text) _ _ (pair_good m of) (λ first. last_good (is_comma m.text) _ _ (listed_good m.text role (a_pair m of) (pair_good m of) (pair_solid m of) _)))
