-- Reading is decided by a prefix: operands, forms of instructions, and what ends them.
use Rattle.std.proofs.Common.{ℕ, Bool, true, false, List, codes, Some, None}
use Rattle.no_lex.specs.declared.token.TokenKind.TheVariants.{Local}
use Rattle.no_ir.specs.declared.function.Role.{Role}
use Rattle.no_ir.specs.declared.types.Ty.{Ty}
use Rattle.no_ir.specs.declared.types.Ty.TheVariants as ty
use Rattle.no_ir.specs.declared.instruction.BinOp.{BinOp}
use Rattle.no_ir.specs.declared.instruction.CastOp.{CastOp}
use Rattle.no_ir.specs.declared.instruction.Op.{Op}
use Rattle.no_read_rules.specs.Rules.{Rule}
use Rattle.no_read_rules.specs.Repeated.{repeat}
use Rattle.no_read_rules.specs.Scope.{Meaning}
use Rattle.no_read_rules.specs.Spelled.{is_kind, is_word, is_sign, only_where}
use Rattle.no_read_rules.specs.Types.{must_be}
use Rattle.no_read_constants.specs.Places.{is_flag, width_of}
use Rattle.no_read_registers.specs.declared.locals.Locals.{Locals}
use Rattle.no_read_registers.specs.Numbered.{a_label, a_label_name}
use Rattle.no_read_operations.specs.declared.operands.Flags.TheVariants as flags
use Rattle.no_read_operations.specs.declared.ends.Ending.{Ending}
use Rattle.no_read_operations.specs.declared.ends.Listed.{Listed}
use Rattle.no_read_operations.specs.declared.memory.AllocaEnd.{AllocaEnd}
use Rattle.no_read_operations.specs.Operands.{DEPTH, word, sign, some_type, this_type, a_width, register_operand, const_operand, an_operand, a_pointer, sized_operand, is_flag_word}
use Rattle.no_read_operations.specs.Ends.{is_comma, an_alignment, an_attachment, opens_alignment, end_alignment, end_attachment, end_step, end_mark, finish, ended, opens_item, list_item, list_attachment, list_step, listed}
use Rattle.no_read_operations.specs.Simple.{binary_flags, binary_parts, binary, cast_flags, cast_parts, cast_form, compare_parts, compare, freeze, select}
use Rattle.no_read_operations.specs.Memory as memory
use Rattle.no_read_operations.specs.Flow.{return_void, return_value, ret, branch, branch_if, br, same_width, a_case, no_case, one_case, more_case, switch, a_pair, phi}
use Rattle.no_fault_places.specs.Prefixes.{Steady, Eats}
use Rattle.no_fault_places.proofs.Prefix.{one_steady, plain_steady, done_steady, lift_steady, if_next_steady, then_steady, plain_eats, lift_eats, then_eats, if_next_eats, checked_eats}
use Rattle.no_fault_places.proofs.Lists.{repeat_steady, behind_steady}
use Rattle.no_fault_places.proofs.Folds.{folded_steady}
use Rattle.no_fault_places.proofs.Constants.{plain_checked, type_steady, type_checked, const_steady}

pub word_steady : (text w : List ℕ) → Steady (word text w)
word_steady text w = lift_steady _ (plain_steady _)

pub sign_steady : (text w : List ℕ) → Steady (sign text w)
sign_steady text w = lift_steady _ (plain_steady _)

pub sign_eats : (text w : List ℕ) → Eats (sign text w)
sign_eats text w = lift_eats _ (plain_eats (λ token. only_where (is_sign text w token)))

pub label_name_steady : (text : List ℕ) → Steady (a_label_name text)
label_name_steady text = one_steady _

pub label_steady : (text : List ℕ) → Steady (a_label text)
unfolding a_label
label_steady text = then_steady _ _ (plain_steady _) (λ _. label_name_steady text)

-- ---- ends

module _ (text : List ℕ) where
  alignment_steady : Steady (an_alignment text)
  unfolding an_alignment
  alignment_steady = then_steady _ _ (plain_steady _) (λ _. plain_steady _)

  module _ (role : Role) where
    attachment_steady : (inserted : Bool) → Steady (an_attachment text role inserted)
    unfolding an_attachment
    attachment_steady inserted = then_steady _ _ (plain_steady _) (λ k. then_steady _ _ (plain_steady _) (λ n. done_steady _))

    end_alignment_steady : (e : Ending) → Steady (end_alignment text e)
    unfolding end_alignment
    end_alignment_steady e = then_steady _ _ alignment_steady (λ n. done_steady _)

    end_attachment_steady : (e : Ending) → Steady (end_attachment text role e)
    unfolding end_attachment
    end_attachment_steady e = then_steady _ _ (attachment_steady e.inserted) (λ i. done_steady _)

    end_step_steady : (e : Ending) → Steady (end_step text role e)
    unfolding end_step
    end_step_steady e = then_steady _ _ (plain_steady _) (λ _. if_next_steady (opens_alignment text e) _ _ (end_alignment_steady e) (end_attachment_steady e))

    end_step_eats : (e : Ending) → Eats (end_step text role e)
    unfolding end_step
    end_step_eats e = then_eats _ _ (plain_eats (λ token. only_where (is_sign text (codes ",") token))) (λ _. if_next_steady (opens_alignment text e) _ _ (end_alignment_steady e) (end_attachment_steady e))

    pub end_mark_steady : (aligns : Bool) → Steady (end_mark text role aligns)
    unfolding end_mark
    end_mark_steady aligns = then_steady _ _ (folded_steady (is_comma text) (end_step text role) end_step_steady end_step_eats _) (λ e. done_steady _)

    pub finish_steady : (aligns : Bool) (op : Op) → Steady (finish text role aligns op)
    unfolding finish
    finish_steady aligns op = then_steady _ _ (lift_steady _ (end_mark_steady aligns)) (λ i. done_steady _)

    pub ended_steady : (aligns : Bool) (form : Rule Locals Op) → Steady form → Steady (ended text role aligns form)
    ended_steady aligns form h = then_steady _ _ h (finish_steady aligns)

    module _ {A : Type 0} (item : Rule Locals A) (h : Steady item) where
      list_item_steady : (l : Listed A) → Steady (list_item item l)
      unfolding list_item
      list_item_steady l = then_steady _ _ h (λ a. done_steady _)

      list_attachment_steady : (l : Listed A) → Steady (list_attachment text role l)
      unfolding list_attachment
      list_attachment_steady l = then_steady _ _ (lift_steady _ (attachment_steady l.inserted)) (λ i. done_steady _)

      list_step_steady : (l : Listed A) → Steady (list_step text role item l)
      unfolding list_step
      list_step_steady l = then_steady _ _ (sign_steady _ _) (λ _. if_next_steady (opens_item l) _ _ (list_item_steady l) (list_attachment_steady l))

      list_step_eats : (l : Listed A) → Eats (list_step text role item l)
      unfolding list_step
      list_step_eats l = then_eats _ _ (sign_eats text (codes ",")) (λ _. if_next_steady (opens_item l) _ _ (list_item_steady l) (list_attachment_steady l))

      pub listed_steady : (l : Listed A) → Steady (listed text role item l)
      listed_steady l = folded_steady (is_comma text) (list_step text role item) list_step_steady list_step_eats l

module _ (m : Meaning) where
  pub some_type_steady : Steady (some_type m)
  some_type_steady = lift_steady _ (type_steady m DEPTH)

  this_type_steady : (want : Ty) → Steady (this_type m want)
  this_type_steady want = lift_steady _ (type_checked m DEPTH (must_be want))

  width_steady : Steady (a_width m)
  width_steady = lift_steady _ (plain_steady _)

  -- ---- operands

  register_operand_steady : Steady (register_operand m.text)
  unfolding register_operand
  register_operand_steady = then_steady _ _ (one_steady _) (λ r. done_steady _)

  const_operand_steady : (of : Ty) → Steady (const_operand m of)
  unfolding const_operand
  const_operand_steady of = then_steady _ _ (lift_steady _ (const_steady m DEPTH of)) (λ c. done_steady _)

  pub operand_steady : (of : Ty) → Steady (an_operand m of)
  unfolding an_operand
  operand_steady of = if_next_steady (is_kind Local) _ _ register_operand_steady (const_operand_steady of)

  pointer_steady : Steady (a_pointer m)
  unfolding a_pointer
  pointer_steady = then_steady _ _ (word_steady _ _) (λ _. operand_steady ty.Ptr)

  sized_steady : Steady (sized_operand m)
  unfolding sized_operand
  sized_steady = then_steady _ _ width_steady (λ w. then_steady _ _ (operand_steady (ty.Int w)) (λ v. done_steady _))

  -- ---- operations on values

  binary_parts_steady : (b : BinOp) → Steady (binary_parts m b)
  unfolding binary_parts
  binary_parts_steady b = then_steady _ _ width_steady (λ w. then_steady _ _ (operand_steady (ty.Int w)) (λ x. then_steady _ _ (sign_steady _ _) (λ _. then_steady _ _ (operand_steady (ty.Int w)) (λ y. done_steady _))))

  pub binary_steady : (b : BinOp) → Steady (binary m b)
  binary_steady b = behind_steady (is_flag_word m.text (binary_flags b)) (binary_parts m b) (binary_parts_steady b)

  cast_parts_steady : (c : CastOp) → Steady (cast_parts m c)
  unfolding cast_parts
  cast_parts_steady c = then_steady _ _ some_type_steady (λ from. then_steady _ _ (operand_steady from) (λ v. then_steady _ _ (word_steady _ _) (λ _. then_steady _ _ some_type_steady (λ target. done_steady _))))

  pub cast_steady : (c : CastOp) → Steady (cast_form m c)
  cast_steady c = behind_steady (is_flag_word m.text (cast_flags c)) (cast_parts m c) (cast_parts_steady c)

  compare_parts_steady : Steady (compare_parts m)
  unfolding compare_parts
  compare_parts_steady = then_steady _ _ (lift_steady _ (plain_steady _)) (λ p. then_steady _ _ some_type_steady (λ of. then_steady _ _ (operand_steady of) (λ x. then_steady _ _ (sign_steady _ _) (λ _. then_steady _ _ (operand_steady of) (λ y. done_steady _)))))

  pub compare_steady : Steady (compare m)
  compare_steady = behind_steady (is_flag_word m.text flags.SameSign) (compare_parts m) compare_parts_steady

  pub freeze_steady : Steady (freeze m)
  unfolding freeze
  freeze_steady = then_steady _ _ some_type_steady (λ of. then_steady _ _ (operand_steady of) (λ v. done_steady _))

  pub select_steady : Steady (select m)
  unfolding select
  select_steady = then_steady _ _ (word_steady _ _) (λ _. then_steady _ _ (operand_steady (ty.Int 1)) (λ c. then_steady _ _ (sign_steady _ _) (λ _. then_steady _ _ some_type_steady (λ of.
      then_steady _ _ (operand_steady of) (λ x. then_steady _ _ (sign_steady _ _) (λ _. then_steady _ _ (this_type_steady of) (λ _. then_steady _ _ (operand_steady of) (λ y. done_steady _))))))))

  -- ---- memory

  load_parts_steady : (v : Bool) → Steady (memory.load_parts m v)
  unfolding memory.load_parts
  load_parts_steady v = then_steady _ _ some_type_steady (λ of. then_steady _ _ (sign_steady _ _) (λ _. then_steady _ _ pointer_steady (λ p. done_steady _)))

  volatile_load_steady : Steady (memory.volatile_load m)
  unfolding memory.volatile_load
  volatile_load_steady = then_steady _ _ (word_steady _ _) (λ _. load_parts_steady true)

  pub load_steady : Steady (memory.load m)
  load_steady = if_next_steady (memory.is_volatile m.text) _ _ volatile_load_steady (load_parts_steady false)

  store_parts_steady : (v : Bool) → Steady (memory.store_parts m v)
  unfolding memory.store_parts
  store_parts_steady v = then_steady _ _ some_type_steady (λ of. then_steady _ _ (operand_steady of) (λ x. then_steady _ _ (sign_steady _ _) (λ _. then_steady _ _ pointer_steady (λ p. done_steady _))))

  volatile_store_steady : Steady (memory.volatile_store m)
  unfolding memory.volatile_store
  volatile_store_steady = then_steady _ _ (word_steady _ _) (λ _. store_parts_steady true)

  pub store_steady : Steady (memory.store m)
  store_steady = if_next_steady (memory.is_volatile m.text) _ _ volatile_store_steady (store_parts_steady false)

  module _ (role : Role) where
    address_parts_steady : Steady (memory.address_parts m role)
    unfolding memory.address_parts
    address_parts_steady = then_steady _ _ some_type_steady (λ base. then_steady _ _ (sign_steady _ _) (λ _. then_steady _ _ pointer_steady (λ p. then_steady _ _ (sign_steady _ _) (λ _.
        then_steady _ _ sized_steady (λ first. then_steady _ _ (listed_steady m.text role (sized_operand m) sized_steady _) (λ all. done_steady _))))))

    pub address_steady : Steady (memory.address m role)
    address_steady = behind_steady (is_flag m.text) (memory.address_parts m role) address_parts_steady

    stated_alignment_steady : (e : AllocaEnd) → Steady (memory.stated_alignment m.text e)
    unfolding memory.stated_alignment
    stated_alignment_steady e = then_steady _ _ (lift_steady _ (alignment_steady m.text)) (λ n. done_steady _)

    stated_count_steady : (e : AllocaEnd) → Steady (memory.stated_count m e)
    unfolding memory.stated_count
    stated_count_steady e = then_steady _ _ sized_steady (λ n. done_steady _)

    alloca_attachment_steady : (e : AllocaEnd) → Steady (memory.alloca_attachment m.text role e)
    unfolding memory.alloca_attachment
    alloca_attachment_steady e = then_steady _ _ (lift_steady _ (attachment_steady m.text role e.inserted)) (λ i. done_steady _)

    behind_comma : (e : AllocaEnd) → Steady (memory.count_or_attachment m role e)
    behind_comma e = if_next_steady (memory.opens_count e) _ _ (stated_count_steady e) (alloca_attachment_steady e)

    alloca_step_steady : (e : AllocaEnd) → Steady (memory.alloca_step m role e)
    unfolding memory.alloca_step
    alloca_step_steady e = then_steady _ _ (sign_steady _ _) (λ _. if_next_steady (memory.opens_alignment m.text e) _ _ (stated_alignment_steady e) (behind_comma e))

    alloca_step_eats : (e : AllocaEnd) → Eats (memory.alloca_step m role e)
    unfolding memory.alloca_step
    alloca_step_eats e = then_eats _ _ (sign_eats m.text (codes ",")) (λ _. if_next_steady (memory.opens_alignment m.text e) _ _ (stated_alignment_steady e) (behind_comma e))

    pub alloca_steady : Steady (memory.alloca m role)
    unfolding memory.alloca
    alloca_steady = then_steady _ _ some_type_steady (λ of. then_steady _ _ (folded_steady (is_comma m.text) (memory.alloca_step m role) alloca_step_steady alloca_step_eats memory.alloca_start) (λ e. done_steady _))

  -- ---- control flow

  return_void_steady : Steady (return_void m)
  unfolding return_void
  return_void_steady = then_steady _ _ (word_steady _ _) (λ _. done_steady _)

  return_value_steady : Steady (return_value m)
  unfolding return_value
  return_value_steady = then_steady _ _ some_type_steady (λ of. then_steady _ _ (operand_steady of) (λ v. done_steady _))

  pub ret_steady : Steady (ret m)
  ret_steady = if_next_steady (is_word m.text (codes "void")) _ _ return_void_steady return_value_steady

  branch_steady : Steady (branch m)
  unfolding branch
  branch_steady = then_steady _ _ (label_steady m.text) (λ l. done_steady _)

  branch_if_steady : Steady (branch_if m)
  unfolding branch_if
  branch_if_steady = then_steady _ _ (word_steady _ _) (λ _. then_steady _ _ (operand_steady (ty.Int 1)) (λ c. then_steady _ _ (sign_steady _ _) (λ _. then_steady _ _ (label_steady m.text) (λ x.
      then_steady _ _ (sign_steady _ _) (λ _. then_steady _ _ (label_steady m.text) (λ y. done_steady _))))))

  pub br_steady : Steady (br m)
  br_steady = if_next_steady (is_word m.text (codes "label")) _ _ branch_steady branch_if_steady

  case_steady : (w : ℕ) → Steady (a_case m w)
  unfolding a_case
  case_steady w = then_steady _ _ (lift_steady _ (plain_checked (width_of m.text) (same_width w))) (λ _. then_steady _ _ (lift_steady _ (plain_steady _)) (λ k. then_steady _ _ (sign_steady _ _) (λ _. then_steady _ _ (label_steady m.text) (λ l. done_steady _))))

  case_eats : (w : ℕ) → Eats (a_case m w)
  unfolding a_case
  case_eats w = then_eats _ _ (lift_eats _ (checked_eats _ (same_width w) (plain_eats (width_of m.text)))) (λ _. then_steady _ _ (lift_steady _ (plain_steady _)) (λ k. then_steady _ _ (sign_steady _ _) (λ _. then_steady _ _ (label_steady m.text) (λ l. done_steady _))))

  no_case_steady : Steady (no_case m)
  unfolding no_case
  no_case_steady = then_steady _ _ (sign_steady _ _) (λ _. done_steady None)

  no_case_eats : Eats (no_case m)
  unfolding no_case
  no_case_eats = then_eats _ _ (sign_eats m.text (codes "]")) (λ _. done_steady None)

  one_case_steady : (w : ℕ) → Steady (one_case m w)
  unfolding one_case
  one_case_steady w = then_steady _ _ (case_steady w) (λ c. done_steady (Some c))

  one_case_eats : (w : ℕ) → Eats (one_case m w)
  unfolding one_case
  one_case_eats w = then_eats _ _ (case_eats w) (λ c. done_steady (Some c))

  cases_steady : (w : ℕ) → Steady (repeat (more_case m w))
  cases_steady w = repeat_steady (more_case m w) (if_next_steady (is_sign m.text (codes "]")) _ _ no_case_steady (one_case_steady w))
      (λ s t tokens rest a e. (if_next_eats (is_sign m.text (codes "]")) (no_case m) (one_case m w) no_case_eats (one_case_eats w)).less s tokens (Some a, t, rest) e)

  pub switch_steady : Steady (switch m)
  unfolding switch
  switch_steady = then_steady _ _ width_steady (λ w. then_steady _ _ (operand_steady (ty.Int w)) (λ v. then_steady _ _ (sign_steady _ _) (λ _. then_steady _ _ (label_steady m.text) (λ l. then_steady _ _ (sign_steady _ _) (λ _.
      then_steady _ _ (cases_steady w) (λ cases. done_steady _))))))

  pair_steady : (of : Ty) → Steady (a_pair m of)
  unfolding a_pair
  pair_steady of = then_steady _ _ (sign_steady _ _) (λ _. then_steady _ _ (operand_steady of) (λ v. then_steady _ _ (sign_steady _ _) (λ _. then_steady _ _ (label_name_steady m.text) (λ l. then_steady _ _ (sign_steady _ _) (λ _. done_steady _)))))

  pub phi_steady : (role : Role) → Steady (phi m role)
  unfolding phi
  phi_steady role = then_steady _ _ some_type_steady (λ of. then_steady _ _ (pair_steady of) (λ first. then_steady _ _ (listed_steady m.text role (a_pair m of) (pair_steady of) _) (λ all. done_steady _)))
