-- Stacks, jumps, phis and calls that were read are formed, and so are whole instructions.
use Rattle.std.proofs.Common.{◌≡◌, ◌<◌, ◌≤◌, ℕ, suc, zero, Bool, true, false, not, ◌&&◌, nat_lt, ◌==◌, List, [], ◌∷◌, ◌++◌, length, codes, if◌then◌else◌, bytes_eq, cond, reverse, ◌+◌, ◌||◌, true≢false, Option, Some, None, is_some, Result, Ok, Err, refl, sym, ap, subst, ◌∙◌, inl, inr, arith}
use Rattle.std.specs.List.{list_all, list_any, position_or_len}
use Rattle.std.proofs.lemmas.List.{length-append}
use Rattle.std.proofs.lemmas.Bool.{lt-ltb}
use Rattle.no_lex.specs.declared.token.Token.{Token}
use Rattle.no_lex.specs.declared.token.TokenKind.TheVariants as kind
use Rattle.no_ir.specs.Naming.{place_of, with_name, is_known}
use Rattle.no_ir.specs.declared.function.Role.{Role}
use Rattle.no_ir.specs.declared.function.Role.TheVariants.{Source, Part}
use Rattle.no_ir.specs.declared.types.Ty.{Ty}
use Rattle.no_ir.specs.declared.types.Ty.TheVariants as ty
use Rattle.no_ir.specs.declared.constant.Const.{Const}
use Rattle.no_ir.specs.declared.instruction.BinOp.{BinOp}
use Rattle.no_ir.specs.declared.instruction.CastOp.{CastOp}
use Rattle.no_ir.specs.declared.instruction.Operand.{Operand}
use Rattle.no_ir.specs.declared.instruction.Operand.TheVariants as operand
use Rattle.no_ir.specs.declared.instruction.Op.{Op}
use Rattle.no_ir.specs.declared.instruction.Op.TheVariants as op
use Rattle.no_read_rules.specs.declared.fault.Flaw.{Flaw}
use Rattle.no_read_rules.specs.declared.fault.Flaw.TheVariants.{Syntax, Number}
use Rattle.no_read_rules.specs.Repeated.{repeat}
use Rattle.no_read_rules.specs.Rules.{Rule, one, plain, done, change, ◌>>=◌, lift, if_next, checked}
use Rattle.no_read_rules.specs.Scope.{Meaning}
use Rattle.no_read_rules.specs.Spelled.{spelled, is_kind, is_word, is_sign, a_word, a_sign}
use Rattle.no_read_rules.specs.Types.{a_type, must_be}
use Rattle.no_read_rules.specs.Unescaped.{name_of}
use Rattle.no_read_constants.specs.Places.{is_flag, width_of, number_at}
use Rattle.no_read_constants.specs.Constants.{a_const}
use Rattle.no_read_attributes.specs.Attributes.{is_alignment as listed_alignment, aligned, alignment_of}
use Rattle.no_read_registers.specs.declared.locals.Locals.{Locals}
use Rattle.no_read_registers.specs.Counting.{next, label_fits}
use Rattle.no_read_registers.specs.Numbered.{register_named, label_named, register_defined, label_defined, register_unnamed, label_unnamed, local_name, used_register, a_register, written_register, a_definition, no_name, used_label, a_label_name, a_label, label_by, without_colon, written_label, a_block_label, numbered_label, fitting, no_block_label}
use Rattle.no_read_operations.specs.declared.ends.Ending.{Ending}
use Rattle.no_read_operations.specs.declared.ends.Listed.{Listed}
use Rattle.no_read_operations.specs.declared.memory.AllocaEnd.{AllocaEnd}
use Rattle.no_read_operations.specs.Folded.{folded, AreSteps}
use Rattle.no_read_operations.specs.Operands.{DEPTH, word, sign, some_type, this_type, a_width, register_operand, const_operand, an_operand, a_pointer, sized_operand, is_flag_word}
use Rattle.no_read_operations.specs.Ends.{is_comma, an_alignment, node_is, marks, an_attachment, opens_alignment, end_alignment, end_attachment, end_step, ends, end_mark, finish, ended, opens_item, list_item, list_attachment, list_step, listed}
use Rattle.no_read_operations.specs.Simple.{binary_flags, binary_parts, binary, cast_flags, cast_parts, cast_form, pred_of, compare_parts, compare, freeze, select}
use Rattle.no_read_operations.specs.Memory as memory
use Rattle.no_read_operations.specs.Flow.{return_void, return_value, ret, branch, branch_if, br, same_width, a_case, no_case, one_case, more_case, switch, a_pair, phi}
use Rattle.no_read_operations.specs.declared.operands.Flags.TheVariants as flags
use Rattle.no_module.specs.Formed.{Counts, Within, type_formed, a_type_formed, operand_formed, value_formed, integer_formed, label_formed, pair_formed, case_formed, count_formed, returned_formed, alignment_formed, op_formed}
use Rattle.no_module.specs.Widths.{is_width, is_below, is_alignment}
use Rattle.no_read_formed.proofs.Saying.{All, Each, Maybe, kept_state, plain_all, done_all, then_all, skip_all, each_true, Grows, Holds, Says, stays, stays_as, goes_on, held, anything, done_says, if_next_says, behind_says, lift_says, lift_any, then_says, skip_says, repeat_says, some_says, if_next_all, folded_all, folded_says, each_push}
use Rattle.no_read_formed.proofs.Types.{from_got, IsType}
use Rattle.no_read_formed.proofs.Values.{Agrees, IsTypeHere, IsConst, type_here, const_all, width_all, number_all}
use Rattle.std.proofs.lemmas.Bool.{eqb-true}
use Rattle.no_read_rules.specs.Lists.{items}
use Rattle.no_read_rules.specs.Spelled.{only_where}
use Rattle.no_read_rules.specs.Numbers.{decimal}
use Rattle.no_read_attributes.specs.Attributes.{all_attributes, all_go_on, skip_attributes}
use Rattle.no_read_attributes.specs.Ending.{ahead}
use Rattle.no_ir.specs.declared.instruction.Instr.{Instr}
use Rattle.no_ir.specs.declared.types.Ty.TheOpen.{Ty-F}
use Rattle.no_ir.specs.declared.types.Ty.TheViews.{out-roll-Ty}
use Rattle.no_ir.specs.declared.types.Ty.TheVariants.{rolls-Void}
use Rattle.no_ir.specs.declared.types.Ty.{out-Ty}
use Rattle.no_read_instructions.specs.Calls.{result_of, behind_attributes, an_argument, call_parts, void_of, void_call, typed_call, call_type, call_form}
use Rattle.no_read_instructions.specs.Heads.{instr_head}
use Rattle.no_read_instructions.specs.Instructions.{giver_form, action_form, giving, acting, tail_call, after_instr_head, instr_body, named_instr, an_instr}
use Rattle.no_read_instructions.specs.declared.heads.Giver.{Giver}
use Rattle.no_read_instructions.specs.declared.heads.Giver.TheVariants as giver
use Rattle.no_read_instructions.specs.declared.heads.Action.{Action}
use Rattle.no_read_instructions.specs.declared.heads.Action.TheVariants as action
use Rattle.no_read_instructions.specs.declared.heads.InstrHead.{InstrHead}
use Rattle.no_read_instructions.specs.declared.heads.InstrHead.TheVariants as head
use Rattle.no_module.specs.Formed.{result_formed, register_formed, instr_formed}
use Rattle.no_module.specs.Scalars.{is_void, void_step}
use Rattle.no_read_formed.proofs.Saying.{items_say, skip_plain, ahead_says}
use Rattle.no_read_formed.proofs.Forms.{IsRegister, IsLabel, register_says, definition_says, label_name_says, label_says, no_name_says, W, IsOperand, IsOp, IsSomeType, IsWidth, IsInteger, operand_says, pointer_says, some_type_says, width_says, sized_says, binary_says, cast_says, compare_says, freeze_says, select_says, load_says, store_says, Unmarked, IsMark, no_mark, attachment_all, end_mark_all, AreListed, listed_says, IsForm, finish_says, ended_says, address_says}

-- ---- alignments

either : (b c : Bool) (P : Type 0) → (b ≡ true → P) → (c ≡ true → P) → (b || c) ≡ true → P
either true c P h k e = h refl
either false c P h k e = k e

one_more : (n v : ℕ) (b : Bool) → is_alignment v ≡ true → (b ≡ true → is_alignment n ≡ true) → (b || n == v) ≡ true → is_alignment n ≡ true
one_more n v b is h e = either b (n == v) (is_alignment n ≡ true) h (λ k. subst (λ (x : ℕ). is_alignment x ≡ true) (sym (eqb-true n v k)) is) e

listed_is : (n : ℕ) → listed_alignment n ≡ true → is_alignment n ≡ true
unfolding lib.Count.ones
listed_is n e =
    one_more n 65536 _ refl (one_more n 32768 _ refl (one_more n 16384 _ refl (one_more n 8192 _ refl (one_more n 4096 _ refl (one_more n 2048 _ refl (one_more n 1024 _ refl (one_more n 512 _ refl
    (one_more n 256 _ refl (one_more n 128 _ refl (one_more n 64 _ refl (one_more n 32 _ refl (one_more n 16 _ refl (one_more n 8 _ refl (one_more n 4 _ refl (one_more n 2 _ refl
    (λ k. subst (λ (x : ℕ). is_alignment x ≡ true) (sym (eqb-true n 1 k)) refl)))))))))))))))) e

aligned_is : (o : Option ℕ) (n : ℕ) → aligned o ≡ Ok n → is_alignment n ≡ true
aligned_is None n e = absurd cc
aligned_is (Some k) n e = go (listed_alignment k) refl e
  where
    go : (b : Bool) → listed_alignment k ≡ b → (if b then Ok k else Err Number) ≡ Ok n → is_alignment n ≡ true
    go true is m = subst (λ (x : ℕ). is_alignment x ≡ true) (from_got k n m) (listed_is k is)
    go false is m = absurd cc

abbrev pub IsAlignment : ℕ → Type 0
IsAlignment n = is_alignment n ≡ true

pub alignment_token : {S : Type 0} (text : List ℕ) → All {S = S} IsAlignment (plain (alignment_of text))
alignment_token text = plain_all IsAlignment (alignment_of text) (λ n u e. go u n (is_kind kind.Integer u) e)
  where
    go : (u : Token) (n : ℕ) (b : Bool) → (if b then aligned (decimal 65536 (spelled text u)) else Err Syntax) ≡ Ok n → IsAlignment n
    go u n true e = aligned_is (decimal 65536 (spelled text u)) n e
    go u n false e = absurd cc

alignment_all : (text : List ℕ) → All IsAlignment (an_alignment text)
unfolding an_alignment
alignment_all text = skip_all IsAlignment (a_word text (codes "align")) (λ _. plain (alignment_of text)) (λ _. alignment_token text)

module _ (m : Meaning) (c : Counts) (a : Agrees m c) (role : Role) where
  -- ---- `alloca`

  record IsAlloca (r l : ℕ) (e : AllocaEnd) : Type 0 where
    pub count : count_formed (W m c a r l) e.count ≡ true
    pub align : alignment_formed e.align ≡ true
    pub mark : IsMark m.text role e.inserted

  stated_alignment_says : (e : AllocaEnd) → Says (λ r l x. IsAlloca r l e → IsAlloca r l x) (memory.stated_alignment m.text e)
  unfolding memory.stated_alignment
  stated_alignment_says e = then_says (λ r l. IsAlignment) (λ r l x. IsAlloca r l e → IsAlloca r l x) (lift (an_alignment m.text)) _ (lift_says IsAlignment (an_alignment m.text) (alignment_all m.text))
      (λ n. done_says (λ r l x. IsAlignment n → IsAlloca r l e → IsAlloca r l x) (record { counts = false; aligns = false; count = e.count; align = Some n; inserted = e.inserted }) (λ r l p k. record { count = k.count; align = p; mark = k.mark }))

  stated_count_says : (e : AllocaEnd) → Says (λ r l x. IsAlloca r l e → IsAlloca r l x) (memory.stated_count m e)
  unfolding memory.stated_count
  stated_count_says e = then_says (IsInteger m c a) (λ r l x. IsAlloca r l e → IsAlloca r l x) (sized_operand m) _ (sized_says m c a)
      (λ n. done_says (λ r l x. IsInteger m c a r l n → IsAlloca r l e → IsAlloca r l x) (record { counts = false; aligns = e.aligns; count = Some n; align = e.align; inserted = e.inserted }) (λ r l p k. record { count = p; align = k.align; mark = k.mark }))

  attachment_says : (e : AllocaEnd) → Says (λ r l x. IsAlloca r l e → IsAlloca r l x) (memory.alloca_attachment m.text role e)
  unfolding memory.alloca_attachment
  attachment_says e s t used y k =
      let d = k.in_back in (
        goes_on s k.between t (stays_as s k.between k.in_front.1) (stays_as k.between t d.2),
        λ r l z p. subst (IsAlloca r l) (sym d.1) (record { count = p.count; align = p.align; mark = attachment_all m.text role e.inserted p.mark tt tt k.front k.first k.in_front.0 }),
      )

  alloca_step_says : (e : AllocaEnd) → Says (λ r l x. IsAlloca r l e → IsAlloca r l x) (memory.alloca_step m role e)
  unfolding memory.alloca_step
  alloca_step_says e = skip_says (λ r l x. IsAlloca r l e → IsAlloca r l x) (a_sign m.text (codes ",")) _ (λ _. if_next_says (λ r l x. IsAlloca r l e → IsAlloca r l x) (memory.opens_alignment m.text e) (memory.stated_alignment m.text e) (memory.count_or_attachment m role e)
      (stated_alignment_says e) (if_next_says (λ r l x. IsAlloca r l e → IsAlloca r l x) (memory.opens_count e) (memory.stated_count m e) (memory.alloca_attachment m.text role e) (stated_count_says e) (attachment_says e)))

  starts : (r l : ℕ) → IsAlloca r l memory.alloca_start
  starts r l = record { count = refl; align = refl; mark = no_mark m.text role }

  alloca_says : Says (IsForm m c a role) (memory.alloca m role)
  unfolding memory.alloca
  alloca_says = then_says (IsSomeType m c a) (IsForm m c a role) (some_type m) _ (some_type_says m c a)
      (λ t. then_says (λ r l x. IsAlloca r l memory.alloca_start → IsAlloca r l x) (λ r l x. IsSomeType m c a r l t → IsForm m c a role r l x) (folded (is_comma m.text) (memory.alloca_step m role) memory.alloca_start) _
      (folded_says IsAlloca (is_comma m.text) (memory.alloca_step m role) alloca_step_says memory.alloca_start)
      (λ e. done_says (λ r l x. (IsAlloca r l memory.alloca_start → IsAlloca r l e) → IsSomeType m c a r l t → IsForm m c a role r l x) (op.Alloca t e.count e.align, e.inserted)
      (λ r l f g. let k = f (starts r l) in (rw (g, k.count, k.align) refl, k.mark))))

  -- ---- jumps

  ret_says : Says (IsOp m c a) (ret m)
  unfolding return_void return_value
  ret_says = if_next_says (IsOp m c a) (is_word m.text (codes "void")) (return_void m) (return_value m)
      (skip_says (IsOp m c a) (a_word m.text (codes "void")) _ (λ _. done_says (IsOp m c a) (op.Ret None) (λ r l. refl)))
      (then_says (IsSomeType m c a) (IsOp m c a) (some_type m) _ (some_type_says m c a) (λ t. then_says (IsOperand m c a t) (λ r l o. IsSomeType m c a r l t → IsOp m c a r l o) (an_operand m t) _ (operand_says m c a t)
      (λ x. done_says (λ r l o. IsOperand m c a t r l x → IsSomeType m c a r l t → IsOp m c a r l o) (op.Ret (Some (t, x))) (λ r l e f. rw (f, e) refl))))

  br_says : Says (IsOp m c a) (br m)
  unfolding branch branch_if
  br_says = if_next_says (IsOp m c a) (is_word m.text (codes "label")) (branch m) (branch_if m)
      (then_says IsLabel (IsOp m c a) (a_label m.text) _ (label_says m.text) (λ k. done_says (λ r l o. IsLabel r l k → IsOp m c a r l o) (op.Br k) (λ r l e. e)))
      (skip_says (IsOp m c a) (a_word m.text (codes "i1")) _ (λ _. then_says (IsOperand m c a (ty.Int 1)) (IsOp m c a) (an_operand m (ty.Int 1)) _ (operand_says m c a (ty.Int 1))
      (λ x. skip_says (λ r l o. IsOperand m c a (ty.Int 1) r l x → IsOp m c a r l o) (a_sign m.text (codes ",")) _
      (λ _. then_says IsLabel (λ r l o. IsOperand m c a (ty.Int 1) r l x → IsOp m c a r l o) (a_label m.text) _ (label_says m.text)
      (λ k. skip_says (λ r l o. IsLabel r l k → IsOperand m c a (ty.Int 1) r l x → IsOp m c a r l o) (a_sign m.text (codes ",")) _
      (λ _. then_says IsLabel (λ r l o. IsLabel r l k → IsOperand m c a (ty.Int 1) r l x → IsOp m c a r l o) (a_label m.text) _ (label_says m.text)
      (λ j. done_says (λ r l o. IsLabel r l j → IsLabel r l k → IsOperand m c a (ty.Int 1) r l x → IsOp m c a r l o) (op.CondBr x k j) (λ r l e f g. rw (g, f, e) refl))))))))

  abbrev IsCase : ℕ → ℕ → ℕ → ℕ × ℕ → Type 0
  IsCase w r l x = case_formed (W m c a r l) w x ≡ true

  case_says : (w : ℕ) → Says (IsCase w) (a_case m w)
  unfolding a_case
  case_says w = skip_says (IsCase w) (checked (plain (width_of m.text)) (same_width w)) _
      (λ _. then_says (λ r l n. is_below w n ≡ true) (IsCase w) (lift (plain (number_at m.text w))) _ (lift_says (λ n. is_below w n ≡ true) (plain (number_at m.text w)) (number_all m.text w))
      (λ n. skip_says (λ r l x. is_below w n ≡ true → IsCase w r l x) (a_sign m.text (codes ",")) _
      (λ _. then_says IsLabel (λ r l x. is_below w n ≡ true → IsCase w r l x) (a_label m.text) _ (label_says m.text)
      (λ k. done_says (λ r l x. IsLabel r l k → is_below w n ≡ true → IsCase w r l x) (n, k) (λ r l e f. rw (f, e) refl)))))

  more_case_says : (w : ℕ) → Says (λ r l. Maybe (IsCase w r l)) (more_case m w)
  unfolding no_case one_case
  more_case_says w = if_next_says (λ r l. Maybe (IsCase w r l)) (is_sign m.text (codes "]")) (no_case m) (one_case m w)
      (skip_says (λ r l. Maybe (IsCase w r l)) (a_sign m.text (codes "]")) _ (λ _. done_says (λ r l. Maybe (IsCase w r l)) None (λ r l. tt))) (some_says (IsCase w) (a_case m w) (case_says w))

  switch_says : Says (IsOp m c a) (switch m)
  unfolding switch
  switch_says = then_says (IsWidth m c a) (IsOp m c a) (a_width m) _ (width_says m c a) (λ w. then_says (IsOperand m c a (ty.Int w)) (λ r l o. IsWidth m c a r l w → IsOp m c a r l o) (an_operand m (ty.Int w)) _ (operand_says m c a (ty.Int w))
      (λ x. skip_says (λ r l o. IsOperand m c a (ty.Int w) r l x → IsWidth m c a r l w → IsOp m c a r l o) (a_sign m.text (codes ",")) _
      (λ _. then_says IsLabel (λ r l o. IsOperand m c a (ty.Int w) r l x → IsWidth m c a r l w → IsOp m c a r l o) (a_label m.text) _ (label_says m.text)
      (λ k. skip_says (λ r l o. IsLabel r l k → IsOperand m c a (ty.Int w) r l x → IsWidth m c a r l w → IsOp m c a r l o) (a_sign m.text (codes "[")) _
      (λ _. then_says (λ r l. Each (IsCase w r l)) (λ r l o. IsLabel r l k → IsOperand m c a (ty.Int w) r l x → IsWidth m c a r l w → IsOp m c a r l o) (repeat (more_case m w)) _ (repeat_says (IsCase w) (more_case m w) (more_case_says w))
      (λ all. done_says (λ r l o. Each (IsCase w r l) all → IsLabel r l k → IsOperand m c a (ty.Int w) r l x → IsWidth m c a r l w → IsOp m c a r l o) (op.Switch w x k all)
      (λ r l e f g h. rw (h, g, f, each_true (case_formed (W m c a r l) w) all e) refl)))))))

  -- ---- `phi`

  abbrev IsPair : Ty → ℕ → ℕ → Operand × ℕ → Type 0
  IsPair t r l x = pair_formed (W m c a r l) t x ≡ true

  pair_says : (t : Ty) → Says (IsPair t) (a_pair m t)
  unfolding a_pair
  pair_says t = skip_says (IsPair t) (a_sign m.text (codes "[")) _ (λ _. then_says (IsOperand m c a t) (IsPair t) (an_operand m t) _ (operand_says m c a t)
      (λ x. skip_says (λ r l y. IsOperand m c a t r l x → IsPair t r l y) (a_sign m.text (codes ",")) _
      (λ _. then_says IsLabel (λ r l y. IsOperand m c a t r l x → IsPair t r l y) (a_label_name m.text) _ (label_name_says m.text)
      (λ k. skip_says (λ r l y. IsLabel r l k → IsOperand m c a t r l x → IsPair t r l y) (a_sign m.text (codes "]")) _
      (λ _. done_says (λ r l y. IsLabel r l k → IsOperand m c a t r l x → IsPair t r l y) (x, k) (λ r l e f. rw (f, e) refl))))))

  phi_says : Says (IsForm m c a role) (phi m role)
  unfolding phi
  phi_says = then_says (IsSomeType m c a) (IsForm m c a role) (some_type m) _ (some_type_says m c a) (λ t. then_says (IsPair t) (λ r l x. IsSomeType m c a r l t → IsForm m c a role r l x) (a_pair m t) _ (pair_says t)
      (λ i. then_says (λ r l y. AreListed m.text role (IsPair t) (a_pair m t) (pair_says t) r l (record { items = i ∷ []; begun = false; inserted = false }) → AreListed m.text role (IsPair t) (a_pair m t) (pair_says t) r l y)
      (λ r l x. IsPair t r l i → IsSomeType m c a r l t → IsForm m c a role r l x)
      (listed m.text role (a_pair m t) (record { items = i ∷ []; begun = false; inserted = false })) _ (listed_says m.text role (IsPair t) (a_pair m t) (pair_says t) (record { items = i ∷ []; begun = false; inserted = false }))
      (λ all. done_says (λ r l x. (AreListed m.text role (IsPair t) (a_pair m t) (pair_says t) r l (record { items = i ∷ []; begun = false; inserted = false }) → AreListed m.text role (IsPair t) (a_pair m t) (pair_says t) r l all) → IsPair t r l i → IsSomeType m c a r l t → IsForm m c a role r l x)
      (op.Phi t all.items, all.inserted) (λ r l e f g. let k = e ((f, tt), no_mark m.text role) in (rw (g, each_true (pair_formed (W m c a r l) t) all.items k.0) refl, k.1)))))

  -- ---- whole instructions

  abbrev pub IsInstr : ℕ → ℕ → Instr → Type 0
  IsInstr r l i = (instr_formed (W m c a r l) i ≡ true) × IsMark m.text role i.inserted

  giver_says : (g : Giver) → Says (IsForm m c a role) (giver_form m role g)
  giver_says (giver.Binary b) = ended_says m c a role false (binary m b) (binary_says m c a b)
  giver_says (giver.Cast k) = ended_says m c a role false (cast_form m k) (cast_says m c a k)
  giver_says giver.Compare = ended_says m c a role false (compare m) (compare_says m c a)
  giver_says giver.Freeze = ended_says m c a role false (freeze m) (freeze_says m c a)
  giver_says giver.Select = ended_says m c a role false (select m) (select_says m c a)
  giver_says giver.Phi = phi_says
  giver_says giver.Alloca = alloca_says
  giver_says giver.Load = ended_says m c a role true (memory.load m) (load_says m c a)
  giver_says giver.Address = address_says m c a role

  unreachable_says : Says (IsForm m c a role) (finish m.text role false op.Unreachable)
  unreachable_says s t used x k = let y = finish_says m c a role false op.Unreachable s t used x k in (y.0, λ r l z. y.1 r l z refl)

  action_says : (g : Action) → Says (IsForm m c a role) (action_form m role g)
  action_says action.Store = ended_says m c a role true (memory.store m) (store_says m c a)
  action_says action.Br = ended_says m c a role false (br m) br_says
  action_says action.Switch = ended_says m c a role false (switch m) switch_says
  action_says action.Ret = ended_says m c a role false (ret m) ret_says
  action_says action.Unreachable = unreachable_says

  -- a result that was written has its number already
  Given : Option ℕ → ℕ → ℕ → Type 0
  Given None r l = Unit {0}
  Given (Some k) r l = IsRegister r l k

  result_says : (o : Option ℕ) → Says (λ r l k. Given o r l → IsRegister r l k) (result_of o)
  unfolding Given
  result_says (Some k) = done_says (λ r l j. IsRegister r l k → IsRegister r l j) k (λ r l e. e)
  result_says None = λ s t used k h. let x = no_name_says s t used k h in (x.0, λ r l z e. x.1 r l z)

  giving_says : (o : Option ℕ) (g : Giver) → Says (λ r l i. Given o r l → IsInstr r l i) (giving m role o g)
  unfolding giving
  giving_says o g = then_says (λ r l k. Given o r l → IsRegister r l k) (λ r l i. Given o r l → IsInstr r l i) (result_of o) _ (result_says o)
      (λ k. then_says (IsForm m c a role) (λ r l i. (Given o r l → IsRegister r l k) → Given o r l → IsInstr r l i) (giver_form m role g) _ (giver_says g)
      (λ x. done_says (λ r l i. IsForm m c a role r l x → (Given o r l → IsRegister r l k) → Given o r l → IsInstr r l i) (record { result = Some k; inserted = x.1; op = x.0 }) (λ r l e f h. (rw (f h, e.0) refl, e.1))))

  acting_says : (g : Action) → Says IsInstr (acting m role g)
  unfolding acting
  acting_says g = then_says (IsForm m c a role) IsInstr (action_form m role g) _ (action_says g) (λ x. done_says (λ r l i. IsForm m c a role r l x → IsInstr r l i) (record { result = None; inserted = x.1; op = x.0 }) (λ r l e. (rw e.0 refl, e.1)))

  -- ---- calls

  behind_says_ : {A : Type 0} (P : ℕ → ℕ → A → Type 0) (p : Rule Locals A) → Says P p → Says P (behind_attributes m.text p)
  behind_says_ P p h = ahead_says anything P (all_go_on m.text) (lift (all_attributes m.text)) (λ all. p) (lift_any (all_attributes m.text)) (λ all s t used x k. let y = h s t used x k in (y.0, λ r l z e. y.1 r l z))

  abbrev IsValue : ℕ → ℕ → Ty × Operand → Type 0
  IsValue r l x = value_formed (W m c a r l) x ≡ true

  argument_says : Says IsValue (an_argument m)
  unfolding an_argument
  argument_says = then_says (IsSomeType m c a) IsValue (some_type m) _ (some_type_says m c a)
      (λ t. then_says (IsOperand m c a t) (λ r l x. IsSomeType m c a r l t → IsValue r l x) (behind_attributes m.text (an_operand m t)) _ (behind_says_ (IsOperand m c a t) (an_operand m t) (operand_says m c a t))
      (λ o. done_says (λ r l x. IsOperand m c a t r l o → IsSomeType m c a r l t → IsValue r l x) (t, o) (λ r l e f. rw (f, e) refl)))

  abbrev IsResult : Ty → Type 0
  IsResult t = result_formed (length c.types) t ≡ true

  parts_say : (t : Ty) (o : Option ℕ) → Says (λ r l i. IsResult t → (register_formed (W m c a r l) o ≡ true) → IsInstr r l i) (call_parts m role t o)
  unfolding call_parts
  parts_say t o = then_says (IsOperand m c a ty.Ptr) (λ r l i. IsResult t → (register_formed (W m c a r l) o ≡ true) → IsInstr r l i) (an_operand m ty.Ptr) _ (operand_says m c a ty.Ptr)
      (λ f. skip_says (λ r l i. IsOperand m c a ty.Ptr r l f → IsResult t → (register_formed (W m c a r l) o ≡ true) → IsInstr r l i) (a_sign m.text (codes "(")) _
      (λ _. then_says (λ r l. Each (IsValue r l)) (λ r l i. IsOperand m c a ty.Ptr r l f → IsResult t → (register_formed (W m c a r l) o ≡ true) → IsInstr r l i) (items m.text (codes ")") (an_argument m)) _ (items_say IsValue m.text (codes ")") (an_argument m) argument_says)
      (λ all. skip_says (λ r l i. Each (IsValue r l) all → IsOperand m c a ty.Ptr r l f → IsResult t → (register_formed (W m c a r l) o ≡ true) → IsInstr r l i) (skip_attributes m.text) _
      (λ _. then_says (λ r l. IsMark m.text role) (λ r l i. Each (IsValue r l) all → IsOperand m c a ty.Ptr r l f → IsResult t → (register_formed (W m c a r l) o ≡ true) → IsInstr r l i) (lift (end_mark m.text role false)) _ (lift_says (IsMark m.text role) (end_mark m.text role false) (end_mark_all m.text role false))
      (λ b. done_says (λ r l i. IsMark m.text role b → Each (IsValue r l) all → IsOperand m c a ty.Ptr r l f → IsResult t → (register_formed (W m c a r l) o ≡ true) → IsInstr r l i) (record { result = o; inserted = b; op = op.Call t f all })
      (λ r l e g h is k. (rw (k, is, h, each_true (value_formed (W m c a r l)) all g) refl, e)))))))

  void_result : IsResult ty.Void
  void_result = go (is_void ty.Void) (ap void_step (ap out-Ty (sym rolls-Void) ∙ out-roll-Ty Ty-F.Void))
    where
      go : (b : Bool) → b ≡ true → (b || type_formed (length c.types) ty.Void) ≡ true
      go true e = refl
      go false e = absurd cc

  type_result : (t : Ty) → type_formed (length c.types) t ≡ true → IsResult t
  type_result t e = go (is_void t)
    where
      go : (b : Bool) → (b || type_formed (length c.types) t) ≡ true
      go true = refl
      go false = e

  void_says : (o : Option ℕ) → Says (λ r l i. Given o r l → IsInstr r l i) (void_call m role o)
  unfolding void_call
  void_says o = skip_says (λ r l i. Given o r l → IsInstr r l i) (plain (void_of m.text (is_some o))) (λ _. call_parts m role ty.Void None)
      (λ _ s t used i k. let x = parts_say ty.Void None s t used i k in (x.0, λ r l z e. x.1 r l z void_result refl))

  typed_says : (o : Option ℕ) → Says (λ r l i. Given o r l → IsInstr r l i) (typed_call m role o)
  unfolding typed_call
  typed_says o = then_says (IsSomeType m c a) (λ r l i. Given o r l → IsInstr r l i) (some_type m) _ (some_type_says m c a)
      (λ t. then_says (λ r l k. Given o r l → IsRegister r l k) (λ r l i. IsSomeType m c a r l t → Given o r l → IsInstr r l i) (result_of o) _ (result_says o)
      (λ k. then_says (λ r l i. IsResult t → (register_formed (W m c a r l) (Some k) ≡ true) → IsInstr r l i) (λ r l i. (Given o r l → IsRegister r l k) → IsSomeType m c a r l t → Given o r l → IsInstr r l i) (call_parts m role t (Some k)) _ (parts_say t (Some k))
      (λ x. done_says (λ r l i. (IsResult t → (register_formed (W m c a r l) (Some k) ≡ true) → IsInstr r l x) → (Given o r l → IsRegister r l k) → IsSomeType m c a r l t → Given o r l → IsInstr r l i) x (λ r l e f g h. e (type_result t g) (f h)))))

  call_says : (o : Option ℕ) → Says (λ r l i. Given o r l → IsInstr r l i) (call_form m role o)
  call_says o = behind_says_ (λ r l i. Given o r l → IsInstr r l i) (call_type m role o) (if_next_says (λ r l i. Given o r l → IsInstr r l i) (is_word m.text (codes "void")) (void_call m role o) (typed_call m role o) (void_says o) (typed_says o))

  after_says : (o : Option ℕ) (h : InstrHead) → Says (λ r l i. Given o r l → IsInstr r l i) (after_instr_head m role o h)
  unfolding tail_call
  after_says o (head.Gives g) = giving_says o g
  after_says o head.Call = call_says o
  after_says o head.TailCall = skip_says (λ r l i. Given o r l → IsInstr r l i) (a_word m.text (codes "call")) (λ _. call_form m role o) (λ _. call_says o)
  after_says o (head.Acts g) = λ s t used i k. let x = acting_says g s t used i k in (x.0, λ r l z e. x.1 r l z)

  body_says : (o : Option ℕ) → Says (λ r l i. Given o r l → IsInstr r l i) (instr_body m role o)
  unfolding instr_body
  body_says o = skip_says (λ r l i. Given o r l → IsInstr r l i) (plain (instr_head m.text (is_some o))) (after_instr_head m role o) (λ h. after_says o h)

  named_says : Says IsInstr (named_instr m role)
  unfolding named_instr Given
  named_says = then_says IsRegister IsInstr (a_definition m.text) _ (definition_says m.text) (λ k. skip_says (λ r l i. IsRegister r l k → IsInstr r l i) (a_sign m.text (codes "=")) _
      (λ _. then_says (λ r l i. Given (Some k) r l → IsInstr r l i) (λ r l i. IsRegister r l k → IsInstr r l i) (instr_body m role (Some k)) _ (body_says (Some k))
      (λ x. done_says (λ r l i. (IsRegister r l k → IsInstr r l x) → IsRegister r l k → IsInstr r l i) x (λ r l e. e))))

  unnamed_says : Says IsInstr (instr_body m role None)
  unfolding Given
  unnamed_says s t used i k = let x = body_says None s t used i k in (x.0, λ r l z. x.1 r l z tt)

  pub instr_says : Says IsInstr (an_instr m role)
  unfolding an_instr
  instr_says = if_next_says IsInstr (is_kind kind.Local) (named_instr m role) (instr_body m role None) named_says unnamed_says
