-- Texts that begin alike are read alike: calls and whole instructions.
use Rattle.std.proofs.Common.{◌≡◌, ℕ, Bool, true, false, codes, Option, Some, None, refl}
use Rattle.std.specs.Prelude.{is_some}
use Rattle.no_lex.specs.declared.token.Token.{Token}
use Rattle.no_lex.specs.declared.token.TokenKind.TheVariants as kind
use Rattle.no_ir.specs.declared.function.Role.{Role}
use Rattle.no_ir.specs.declared.types.Ty.{Ty}
use Rattle.no_ir.specs.declared.types.Ty.TheVariants as ty
use Rattle.no_ir.specs.declared.instruction.Op.TheVariants as op
use Rattle.no_read_rules.specs.Rules.{Rule}
use Rattle.no_read_rules.specs.Scope.{Meaning}
use Rattle.no_read_attributes.specs.Attributes.{all_go_on}
use Rattle.no_read_registers.specs.declared.locals.Locals.{Locals}
use Rattle.no_read_registers.specs.Numbered.{a_definition, written_register, register_unnamed}
use Rattle.no_read_operations.specs.Operands.{an_operand}
use Rattle.no_read_instructions.specs.declared.heads.Giver.{Giver}
use Rattle.no_read_instructions.specs.declared.heads.Giver.TheVariants as giver
use Rattle.no_read_instructions.specs.declared.heads.Action.{Action}
use Rattle.no_read_instructions.specs.declared.heads.Action.TheVariants as action
use Rattle.no_read_instructions.specs.declared.heads.InstrHead.{InstrHead}
use Rattle.no_read_instructions.specs.declared.heads.InstrHead.TheVariants as head
use Rattle.no_read_instructions.specs.Heads.{instr_head}
use Rattle.no_read_instructions.specs.Calls.{result_of, behind_attributes, an_argument, call_parts, void_of, void_call, typed_call, call_form}
use Rattle.no_read_instructions.specs.Instructions.{giver_form, action_form, giving, acting, tail_call, after_instr_head, instr_body, named_instr, an_instr}
use Rattle.no_fault_places.specs.Alike.{IsAlike}
use Rattle.no_fault_places.proofs.Alike.{Same, Any, Alike, one_same, plain_same, done_any, done_same, change_same, if_next_alike, lift_alike, then_same, then_any, any_alike}
use Rattle.no_fault_places.proofs.AlikeLists.{kind_alike, word_alike, items_alike, ahead_any}
use Rattle.no_fault_places.proofs.AlikeAttributes.{all_alike, skip_alike}
use Rattle.no_fault_places.proofs.AlikeConstants.{Typing, then_kept}
use Rattle.no_fault_places.proofs.AlikeForms.{the_word_alike, the_sign_alike, end_mark_alike, finish_alike, ended_alike, some_type_alike, operand_alike, binary_alike, cast_alike, compare_alike, freeze_alike, select_alike, load_alike, store_alike, address_alike, alloca_alike, ret_alike, br_alike, switch_alike, phi_alike}

result_alike : {here there : Meaning} (written : Option ℕ) → Alike here there Same (result_of written) (result_of written)
result_alike (Some register) = done_same register
result_alike None = change_same register_unnamed

pub definition_alike : {here there : Meaning} → Alike here there Same (a_definition here.text) (a_definition there.text)
definition_alike {here = here} {there = there} = one_same (written_register here.text) (written_register there.text) (λ s t u k. rw (k.kind, k.spelling) refl)

module _ (here there : Meaning) (typing : Typing here there) (role : Role) where
  -- ---- calls

  behind_alike : {A : Type 0} {R : A → A → Type 0} (p q : Rule Locals A) → Alike here there R p q → Alike here there R (behind_attributes here.text p) (behind_attributes there.text q)
  behind_alike p q h = ahead_any (all_go_on here.text) (all_go_on there.text) _ _ (λ _. p) (λ _. q) (lift_alike _ _ (all_alike here there)) (λ a b. h)

  argument_alike : Alike here there Any (an_argument here) (an_argument there)
  unfolding an_argument
  argument_alike = then_kept _ _ _ _ (some_type_alike here there typing) (λ of k. then_any _ _ _ _ (behind_alike (an_operand here of) (an_operand there of) (operand_alike here there typing of k)) (λ _ _. done_any _ _))

  call_parts_alike : (of : Ty) (register : Option ℕ) → Alike here there Any (call_parts here role of register) (call_parts there role of register)
  unfolding call_parts
  call_parts_alike of register = then_any _ _ _ _ (operand_alike here there typing ty.Ptr typing.ptr) (λ _ _. then_same _ _ _ _ (the_sign_alike (codes "(")) (λ _.
      then_any _ _ _ _ (any_alike _ _ (items_alike (codes ")") (an_argument here) (an_argument there) argument_alike)) (λ _ _. then_any _ _ _ _ (lift_alike _ _ (skip_alike here there)) (λ _ _.
      then_any _ _ _ _ (lift_alike _ _ (end_mark_alike here there role false)) (λ _ _. done_any _ _)))))

  void_of_alike : (written : Bool) (t u : Token) → IsAlike here there t u → void_of there.text written u ≡ void_of here.text written t
  void_of_alike written t u k = rw (word_alike (codes "void") t u k) refl

  void_call_alike : (register : Option ℕ) → Alike here there Any (void_call here role register) (void_call there role register)
  unfolding void_call
  void_call_alike register = then_same _ _ _ _ (lift_alike _ _ (plain_same (void_of here.text (is_some register)) (void_of there.text (is_some register)) (void_of_alike (is_some register)))) (λ _. call_parts_alike ty.Void None)

  typed_call_alike : (register : Option ℕ) → Alike here there Any (typed_call here role register) (typed_call there role register)
  unfolding typed_call
  typed_call_alike register = then_kept _ _ _ _ (some_type_alike here there typing) (λ of k. then_same _ _ _ _ (result_alike register) (λ result. then_any _ _ _ _ (call_parts_alike of (Some result)) (λ a b. done_any _ _)))

  call_alike : (register : Option ℕ) → Alike here there Any (call_form here role register) (call_form there role register)
  call_alike register = behind_alike _ _ (if_next_alike _ _ _ _ _ _ (word_alike (codes "void")) (void_call_alike register) (typed_call_alike register))

  -- ---- instructions

  giver_alike : (g : Giver) → Alike here there Any (giver_form here role g) (giver_form there role g)
  giver_alike (giver.Binary b) = ended_alike here there role false _ _ (binary_alike here there typing b)
  giver_alike (giver.Cast c) = ended_alike here there role false _ _ (cast_alike here there typing c)
  giver_alike giver.Compare = ended_alike here there role false _ _ (compare_alike here there typing)
  giver_alike giver.Freeze = ended_alike here there role false _ _ (freeze_alike here there typing)
  giver_alike giver.Select = ended_alike here there role false _ _ (select_alike here there typing)
  giver_alike giver.Phi = phi_alike here there typing role
  giver_alike giver.Alloca = alloca_alike here there typing role
  giver_alike giver.Load = ended_alike here there role true _ _ (load_alike here there typing)
  giver_alike giver.Address = address_alike here there typing role

  action_alike : (a : Action) → Alike here there Any (action_form here role a) (action_form there role a)
  action_alike action.Store = ended_alike here there role true _ _ (store_alike here there typing)
  action_alike action.Br = ended_alike here there role false _ _ (br_alike here there typing)
  action_alike action.Switch = ended_alike here there role false _ _ (switch_alike here there typing)
  action_alike action.Ret = ended_alike here there role false _ _ (ret_alike here there typing)
  action_alike action.Unreachable = finish_alike here there role false op.Unreachable op.Unreachable

  giving_alike : (written : Option ℕ) (g : Giver) → Alike here there Any (giving here role written g) (giving there role written g)
  unfolding giving
  giving_alike written g = then_same _ _ _ _ (result_alike written) (λ register. then_any _ _ _ _ (giver_alike g) (λ _ _. done_any _ _))

  acting_alike : (a : Action) → Alike here there Any (acting here role a) (acting there role a)
  unfolding acting
  acting_alike a = then_any _ _ _ _ (action_alike a) (λ _ _. done_any _ _)

  tail_alike : (written : Option ℕ) → Alike here there Any (tail_call here role written) (tail_call there role written)
  unfolding tail_call
  tail_alike written = then_same _ _ _ _ (the_word_alike (codes "call")) (λ _. call_alike written)

  head_alike : (written : Option ℕ) (h : InstrHead) → Alike here there Any (after_instr_head here role written h) (after_instr_head there role written h)
  head_alike written (head.Gives g) = giving_alike written g
  head_alike written head.Call = call_alike written
  head_alike written head.TailCall = tail_alike written
  head_alike written (head.Acts a) = acting_alike a

  body_alike : (written : Option ℕ) → Alike here there Any (instr_body here role written) (instr_body there role written)
  unfolding instr_body
  body_alike written = then_same _ _ _ _ (lift_alike _ _ (plain_same (instr_head here.text (is_some written)) (instr_head there.text (is_some written)) (λ t u k. rw (k.kind, k.spelling) refl))) (head_alike written)

  named_alike : Alike here there Any (named_instr here role) (named_instr there role)
  unfolding named_instr
  named_alike = then_same _ _ _ _ definition_alike (λ register. then_same _ _ _ _ (the_sign_alike (codes "=")) (λ _. then_any _ _ _ _ (body_alike (Some register)) (λ _ _. done_any _ _)))

  pub instr_alike : Alike here there Any (an_instr here role) (an_instr there role)
  unfolding an_instr
  instr_alike = if_next_alike _ _ _ _ _ _ (kind_alike kind.Local) named_alike (body_alike None)
