-- Reading is decided by a prefix: calls and whole instructions.
use Rattle.std.proofs.Common.{ℕ, true, false, codes, Option, Some, None}
use Rattle.std.specs.Prelude.{is_some}
use Rattle.no_lex.specs.declared.token.TokenKind.TheVariants.{Local}
use Rattle.no_ir.specs.declared.function.Role.{Role}
use Rattle.no_ir.specs.declared.types.Ty.{Ty}
use Rattle.no_ir.specs.declared.types.Ty.TheVariants as ty
use Rattle.no_ir.specs.declared.instruction.Op.TheVariants as op
use Rattle.no_read_rules.specs.Rules.{Rule}
use Rattle.no_read_rules.specs.Scope.{Meaning}
use Rattle.no_read_rules.specs.Spelled.{is_kind, is_word}
use Rattle.no_read_attributes.specs.Attributes.{all_go_on}
use Rattle.no_read_registers.specs.declared.locals.Locals.{Locals}
use Rattle.no_read_registers.specs.Numbered.{written_register, register_unnamed}
use Rattle.no_read_operations.specs.Operands.{an_operand}
use Rattle.no_read_instructions.specs.declared.heads.Giver.{Giver}
use Rattle.no_read_instructions.specs.declared.heads.Giver.TheVariants as giver
use Rattle.no_read_instructions.specs.declared.heads.Action.{Action}
use Rattle.no_read_instructions.specs.declared.heads.Action.TheVariants as action
use Rattle.no_read_instructions.specs.declared.heads.InstrHead.{InstrHead}
use Rattle.no_read_instructions.specs.declared.heads.InstrHead.TheVariants as head
use Rattle.no_read_instructions.specs.Heads.{instr_head}
use Rattle.no_read_instructions.specs.Calls.{result_of, behind_attributes, an_argument, call_parts, void_call, typed_call, call_type, call_form}
use Rattle.no_read_instructions.specs.Instructions.{giver_form, action_form, giving, acting, tail_call, after_instr_head, instr_body, named_instr, an_instr}
use Rattle.no_fault_places.specs.Prefixes.{Steady, Eats}
use Rattle.no_fault_places.proofs.Prefix.{one_steady, plain_steady, done_steady, change_steady, lift_steady, if_next_steady, then_steady, one_eats, plain_eats, lift_eats, then_eats, if_next_eats}
use Rattle.no_fault_places.proofs.Lists.{items_steady}
use Rattle.no_fault_places.proofs.Attributes.{ahead_steady, all_steady, skip_steady}
use Rattle.no_fault_places.proofs.Forms.{word_steady, sign_steady, end_mark_steady, finish_steady, ended_steady, some_type_steady, operand_steady, binary_steady, cast_steady, compare_steady, freeze_steady, select_steady, load_steady, store_steady, address_steady, alloca_steady, ret_steady, br_steady, switch_steady, phi_steady}

result_steady : (written : Option ℕ) → Steady (result_of written)
result_steady (Some register) = done_steady register
result_steady None = change_steady register_unnamed

module _ (m : Meaning) (role : Role) where
  -- ---- calls

  behind_steady : {A : Type 0} (p : Rule Locals A) → Steady p → Steady (behind_attributes m.text p)
  behind_steady p h = ahead_steady (all_go_on m.text) _ (λ all. p) (lift_steady _ (all_steady m.text)) (λ all. h)

  argument_steady : Steady (an_argument m)
  unfolding an_argument
  argument_steady = then_steady _ _ (some_type_steady m) (λ of. then_steady _ _ (behind_steady (an_operand m of) (operand_steady m of)) (λ value. done_steady _))

  call_parts_steady : (of : Ty) (register : Option ℕ) → Steady (call_parts m role of register)
  unfolding call_parts
  call_parts_steady of register = then_steady _ _ (operand_steady m ty.Ptr) (λ callee. then_steady _ _ (sign_steady _ _) (λ _. then_steady _ _ (items_steady m.text (codes ")") (an_argument m) argument_steady) (λ arguments.
      then_steady _ _ (lift_steady _ (skip_steady m.text)) (λ _. then_steady _ _ (lift_steady _ (end_mark_steady m.text role false)) (λ inserted. done_steady _)))))

  void_call_steady : (register : Option ℕ) → Steady (void_call m role register)
  unfolding void_call
  void_call_steady register = then_steady _ _ (lift_steady _ (plain_steady _)) (λ _. call_parts_steady ty.Void None)

  typed_call_steady : (register : Option ℕ) → Steady (typed_call m role register)
  unfolding typed_call
  typed_call_steady register = then_steady _ _ (some_type_steady m) (λ of. then_steady _ _ (result_steady register) (λ result. then_steady _ _ (call_parts_steady of (Some result)) (λ call. done_steady call)))

  call_steady : (register : Option ℕ) → Steady (call_form m role register)
  call_steady register = behind_steady (call_type m role register) (if_next_steady (is_word m.text (codes "void")) _ _ (void_call_steady register) (typed_call_steady register))

  -- ---- instructions

  giver_steady : (g : Giver) → Steady (giver_form m role g)
  giver_steady (giver.Binary b) = ended_steady m.text role false _ (binary_steady m b)
  giver_steady (giver.Cast c) = ended_steady m.text role false _ (cast_steady m c)
  giver_steady giver.Compare = ended_steady m.text role false _ (compare_steady m)
  giver_steady giver.Freeze = ended_steady m.text role false _ (freeze_steady m)
  giver_steady giver.Select = ended_steady m.text role false _ (select_steady m)
  giver_steady giver.Phi = phi_steady m role
  giver_steady giver.Alloca = alloca_steady m role
  giver_steady giver.Load = ended_steady m.text role true _ (load_steady m)
  giver_steady giver.Address = address_steady m role

  action_steady : (a : Action) → Steady (action_form m role a)
  action_steady action.Store = ended_steady m.text role true _ (store_steady m)
  action_steady action.Br = ended_steady m.text role false _ (br_steady m)
  action_steady action.Switch = ended_steady m.text role false _ (switch_steady m)
  action_steady action.Ret = ended_steady m.text role false _ (ret_steady m)
  action_steady action.Unreachable = finish_steady m.text role false op.Unreachable

  giving_steady : (written : Option ℕ) (g : Giver) → Steady (giving m role written g)
  unfolding giving
  giving_steady written g = then_steady _ _ (result_steady written) (λ register. then_steady _ _ (giver_steady g) (λ form. done_steady _))

  acting_steady : (a : Action) → Steady (acting m role a)
  unfolding acting
  acting_steady a = then_steady _ _ (action_steady a) (λ form. done_steady _)

  tail_steady : (written : Option ℕ) → Steady (tail_call m role written)
  unfolding tail_call
  tail_steady written = then_steady _ _ (word_steady _ _) (λ _. call_steady written)

  head_steady : (written : Option ℕ) (h : InstrHead) → Steady (after_instr_head m role written h)
  head_steady written (head.Gives g) = giving_steady written g
  head_steady written head.Call = call_steady written
  head_steady written head.TailCall = tail_steady written
  head_steady written (head.Acts a) = acting_steady a

  body_steady : (written : Option ℕ) → Steady (instr_body m role written)
  unfolding instr_body
  body_steady written = then_steady _ _ (lift_steady _ (plain_steady _)) (head_steady written)

  body_eats : (written : Option ℕ) → Eats (instr_body m role written)
  unfolding instr_body
  body_eats written = then_eats _ _ (lift_eats _ (plain_eats (instr_head m.text (is_some written)))) (head_steady written)

  named_steady : Steady (named_instr m role)
  unfolding named_instr
  named_steady = then_steady _ _ (one_steady _) (λ register. then_steady _ _ (sign_steady _ _) (λ _. then_steady _ _ (body_steady (Some register)) (λ instr. done_steady instr)))

  named_eats : Eats (named_instr m role)
  unfolding named_instr
  named_eats = then_eats _ _ (one_eats (written_register m.text)) (λ register. then_steady _ _ (sign_steady _ _) (λ _. then_steady _ _ (body_steady (Some register)) (λ instr. done_steady instr)))

  pub instr_steady : Steady (an_instr m role)
  unfolding an_instr
  instr_steady = if_next_steady (is_kind Local) _ _ named_steady (body_steady None)

  pub instr_eats : Eats (an_instr m role)
  unfolding an_instr
  instr_eats = if_next_eats (is_kind Local) _ _ named_eats (body_eats None)
