-- The laws of instructions.
use Rattle.std.proofs.Common.{◌≡◌, ℕ, true, false, List, Option, Some, None, is_some}
use Rattle.no_lex.specs.declared.token.Token.{Token}
use Rattle.no_lex.specs.declared.token.TokenKind.TheVariants.{Local}
use Rattle.no_ir.specs.declared.function.Role.{Role}
use Rattle.no_ir.specs.declared.instruction.Op.TheVariants as op
use Rattle.no_ir.specs.declared.instruction.Instr.{Instr}
use Rattle.no_read_rules.specs.Rules.{plain, none, Good, IsSolid}
use Rattle.no_read_rules.specs.Scope.{Meaning}
use Rattle.no_read_rules.specs.Spelled.{is_kind}
use Rattle.no_read_rules.proofs.Laws.{once, plain_good, plain_solid, lift_good, lift_solid, then_good, first_solid, if_next_good}
use Rattle.no_read_registers.specs.declared.locals.Locals.{Locals}
use Rattle.no_read_registers.proofs.LocalLaws.{definition_good, definition_solid}
use Rattle.no_read_operations.specs.Ends.{is_comma}
use Rattle.no_read_operations.proofs.FoldedLaws.{last_good}
use Rattle.no_read_operations.proofs.FormLaws.{word_good, sign_good, finish_good, ended_good, binary_good, cast_good, compare_good, freeze_good, select_good, load_good, store_good, address_good, alloca_good, ret_good, br_good, switch_good, phi_good}
use Rattle.no_read_instructions.specs.Heads.{instr_head}
use Rattle.no_read_instructions.specs.Instructions.{giver_form, action_form, giving, acting, tail_call, after_instr_head, instr_body, named_instr, an_instr, instr_goes_on}
use Rattle.no_read_instructions.specs.declared.heads.Giver.{Giver}
use Rattle.no_read_instructions.specs.declared.heads.Giver.TheVariants as giver
use Rattle.no_read_instructions.specs.declared.heads.Action.{Action}
use Rattle.no_read_instructions.specs.declared.heads.Action.TheVariants as action
use Rattle.no_read_instructions.specs.declared.heads.InstrHead.{InstrHead}
use Rattle.no_read_instructions.specs.declared.heads.InstrHead.TheVariants as head
use Rattle.no_read_instructions.proofs.CallLaws.{widen, comma_less, result_good, call_good}

giver_good : (m : Meaning) (role : Role) (g : Giver) → Good (is_comma m.text) (giver_form m role g)
giver_good m role (giver.Binary b) = ended_good m.text role false _ (binary_good m b)
giver_good m role (giver.Cast c) = ended_good m.text role false _ (cast_good m c)
giver_good m role giver.Compare = ended_good m.text role false _ (compare_good m)
giver_good m role giver.Freeze = ended_good m.text role false _ (freeze_good m)
giver_good m role giver.Select = ended_good m.text role false _ (select_good m)
giver_good m role giver.Phi = phi_good m role
giver_good m role giver.Alloca = alloca_good m role
giver_good m role giver.Load = ended_good m.text role true _ (load_good m)
giver_good m role giver.Address = address_good m role

action_good : (m : Meaning) (role : Role) (a : Action) → Good (is_comma m.text) (action_form m role a)
action_good m role action.Store = ended_good m.text role true _ (store_good m)
action_good m role action.Br = ended_good m.text role false _ (br_good m)
action_good m role action.Switch = ended_good m.text role false _ (switch_good m)
action_good m role action.Ret = ended_good m.text role false _ (ret_good m)
action_good m role action.Unreachable = finish_good m.text role false op.Unreachable

giving_good : (m : Meaning) (role : Role) (written : Option ℕ) (g : Giver) → Good (instr_goes_on m.text) (giving m role written g)
unfolding giving
giving_good m role written g = widen (is_comma m.text) _ _ (comma_less m.text) (then_good (is_comma m.text) _ _ (result_good written) (λ register. last_good (is_comma m.text) _ _ (giver_good m role g)))

acting_good : (m : Meaning) (role : Role) (a : Action) → Good (instr_goes_on m.text) (acting m role a)
unfolding acting
acting_good m role a = widen (is_comma m.text) _ _ (comma_less m.text) (last_good (is_comma m.text) _ _ (action_good m role a))

tail_good : (m : Meaning) (role : Role) (written : Option ℕ) → Good (instr_goes_on m.text) (tail_call m role written)
unfolding tail_call
tail_good m role written = then_good _ _ _ (word_good _ _) (λ _. call_good m role written)

after_good : (m : Meaning) (role : Role) (written : Option ℕ) (h : InstrHead) → Good (instr_goes_on m.text) (after_instr_head m role written h)
after_good m role written (head.Gives g) = giving_good m role written g
after_good m role written head.Call = call_good m role written
after_good m role written head.TailCall = tail_good m role written
after_good m role written (head.Acts a) = acting_good m role a

body_good : (m : Meaning) (role : Role) (written : Option ℕ) → Good (instr_goes_on m.text) (instr_body m role written)
unfolding instr_body
body_good m role written = then_good _ _ _ (lift_good none _ (plain_good _)) (after_good m role written)

pub body_solid : (m : Meaning) (role : Role) (written : Option ℕ) → IsSolid (instr_body m role written)
unfolding instr_body
body_solid m role written = first_solid _ _ (lift_solid (plain (instr_head m.text (is_some written))) (plain_solid (instr_head m.text (is_some written))))

named_good : (m : Meaning) (role : Role) → Good (instr_goes_on m.text) (named_instr m role)
unfolding named_instr
named_good m role = then_good _ _ _ (definition_good m.text) (λ register. then_good _ _ _ (sign_good _ _) (λ _. last_good (instr_goes_on m.text) (instr_body m role (Some register)) (λ i. i) (body_good m role (Some register))))

named_solid : (m : Meaning) (role : Role) → IsSolid (named_instr m role)
unfolding named_instr
named_solid m role = first_solid _ _ (definition_solid m.text)

pub instr_good : (m : Meaning) (role : Role) → Good (instr_goes_on m.text) (an_instr m role)
unfolding an_instr
instr_good m role = if_next_good _ (is_kind Local) _ _ (named_good m role) (body_good m role None) (named_solid m role) (body_solid m role None)

-- at most one instruction is read
pub one_instr : (m : Meaning) (role : Role) (s t u : Locals) (tokens : List Token) (a b : Instr) → (an_instr m role).means s tokens a t → (an_instr m role).means s tokens b u → a ≡ b
one_instr m role s t u tokens a b x y = once (instr_goes_on m.text) (an_instr m role) (instr_good m role) s t u tokens a b x y
