-- Whole instructions (LLVM Language Reference, "Instruction Reference").
use Rattle.std.specs.Prelude.{ℕ, Bool, true, false, ◌||◌, List, codes, Option, Some, None, is_some}
use Rattle.no_lex.specs.declared.token.Token.{Token}
use Rattle.no_lex.specs.declared.token.TokenKind.TheVariants.{Local}
use Rattle.no_ir.specs.declared.function.Role.{Role}
use Rattle.no_ir.specs.declared.instruction.Instr.{Instr}
use Rattle.no_ir.specs.declared.instruction.Op.{Op}
use Rattle.no_ir.specs.declared.instruction.Op.TheVariants as op
use Rattle.no_read_rules.specs.Rules.{Rule, plain, done, ◌>>=◌, lift, if_next}
use Rattle.no_read_rules.specs.Scope.{Meaning}
use Rattle.no_read_rules.specs.Spelled.{is_kind}
use Rattle.no_read_attributes.specs.Attributes.{may_go_on}
use Rattle.no_read_registers.specs.declared.locals.Locals.{Locals}
use Rattle.no_read_registers.specs.Numbered.{a_definition}
use Rattle.no_read_operations.specs.Operands.{word, sign}
use Rattle.no_read_operations.specs.Ends.{is_comma, ended, finish}
use Rattle.no_read_operations.specs.Simple.{binary, cast_form, compare, freeze, select}
use Rattle.no_read_operations.specs.Memory as memory
use Rattle.no_read_operations.specs.Flow.{ret, br, switch, phi}
use Rattle.no_read_instructions.specs.Calls.{result_of, call_form}
use Rattle.no_read_instructions.specs.Heads.{instr_head}
use Rattle.no_read_instructions.specs.declared.heads.Giver.{Giver}
use Rattle.no_read_instructions.specs.declared.heads.Giver.TheVariants as giver
use Rattle.no_read_instructions.specs.declared.heads.Action.{Action}
use Rattle.no_read_instructions.specs.declared.heads.Action.TheVariants as action
use Rattle.no_read_instructions.specs.declared.heads.InstrHead.{InstrHead}
use Rattle.no_read_instructions.specs.declared.heads.InstrHead.TheVariants as head

-- an operation with a result, behind its first word, and whether the partition made it
abbrev pub giver_form : Meaning → Role → Giver → Rule Locals (Op × Bool)
giver_form m role (giver.Binary b) = ended m.text role false (binary m b)
giver_form m role (giver.Cast c) = ended m.text role false (cast_form m c)
giver_form m role giver.Compare = ended m.text role false (compare m)
giver_form m role giver.Freeze = ended m.text role false (freeze m)
giver_form m role giver.Select = ended m.text role false (select m)
giver_form m role giver.Phi = phi m role
giver_form m role giver.Alloca = memory.alloca m role
giver_form m role giver.Load = ended m.text role true (memory.load m)
giver_form m role giver.Address = memory.address m role

-- an operation without a result, behind its first word, and whether the partition made it
abbrev pub action_form : Meaning → Role → Action → Rule Locals (Op × Bool)
action_form m role action.Store = ended m.text role true (memory.store m)
action_form m role action.Br = ended m.text role false (br m)
action_form m role action.Switch = ended m.text role false (switch m)
action_form m role action.Ret = ended m.text role false (ret m)
action_form m role action.Unreachable = finish m.text role false op.Unreachable

-- behind the first word of an instruction with a result: its other parts, and the register that it assigns
unfoldable pub giving : Meaning → Role → Option ℕ → Giver → Rule Locals Instr
giving m role written g = do
  register ← result_of written
  form ← giver_form m role g
  done (record { result = Some register; inserted = form.1; op = form.0 })

-- behind the first word of an instruction without a result: its other parts
unfoldable pub acting : Meaning → Role → Action → Rule Locals Instr
acting m role a = action_form m role a >>= λ form. done (record { result = None; inserted = form.1; op = form.0 })

-- behind a word that stands before `call`: that word, and the other parts of a call
unfoldable pub tail_call : Meaning → Role → Option ℕ → Rule Locals Instr
tail_call m role written = word m.text (codes "call") >>= λ _. call_form m role written

-- what follows the first word of an instruction
abbrev pub after_instr_head : Meaning → Role → Option ℕ → InstrHead → Rule Locals Instr
after_instr_head m role written (head.Gives g) = giving m role written g
after_instr_head m role written head.Call = call_form m role written
after_instr_head m role written head.TailCall = tail_call m role written
after_instr_head m role written (head.Acts a) = acting m role a

-- an instruction behind its written result, or one where none is written
unfoldable pub instr_body : Meaning → Role → Option ℕ → Rule Locals Instr
instr_body m role written = lift (plain (instr_head m.text (is_some written))) >>= after_instr_head m role written

-- a written result, an equals sign, and an instruction that gives it
unfoldable pub named_instr : Meaning → Role → Rule Locals Instr
named_instr m role = do
  register ← a_definition m.text
  _ ← sign m.text (codes "=")
  instr ← instr_body m role (Some register)
  done instr

-- an instruction, with a written result or without
unfoldable pub an_instr : Meaning → Role → Rule Locals Instr
an_instr m role = if_next (is_kind Local) (named_instr m role) (instr_body m role None)

-- the tokens with which an instruction may go on: a comma, and what attributes go on with
abbrev pub instr_goes_on : List ℕ → Token → Bool
instr_goes_on text token = is_comma text token || may_go_on text token
