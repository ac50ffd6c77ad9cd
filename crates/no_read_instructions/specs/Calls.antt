-- Calls (LLVM Language Reference, "'call' Instruction").
use Rattle.std.specs.Prelude.{ℕ, Bool, false, not, ◌&&◌, List, codes, Option, Some, None, is_some, Result}
use Rattle.no_lex.specs.declared.token.Token.{Token}
use Rattle.no_ir.specs.declared.function.Role.{Role}
use Rattle.no_ir.specs.declared.types.Ty.{Ty}
use Rattle.no_ir.specs.declared.types.Ty.TheVariants as ty
use Rattle.no_ir.specs.declared.instruction.Operand.{Operand}
use Rattle.no_ir.specs.declared.instruction.Instr.{Instr}
use Rattle.no_ir.specs.declared.instruction.Op.TheVariants as op
use Rattle.no_read_rules.specs.declared.fault.Flaw.{Flaw}
use Rattle.no_read_rules.specs.Lists.{items}
use Rattle.no_read_rules.specs.Rules.{Rule, plain, done, ◌>>=◌, lift, if_next}
use Rattle.no_read_rules.specs.Scope.{Meaning}
use Rattle.no_read_rules.specs.Spelled.{is_word, only_where}
use Rattle.no_read_attributes.specs.Attributes.{all_attributes, all_go_on, skip_attributes}
use Rattle.no_read_attributes.specs.Ending.{ahead}
use Rattle.no_read_registers.specs.declared.locals.Locals.{Locals}
use Rattle.no_read_registers.specs.Numbered.{no_name}
use Rattle.no_read_operations.specs.Operands.{sign, some_type, an_operand}
use Rattle.no_read_operations.specs.Ends.{end_mark}

-- the register of a result: the written one, or one that the counter names
abbrev pub result_of : Option ℕ → Rule Locals ℕ
result_of (Some register) = done register
result_of None = no_name

-- attributes, which have no effect, and what follows them
abbrev pub behind_attributes : {A : Type 0} → List ℕ → Rule Locals A → Rule Locals A
behind_attributes text p = ahead (all_go_on text) (lift (all_attributes text)) (λ all. p)

-- an argument: its type, attributes, and an operand
unfoldable pub an_argument : Meaning → Rule Locals (Ty × Operand)
an_argument m = do
  of ← some_type m
  value ← behind_attributes m.text (an_operand m of)
  done (of, value)

-- the callee, arguments, attributes, and the end
unfoldable pub call_parts : Meaning → Role → Ty → Option ℕ → Rule Locals Instr
call_parts m role of register = do
  callee ← an_operand m ty.Ptr
  _ ← sign m.text (codes "(")
  arguments ← items m.text (codes ")") (an_argument m)
  _ ← lift (skip_attributes m.text)
  inserted ← lift (end_mark m.text role false)
  done (record { result = register; inserted = inserted; op = op.Call of callee arguments })

-- where a result is written, the result type isn't `void`
abbrev pub void_of : List ℕ → Bool → Token → Result (Unit {0}) Flaw
void_of text written token = only_where (is_word text (codes "void") token && not written)

-- the word `void`, and the other parts of a call that gives no result
unfoldable pub void_call : Meaning → Role → Option ℕ → Rule Locals Instr
void_call m role register = lift (plain (void_of m.text (is_some register))) >>= λ _. call_parts m role ty.Void None

-- a type, and the other parts of a call whose result has it
unfoldable pub typed_call : Meaning → Role → Option ℕ → Rule Locals Instr
typed_call m role register = do
  of ← some_type m
  result ← result_of register
  call ← call_parts m role of (Some result)
  done call

-- behind the attributes of a call: the type of its result, and the other parts
abbrev pub call_type : Meaning → Role → Option ℕ → Rule Locals Instr
call_type m role register = if_next (is_word m.text (codes "void")) (void_call m role register) (typed_call m role register)

-- behind the word `call`
abbrev pub call_form : Meaning → Role → Option ℕ → Rule Locals Instr
call_form m role register = behind_attributes m.text (call_type m role register)
