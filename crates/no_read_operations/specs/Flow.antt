-- Control flow (LLVM Language Reference, "Terminator Instructions" and "'phi' Instruction").
use Rattle.std.specs.Prelude.{ℕ, ◌==◌, Bool, false, List, [], ◌∷◌, codes, Option, Some, None, Result, Ok, Err, if◌then◌else◌}
use Rattle.no_ir.specs.declared.function.Role.{Role}
use Rattle.no_ir.specs.declared.types.Ty.TheVariants as ty
use Rattle.no_ir.specs.declared.instruction.Operand.{Operand}
use Rattle.no_ir.specs.declared.types.Ty.{Ty}
use Rattle.no_ir.specs.declared.instruction.Op.{Op}
use Rattle.no_ir.specs.declared.instruction.Op.TheVariants as op
use Rattle.no_read_rules.specs.declared.fault.Flaw.{Flaw}
use Rattle.no_read_rules.specs.declared.fault.Flaw.TheVariants.{Syntax}
use Rattle.no_read_rules.specs.Repeated.{repeat}
use Rattle.no_read_rules.specs.Rules.{Rule, plain, done, ◌>>=◌, lift, if_next, checked}
use Rattle.no_read_rules.specs.Scope.{Meaning}
use Rattle.no_read_rules.specs.Spelled.{is_word, is_sign}
use Rattle.no_read_constants.specs.Places.{width_of, number_at}
use Rattle.no_read_registers.specs.declared.locals.Locals.{Locals}
use Rattle.no_read_registers.specs.Numbered.{a_label, a_label_name}
use Rattle.no_read_operations.specs.Operands.{word, sign, some_type, a_width, an_operand}
use Rattle.no_read_operations.specs.Ends.{listed}

-- ---- `ret`

-- the word `void`
unfoldable pub return_void : Meaning → Rule Locals Op
return_void m = word m.text (codes "void") >>= λ _. done (op.Ret None)

-- a value with its type
unfoldable pub return_value : Meaning → Rule Locals Op
return_value m = do
  of ← some_type m
  value ← an_operand m of
  done (op.Ret (Some (of, value)))

-- behind the word `ret`: the word `void`, or a value with its type
abbrev pub ret : Meaning → Rule Locals Op
ret m = if_next (is_word m.text (codes "void")) (return_void m) (return_value m)

-- ---- `br`

-- a label, which is always gone to
unfoldable pub branch : Meaning → Rule Locals Op
branch m = a_label m.text >>= λ label. done (op.Br label)

-- a bit, the label where it is 1, and the label where it is 0
unfoldable pub branch_if : Meaning → Rule Locals Op
branch_if m = do
  _ ← word m.text (codes "i1")
  condition ← an_operand m (ty.Int 1)
  _ ← sign m.text (codes ",")
  first ← a_label m.text
  _ ← sign m.text (codes ",")
  second ← a_label m.text
  done (op.CondBr condition first second)

-- behind the word `br`: a label, or a bit and two labels
abbrev pub br : Meaning → Rule Locals Op
br m = if_next (is_word m.text (codes "label")) (branch m) (branch_if m)

-- ---- `switch`

-- the width of a case, which has to be that of its switch
abbrev pub same_width : ℕ → ℕ → Result (Unit {0}) Flaw
same_width want width = if width == want then Ok tt else Err Syntax

-- a number at the switch's own type, and a label
unfoldable pub a_case : Meaning → ℕ → Rule Locals (ℕ × ℕ)
a_case m width = do
  _ ← lift (checked (plain (width_of m.text)) (same_width width))
  number ← lift (plain (number_at m.text width))
  _ ← sign m.text (codes ",")
  label ← a_label m.text
  done (number, label)

-- the closing bracket
unfoldable pub no_case : Meaning → Rule Locals (Option (ℕ × ℕ))
no_case m = sign m.text (codes "]") >>= λ _. done None

-- one more case
unfoldable pub one_case : Meaning → ℕ → Rule Locals (Option (ℕ × ℕ))
one_case m width = a_case m width >>= λ c. done (Some c)

-- the next case, or nothing where the list closes
abbrev pub more_case : Meaning → ℕ → Rule Locals (Option (ℕ × ℕ))
more_case m width = if_next (is_sign m.text (codes "]")) (no_case m) (one_case m width)

-- an opening bracket, and the cases up to the closing one
unfoldable pub all_cases : Meaning → ℕ → Rule Locals (List (ℕ × ℕ))
all_cases m width = sign m.text (codes "[") >>= λ _. repeat (more_case m width)

-- behind the word `switch`: a value with its type, the default label, and the cases in brackets
unfoldable pub switch : Meaning → Rule Locals Op
switch m = do
  width ← a_width m
  value ← an_operand m (ty.Int width)
  _ ← sign m.text (codes ",")
  other ← a_label m.text
  _ ← sign m.text (codes "[")
  cases ← repeat (more_case m width)
  done (op.Switch width value other cases)

-- ---- `phi`

-- a value, and the label of the block that it comes from
unfoldable pub a_pair : Meaning → Ty → Rule Locals (Operand × ℕ)
a_pair m of = do
  _ ← sign m.text (codes "[")
  value ← an_operand m of
  _ ← sign m.text (codes ",")
  label ← a_label_name m.text
  _ ← sign m.text (codes "]")
  done (value, label)

-- behind the word `phi`: a type, at least one pair, and attachments
unfoldable pub phi : Meaning → Role → Rule Locals (Op × Bool)
phi m role = do
  of ← some_type m
  first ← a_pair m of
  all ← listed m.text role (a_pair m of) (record { items = first ∷ []; begun = false; inserted = false })
  done (op.Phi of all.items, all.inserted)
