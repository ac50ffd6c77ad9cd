-- The row of each instruction (docs/LANGUAGE.md, "Instructions").
use Rattle.std.specs.Prelude.{ℕ, Option}
use Rattle.no_ir.specs.declared.ending.Trap.TheVariants.{Unreachable}
use Rattle.no_ir.specs.declared.instruction.Op.{Op}
use Rattle.no_ir.specs.declared.instruction.Op.TheVariants as op
use Rattle.no_ir.specs.declared.instruction.Instr.{Instr}
use Rattle.no_semantics.specs.Access.{row_alloca, row_load, row_store}
use Rattle.no_semantics.specs.Calls.{row_call, row_ret}
use Rattle.no_semantics.specs.Control.{row_br, row_cond_br, row_switch}
use Rattle.no_semantics.specs.Registers.{given}
use Rattle.no_semantics.specs.Results.{binary_value, compare_value, cast_value, freeze_value, select_value, gep_value}
use Rattle.no_semantics.specs.Rows.{Row, stuck, trapping, computed, charged, limited}
use Rattle.no_semantics.specs.States.{State, instr_at}
use Rattle.no_semantics.specs.Values.{Program}

-- a phi is done with the branch that enters its block, and no run stands at one
abbrev pub row_of_op : Program → Option ℕ → Op → State → Row
row_of_op p into (op.Binary o w a b) s = computed into (binary_value p s.frame.registers o w a b) s
row_of_op p into (op.Compare o t a b) s = computed into (compare_value p s.frame.registers o t a b) s
row_of_op p into (op.Cast o t a u) s = computed into (cast_value p s.frame.registers o t a u) s
row_of_op p into (op.Freeze t a) s = computed into (freeze_value p s.frame.registers t a) s
row_of_op p into (op.Select c t a b) s = computed into (select_value p s.frame.registers c t a b) s
row_of_op p into (op.Phi t pairs) s = stuck
row_of_op p into (op.Alloca t count align) s = row_alloca p into t count align s
row_of_op p into (op.Load volatile t a) s = row_load p into t a s
row_of_op p into (op.Store volatile t v a) s = row_store p t v a s
row_of_op p into (op.Gep t a indices) s = computed into (gep_value p s.frame.registers t a indices) s
row_of_op p into (op.Call t callee args) s = row_call p into t callee args s
row_of_op p into (op.Br l) s = row_br p l s
row_of_op p into (op.CondBr c l k) s = row_cond_br p c l k s
row_of_op p into (op.Switch w a l cases) s = row_switch p w a l cases s
row_of_op p into (op.Ret value) s = row_ret p value s
row_of_op p into op.Unreachable s = trapping Unreachable

-- the row of an instruction, which costs nothing where the partition made it
abbrev pub row_of_instr : Program → State → Instr → Row
row_of_instr p s i = charged i.inserted (row_of_op p i.result i.op s)

-- what the next instruction of a state does, whatever is left of the budget
unfoldable pub row : Program → State → Row
row p s = given stuck (instr_at p s.frame) (row_of_instr p s)

-- the same within what is left
abbrev pub step : Program → ℕ → State → Row
step p left s = limited left (row p s)
