-- Instructions on memory and on the stack ("Memory Access and Addressing Operations").
use Rattle.std.specs.Prelude.{ℕ, true, Option, Some, None}
use Rattle.no_ir.specs.declared.types.Ty.{Ty}
use Rattle.no_ir.specs.declared.ending.Trap.{Trap}
use Rattle.no_ir.specs.declared.instruction.Operand.{Operand}
use Rattle.no_layout.specs.Memory.{refusal, write_number}
use Rattle.no_semantics.specs.Registers.{given, operand_of, pointer_of}
use Rattle.no_semantics.specs.Results.{Valued, Number, Traps, NoValue, load_value, alloca_value, bytes_of_type}
use Rattle.no_semantics.specs.Rows.{Row, stuck, trapping, going, computed}
use Rattle.no_semantics.specs.Spans.{span_of}
use Rattle.no_semantics.specs.States.{State, assigned, moved}
use Rattle.no_semantics.specs.Values.{Program}

-- a place on the stack becomes the result, and the stack pointer comes down to it
abbrev pub allocated : Option ℕ → Valued → State → Row
allocated into (Number place) s = going (record s { frame = assigned into place s.frame; sp = place })
allocated into (Traps t) s = trapping t
allocated into NoValue s = stuck

-- "alloca Instruction"
unfoldable pub row_alloca : Program → Option ℕ → Ty → Option (ℕ × Operand) → Option ℕ → State → Row
row_alloca p into t count align s = allocated into (alloca_value p s.frame.registers s.sp t count align) s

-- a load that is not refused reads the bytes of its type
abbrev pub fetched : Option ℕ → Valued → ℕ → ℕ → State → Row
fetched into (Number n) at size s = record (computed into (Number n) s) { reads = span_of at size }
fetched into v at size s = computed into v s

-- "load Instruction"
unfoldable pub row_load : Program → Option ℕ → Ty → Operand → State → Row
row_load p into t a s =
    given stuck (pointer_of p s.frame.registers a) (λ at. fetched into (load_value p s.frame.registers s.byte t a) at (bytes_of_type p t) s)

-- a number becomes the bytes at an address, in the layout's order
abbrev pub stored : Program → ℕ → ℕ → ℕ → State → Option Trap → Row
stored p at size n s (Some t) = trapping t
stored p at size n s None = record (going (record s { frame = moved s.frame; byte = write_number p.layout.big s.byte at size n })) { writes = span_of at size }

-- "store Instruction"
unfoldable pub row_store : Program → Ty → Operand → Operand → State → Row
row_store p t v a s =
    given stuck (pointer_of p s.frame.registers a) (λ at. given stuck (operand_of p s.frame.registers t v) (λ n.
    stored p at (bytes_of_type p t) n s (refusal p.regions true at (bytes_of_type p t))))
