-- What only a server's part may have: instructions that the partition made, and addresses that the device has for functions.
use Rattle.std.specs.Prelude.{◌≡◌, ℕ, Bool, true, false, ◌&&◌, not, Option, Some, None}
use Rattle.std.specs.List.{list_all}
use Rattle.no_ir.specs.declared.instruction.Instr.{Instr}
use Rattle.no_ir.specs.declared.function.Block.{Block}
use Rattle.no_ir.specs.declared.function.Function.{Function}
use Rattle.no_ir.specs.declared.function.Module.{Module}
use Rattle.no_ir.specs.declared.function.Role.{Role}
use Rattle.no_ir.specs.declared.function.Role.TheVariants.{Source, Part}

-- the partition did not insert this instruction
abbrev pub instr_unmarked : Instr → Bool
instr_unmarked i = not i.inserted

-- the partition inserted none of a block's instructions
abbrev pub block_unmarked : Block → Bool
block_unmarked b = list_all instr_unmarked b.instrs

-- no device address is stated
abbrev pub no_address : Option ℕ → Bool
no_address None = true
no_address (Some n) = false

-- a function has no device address and no inserted instruction
abbrev pub function_unmarked : Function → Bool
function_unmarked f = no_address f.device_address && list_all block_unmarked f.blocks

-- no function of a module has a mark of the partition
abbrev pub is_unmarked : Module → Bool
is_unmarked m = list_all function_unmarked m.functions

-- a source has no mark of the partition, and a server's part may have any
abbrev pub MarksAllowed : Role → Module → Type 0
MarksAllowed Source m = is_unmarked m ≡ true
MarksAllowed Part m = Unit {0}
