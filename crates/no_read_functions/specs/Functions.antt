-- Functions with their blocks (LLVM Language Reference, "Functions").
use Rattle.std.specs.Prelude.{true, List, codes}
use Rattle.no_ir.specs.declared.function.Block.{Block}
use Rattle.no_ir.specs.declared.function.Role.{Role}
use Rattle.no_read_rules.specs.Rules.{Rule, done, ◌>>=◌}
use Rattle.no_read_rules.specs.Scope.{Meaning}
use Rattle.no_read_rules.specs.Spelled.{a_sign}
use Rattle.no_read_functions.specs.Heads.{a_head}
use Rattle.no_read_functions.specs.declared.heads.Head.{Head}
use Rattle.no_read_registers.specs.declared.locals.Locals.{Locals}
use Rattle.no_read_registers.specs.Numbered.{no_locals_yet}
use Rattle.no_read_instructions.specs.Instructions.{an_instr}
use Rattle.no_read_functions.specs.Blocks.{body}
use Rattle.no_read_attributes.specs.Own.{inside}
use Rattle.no_read_functions.specs.declared.functions.Written.{Written}

-- a head, an opening bracket, and the blocks up to the closing one
unfoldable pub head_body : Meaning → Role → Rule Locals (Head × List Block)
head_body m role = do
  head ← a_head m role true
  _ ← a_sign m.text (codes "{")
  blocks ← body m.text (an_instr m role)
  done (head, blocks)

-- a head, blocks, and the names of registers and labels, as one function
abbrev pub written : (Head × List Block) × Locals → Written
written f = record { head = f.0.0; blocks = f.0.1; names = f.1 }

-- behind `define`: its registers and labels have names of their own, which begin here
unfoldable pub a_function : Meaning → Role → Rule (Unit {0}) Written
a_function m role = inside no_locals_yet (head_body m role) >>= λ f. done (written f)
