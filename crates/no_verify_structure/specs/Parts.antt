-- Rules on what the operands of an instruction name: registers, and addresses in constants.
use Rattle.std.specs.Prelude.{ℕ, Bool, true}
use Rattle.std.specs.List.{list_all}
use Rattle.no_ir.specs.declared.constant.Const.{Const}
use Rattle.no_ir.specs.declared.constant.Const.TheOpen.{Const-F}
use Rattle.no_ir.specs.declared.constant.Const.TheFolds.{fold-Const}
use Rattle.no_ir.specs.declared.constant.Place.{Place}
use Rattle.no_ir.specs.declared.instruction.Operand.{Operand}
use Rattle.no_ir.specs.declared.instruction.Operand.TheVariants as operand
use Rattle.no_ir.specs.declared.instruction.Op.{Op}
use Rattle.no_module.specs.Instructions.{operands_of}

-- each address in a constant keeps a rule, where each in its parts does
abbrev pub constant_step : (Place → Bool) → Const-F Bool → Bool
constant_step places (Const-F.Array elements) = list_all (λ element. element) elements
constant_step places (Const-F.Struct fields) = list_all (λ field. field) fields
constant_step places (Const-F.Address place) = places place
constant_step places (Const-F.AddressAsInt place) = places place
constant_step places _ = true

-- each address in a constant keeps a rule
abbrev pub constant_keeps : (Place → Bool) → Const → Bool
constant_keeps places = fold-Const Bool (constant_step places)

-- a register keeps one rule, and each address in a constant another
abbrev pub operand_keeps : (ℕ → Bool) → (Place → Bool) → Operand → Bool
operand_keeps registers places (operand.Reg r) = registers r
operand_keeps registers places (operand.Const c) = constant_keeps places c

-- each operand of an instruction keeps these rules
abbrev pub operands_keep : (ℕ → Bool) → (Place → Bool) → Op → Bool
operands_keep registers places o = list_all (operand_keeps registers places) (operands_of o)
