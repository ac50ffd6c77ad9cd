-- What is left of the operands, labels and types of an instruction, while they are taken one by one.
use Rattle.std.specs.Prelude.{ℕ, List, [], ◌∷◌}
use Rattle.no_ir.specs.declared.types.Ty.{Ty}
use Rattle.no_ir.specs.declared.instruction.Operand.{Operand}
use Rattle.no_module.specs.declared.instructions.Operands.{Operands}
use Rattle.no_module.specs.declared.instructions.Operands.TheVariants as operands
use Rattle.no_module.specs.declared.instructions.Labels.{Labels}
use Rattle.no_module.specs.declared.instructions.Labels.TheVariants as labels
use Rattle.no_module.specs.declared.instructions.Types.{Types}
use Rattle.no_module.specs.declared.instructions.Types.TheVariants as types
use Rattle.no_module.specs.Instructions.{argument_operands, argument_types, case_labels, index_operands, pair_labels, pair_operands}

-- the operands that are left, in order
abbrev pub operands_left : Operands → List Operand
operands_left operands.Empty = []
operands_left (operands.One a) = a.now ∷ []
operands_left (operands.Two a b) = a.now ∷ b.now ∷ []
operands_left (operands.Three a b c) = a.now ∷ b.now ∷ c.now ∷ []
operands_left (operands.Pairs pairs) = pair_operands pairs.now
operands_left (operands.Indices indices) = index_operands indices.now
operands_left (operands.Arguments arguments) = argument_operands arguments.now
operands_left (operands.Path a indices) = a.now ∷ index_operands indices.now
operands_left (operands.Call callee arguments) = callee.now ∷ argument_operands arguments.now

-- the labels that are left, in order
abbrev pub labels_left : Labels → List ℕ
labels_left labels.Empty = []
labels_left (labels.One l) = l ∷ []
labels_left (labels.Two l k) = l ∷ k ∷ []
labels_left (labels.Pairs pairs) = pair_labels pairs.now
labels_left (labels.Cases cases) = case_labels cases.now
labels_left (labels.Switch l cases) = l ∷ case_labels cases.now

-- the types that are left, in order
abbrev pub types_left : Types → List Ty
types_left types.Empty = []
types_left (types.One t) = t.now ∷ []
types_left (types.Two t u) = t.now ∷ u.now ∷ []
types_left (types.Arguments arguments) = argument_types arguments.now
types_left (types.Call t arguments) = t.now ∷ argument_types arguments.now
