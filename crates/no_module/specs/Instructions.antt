-- What an instruction names: operands, labels and types (LLVM Language Reference, "Instruction Reference").
use Rattle.std.specs.Prelude.{ℕ, Bool, true, false, List, [], ◌∷◌, map, Option, Some, None}
use Rattle.no_ir.specs.declared.types.Ty.{Ty}
use Rattle.no_ir.specs.declared.instruction.Operand.{Operand}
use Rattle.no_ir.specs.declared.instruction.Op.{Op}
use Rattle.no_ir.specs.declared.instruction.Op.TheVariants as op
use Rattle.no_ir.specs.declared.instruction.Instr.{Instr}

-- ---- operands

-- what a phi takes from its labels
abbrev pub pair_operands : List (Operand × ℕ) → List Operand
pair_operands pairs = map (λ pair. pair.0) pairs

-- the indices of a getelementptr
abbrev pub index_operands : List (ℕ × Operand) → List Operand
index_operands indices = map (λ index. index.1) indices

-- the arguments of a call
abbrev pub argument_operands : List (Ty × Operand) → List Operand
argument_operands arguments = map (λ argument. argument.1) arguments

-- the count of an alloca, if it is stated
abbrev pub count_operands : Option (ℕ × Operand) → List Operand
count_operands None = []
count_operands (Some count) = count.1 ∷ []

-- the value that is returned, if there is one
abbrev pub value_operands : Option (Ty × Operand) → List Operand
value_operands None = []
value_operands (Some value) = value.1 ∷ []

-- all operands of an instruction, the callee of a call and what a phi takes among them
abbrev pub operands_of : Op → List Operand
operands_of (op.Binary o w a b) = a ∷ b ∷ []
operands_of (op.Compare p t a b) = a ∷ b ∷ []
operands_of (op.Cast o t a u) = a ∷ []
operands_of (op.Freeze t a) = a ∷ []
operands_of (op.Select c t a b) = c ∷ a ∷ b ∷ []
operands_of (op.Phi t pairs) = pair_operands pairs
operands_of (op.Alloca t count align) = count_operands count
operands_of (op.Load volatile t a) = a ∷ []
operands_of (op.Store volatile t v a) = v ∷ a ∷ []
operands_of (op.Gep t a indices) = a ∷ index_operands indices
operands_of (op.Call t callee arguments) = callee ∷ argument_operands arguments
operands_of (op.Br l) = []
operands_of (op.CondBr c l k) = c ∷ []
operands_of (op.Switch w a l cases) = a ∷ []
operands_of (op.Ret value) = value_operands value
operands_of op.Unreachable = []

-- ---- labels

-- the labels that a phi takes operands from
abbrev pub pair_labels : List (Operand × ℕ) → List ℕ
pair_labels pairs = map (λ pair. pair.1) pairs

-- the labels of a switch's cases
abbrev pub case_labels : List (ℕ × ℕ) → List ℕ
case_labels cases = map (λ c. c.1) cases

-- the labels that a terminator leads to ("Terminator Instructions")
unfoldable pub exits_of : Op → List ℕ
exits_of (op.Br l) = l ∷ []
exits_of (op.CondBr c l k) = l ∷ k ∷ []
exits_of (op.Switch w a l cases) = l ∷ case_labels cases
exits_of _ = []

-- the labels that an instruction leads to, none where there is no instruction
abbrev pub exits_in : Option Instr → List ℕ
exits_in None = []
exits_in (Some i) = exits_of i.op

-- all labels that an instruction names
abbrev pub labels_of : Op → List ℕ
labels_of (op.Phi t pairs) = pair_labels pairs
labels_of (op.Br l) = l ∷ []
labels_of (op.CondBr c l k) = l ∷ k ∷ []
labels_of (op.Switch w a l cases) = l ∷ case_labels cases
labels_of _ = []

-- ---- types

-- the types of a call's arguments
abbrev pub argument_types : List (Ty × Operand) → List Ty
argument_types arguments = map (λ argument. argument.0) arguments

-- the type of the value that is returned, if there is one
abbrev pub value_types : Option (Ty × Operand) → List Ty
value_types None = []
value_types (Some value) = value.0 ∷ []

-- the types that an instruction names; an integer's width alone is a type of at most 8 bytes, and is left out
abbrev pub types_of : Op → List Ty
types_of (op.Binary o w a b) = []
types_of (op.Compare p t a b) = t ∷ []
types_of (op.Cast o t a u) = t ∷ u ∷ []
types_of (op.Freeze t a) = t ∷ []
types_of (op.Select c t a b) = t ∷ []
types_of (op.Phi t pairs) = t ∷ []
types_of (op.Alloca t count align) = t ∷ []
types_of (op.Load volatile t a) = t ∷ []
types_of (op.Store volatile t v a) = t ∷ []
types_of (op.Gep t a indices) = t ∷ []
types_of (op.Call t callee arguments) = t ∷ argument_types arguments
types_of (op.Ret value) = value_types value
types_of _ = []

-- ---- kinds of instructions

-- an instruction is a phi
abbrev pub is_phi : Op → Bool
is_phi (op.Phi t pairs) = true
is_phi _ = false

-- an instruction ends a block
abbrev pub is_terminator : Op → Bool
is_terminator (op.Br l) = true
is_terminator (op.CondBr c l k) = true
is_terminator (op.Switch w a l cases) = true
is_terminator (op.Ret value) = true
is_terminator op.Unreachable = true
is_terminator _ = false
