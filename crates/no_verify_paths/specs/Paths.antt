-- Paths through a function, and the registers that they assign.
use Rattle.std.specs.Prelude.{◌≡◌, ℕ, ◌+◌, ◌-◌, ◌<◌, Bool, true, false, ◌||◌, ◌==◌, ◌⊎◌, List, [], ◌∷◌, length, map, take, slice_get, Option, Some, None, if◌then◌else◌}
use Rattle.std.specs.List.{Contains, filter_map, flat_map, list_any}
use Rattle.no_ir.specs.declared.types.Ty.{Ty}
use Rattle.no_ir.specs.declared.instruction.Operand.{Operand}
use Rattle.no_ir.specs.declared.instruction.Operand.TheVariants as operand
use Rattle.no_ir.specs.declared.instruction.Op.{Op}
use Rattle.no_ir.specs.declared.instruction.Op.TheVariants as op
use Rattle.no_ir.specs.declared.instruction.Instr.{Instr}
use Rattle.no_ir.specs.declared.function.Block.{Block}
use Rattle.no_ir.specs.declared.function.Function.{Function}
use Rattle.no_module.specs.Instructions.{exits_in, is_phi, operands_of}

-- ---- what an instruction uses (LLVM Language Reference, "Instruction Reference")

-- the register that an operand names
abbrev pub registers_of : Operand → List ℕ
registers_of (operand.Reg r) = r ∷ []
registers_of (operand.Const c) = []

-- the registers that an instruction uses where it stands; a phi uses none there
unfoldable pub uses : Op → List ℕ
uses o = if is_phi o then [] else flat_map registers_of (operands_of o)

-- the register that a phi takes from a label, with the label
abbrev pub pair_use : Operand × ℕ → List (ℕ × ℕ)
pair_use pair = map (λ r. (r, pair.1)) (registers_of pair.0)

-- each register that a phi uses, with the label of the block at whose end it does ("phi Instruction")
unfoldable pub phi_uses : Op → List (ℕ × ℕ)
phi_uses (op.Phi t pairs) = flat_map pair_use pairs
phi_uses _ = []

-- ---- blocks and places

-- the instructions of a block, none where there is no block
abbrev pub code_in : Option Block → List Instr
code_in None = []
code_in (Some block) = block.instrs

-- the instructions of block b, none where there is no such block
unfoldable pub code_of : Function → ℕ → List Instr
code_of f b = code_in (slice_get f.blocks b)

-- the registers that an instruction uses where it stands, none where there is no instruction
abbrev pub uses_in : Option Instr → List ℕ
uses_in None = []
uses_in (Some i) = uses i.op

-- the registers that a phi uses, each with its label; none where there is no instruction
abbrev pub phi_uses_in : Option Instr → List (ℕ × ℕ)
phi_uses_in None = []
phi_uses_in (Some i) = phi_uses i.op

-- the uses of the instruction at place k of block b, none where there is no such instruction
unfoldable pub uses_at : Function → ℕ → ℕ → List ℕ
uses_at f b k = uses_in (slice_get (code_of f b) k)

-- the registers that a phi at place k of block b uses, each with its label
unfoldable pub phi_uses_at : Function → ℕ → ℕ → List (ℕ × ℕ)
phi_uses_at f b k = phi_uses_in (slice_get (code_of f b) k)

-- the number of the first block of a label, counted from n; none where no block has it, so that such a label leads nowhere
abbrev pub first_from : ℕ → List Block → ℕ → Option ℕ
first_from n [] l = None
first_from n (block ∷ others) l = if block.label == l then Some n else first_from (n + 1) others l

-- the number of the first block of a function that has the label
unfoldable pub block_of : Function → ℕ → Option ℕ
block_of f l = first_from 0 f.blocks l

-- the labels that the last instruction of block b names
unfoldable pub exits : Function → ℕ → List ℕ
exits f b = exits_in (slice_get (code_of f b) (length (code_of f b) - 1))

-- the successors of block b: the blocks of the labels that its last instruction names
unfoldable pub successors : Function → ℕ → List ℕ
successors f b = filter_map (block_of f) (exits f b)

-- ---- paths

-- Block b, and the blocks before it, the last one first: each is a successor of the one before, and the first is the entry.
-- A block that no path leads to is unreachable.
abbrev pub PathTo : Function → ℕ → List ℕ → Type 0
PathTo f b [] = b ≡ 0
PathTo f b (a ∷ before) = Contains (successors f a) b × PathTo f a before

-- the result of an instruction is register r
abbrev pub is_result : ℕ → Option ℕ → Bool
is_result r None = false
is_result r (Some s) = s == r

-- some instruction of the list assigns the register
unfoldable pub assigns : ℕ → List Instr → Bool
assigns r code = list_any (λ (i : Instr). is_result r i.result) code

-- one of the parameters is register r
abbrev pub is_among : List (ℕ × Ty) → ℕ → Bool
is_among parameters r = list_any (λ (p : ℕ × Ty). p.0 == r) parameters

-- the register is a parameter
unfoldable pub is_parameter : Function → ℕ → Bool
is_parameter f r = is_among f.params r

-- a parameter, or an instruction of these blocks, assigns the register
abbrev pub assigned : Function → List ℕ → ℕ → Bool
assigned f [] r = is_parameter f r
assigned f (a ∷ before) r = assigned f before r || assigns r (code_of f a)

-- the same before place k of block b, which is reached by these blocks
abbrev pub assigned_at : Function → List ℕ → ℕ → ℕ → ℕ → Bool
assigned_at f before b k r = assigned f before r || assigns r (take k (code_of f b))

-- ---- the rule

-- Whatever path leads to the instruction at place k of block b, it assigns what the instruction uses.
-- What a phi takes from a label is used at the end of that label's block, so its paths go there, and they assign it.
pub record IsAssignedAt (f : Function) (b k : ℕ) : Type 0 where
  pub here : (before : List ℕ) (r : ℕ) → PathTo f b before → Contains (uses_at f b k) r → assigned_at f before b k r ≡ true
  pub end : (before : List ℕ) (r l p : ℕ) → Contains (phi_uses_at f b k) (r, l) → block_of f l ≡ Some p → PathTo f p before → assigned f (p ∷ before) r ≡ true

-- on every path that reaches a use of a register, a parameter or an earlier instruction of the path assigns it
abbrev pub IsAssigned : Function → Type 0
IsAssigned f = (b k : ℕ) → IsAssignedAt f b k

-- a path that leads to a use, and does not assign the register
pub record MissesHere (f : Function) (b k : ℕ) : Type 0 where
  pub before : List ℕ
  pub register : ℕ
  pub path : PathTo f b before
  pub used : Contains (uses_at f b k) register
  pub missed : assigned_at f before b k register ≡ false

-- a path to the end of the block of a phi's label, which does not assign what the phi takes from there
pub record MissesAtEnd (f : Function) (b k : ℕ) : Type 0 where
  pub before : List ℕ
  pub register : ℕ
  pub label : ℕ
  pub block : ℕ
  pub used : Contains (phi_uses_at f b k) (register, label)
  pub leads : block_of f label ≡ Some block
  pub path : PathTo f block before
  pub missed : assigned f (block ∷ before) register ≡ false

-- some path reaches a use of the instruction at place k of block b unassigned
abbrev pub IsUnassigned : Function → ℕ → ℕ → Type 0
IsUnassigned f b k = MissesHere f b k ⊎ MissesAtEnd f b k

-- place k of block b comes before place i of block c
abbrev pub IsBefore : ℕ → ℕ → ℕ → ℕ → Type 0
IsBefore b k c i = (b < c) ⊎ ((b ≡ c) × (k < i))

-- The answer for a function: none where the rule holds, and else block and place of the first use that some path reaches unassigned.
abbrev pub IsAnswer : Function → Option (ℕ × ℕ) → Type 0
IsAnswer f None = IsAssigned f
IsAnswer f (Some fault) = IsUnassigned f fault.0 fault.1 × ((b k : ℕ) → IsBefore b k fault.0 fault.1 → IsAssignedAt f b k)
