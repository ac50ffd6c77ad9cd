-- How instructions are spelled (LLVM Language Reference, "Instruction Reference").
use Rattle.std.specs.Prelude.{ℕ, Bool, true, false, List, [], ◌∷◌, ◌++◌, codes, decimal, Option, Some, None}
use Rattle.no_ir.specs.declared.types.Ty.{Ty}
use Rattle.no_ir.specs.declared.types.Ty.TheVariants as ty
use Rattle.no_ir.specs.declared.instruction.Operand.{Operand}
use Rattle.no_ir.specs.declared.instruction.Operand.TheVariants as operand
use Rattle.no_ir.specs.declared.instruction.Op.{Op}
use Rattle.no_ir.specs.declared.instruction.Op.TheVariants as op
use Rattle.no_ir.specs.declared.instruction.Instr.{Instr}
use Rattle.no_lex.specs.declared.token.TokenKind.TheVariants as kind
pub use Rattle.no_words.specs.Words.{binary_word, cast_word, pred_word}
use Rattle.no_print.specs.Pieces.{Piece, glued, spaced, indented, piece, word, sign, integer, comma, behind_commas, with_commas}
use Rattle.no_print.specs.Names.{name_at, local_name, int_type, number}
use Rattle.no_print.specs.Constants.{Spelled, type_at, const_pieces}

-- ---- words

-- the word `volatile`, where an access is one
abbrev pub volatile_word : Bool → List Piece
volatile_word false = []
volatile_word true = word spaced (codes "volatile")

-- an alignment behind a comma, where one is stated
abbrev pub alignment_pieces : Option ℕ → List Piece
alignment_pieces None = []
alignment_pieces (Some n) = comma ++ (word spaced (codes "align") ++ integer spaced (decimal n))

-- the mark of an instruction that the partition made
abbrev pub inserted_pieces : Bool → List Piece
inserted_pieces false = []
inserted_pieces true = comma ++ (piece kind.Meta spaced (codes "!no.x") ++ piece kind.Meta spaced (codes "!0"))

-- the names of a function's registers and labels
pub record Locals : Type 0 where
  pub registers : List (List ℕ)
  pub labels : List (List ℕ)

module _ (s : Spelled) (f : Locals) where
  -- ---- operands

  -- an operand at its type
  abbrev pub operand_pieces : Ty → Operand → List Piece
  operand_pieces t (operand.Reg r) = local_name spaced (name_at f.registers r)
  operand_pieces t (operand.Const c) = const_pieces s c t spaced

  -- a type, and an operand at it
  abbrev pub typed : List ℕ → Ty → Operand → List Piece
  typed gap t o = type_at s gap t ++ operand_pieces t o

  -- an integer type, and an operand at it
  abbrev pub sized : ℕ → Operand → List Piece
  sized w o = int_type spaced w ++ operand_pieces (ty.Int w) o

  -- the pointer type, and an operand at it
  abbrev pub pointer : Operand → List Piece
  pointer o = word spaced (codes "ptr") ++ operand_pieces ty.Ptr o

  -- a label that is used, behind its word
  abbrev pub label : ℕ → List Piece
  label l = word spaced (codes "label") ++ local_name spaced (name_at f.labels l)

  -- ---- parts of forms

  -- a pair of a phi: a value and a label, in square brackets
  abbrev pub pair_pieces : Ty → List ℕ → Operand × ℕ → List Piece
  pair_pieces t gap p =
      sign gap (codes "[") ++ (operand_pieces t p.0 ++ (comma ++ (local_name spaced (name_at f.labels p.1) ++ sign spaced (codes "]"))))

  -- the count of an alloca behind a comma, where it has one
  abbrev pub count_pieces : Option (ℕ × Operand) → List Piece
  count_pieces None = []
  count_pieces (Some n) = comma ++ sized n.0 n.1

  -- an argument of a call, with its type
  abbrev pub argument_pieces : List ℕ → Ty × Operand → List Piece
  argument_pieces gap a = typed gap a.0 a.1

  -- the cases of a switch: numbers with their type, each with its label
  abbrev pub case_pieces : ℕ → List (ℕ × ℕ) → List Piece
  case_pieces w [] = []
  case_pieces w (c ∷ cases) = int_type spaced w ++ (number w spaced c.0 ++ (comma ++ (label c.1 ++ case_pieces w cases)))

  -- ---- operations

  -- the first word of an operation stands behind these blanks
  abbrev pub op_pieces : List ℕ → Op → List Piece
  op_pieces gap (op.Binary o w a b) = word gap (binary_word o) ++ (sized w a ++ (comma ++ operand_pieces (ty.Int w) b))
  op_pieces gap (op.Compare p t a b) = word gap (codes "icmp") ++ (word spaced (pred_word p) ++ (typed spaced t a ++ (comma ++ operand_pieces t b)))
  op_pieces gap (op.Cast c t a u) = word gap (cast_word c) ++ (typed spaced t a ++ (word spaced (codes "to") ++ type_at s spaced u))
  op_pieces gap (op.Freeze t a) = word gap (codes "freeze") ++ typed spaced t a
  op_pieces gap (op.Select c t a b) = word gap (codes "select") ++ (sized 1 c ++ (comma ++ (typed spaced t a ++ (comma ++ typed spaced t b))))
  op_pieces gap (op.Phi t pairs) = word gap (codes "phi") ++ (type_at s spaced t ++ with_commas (pair_pieces t) spaced pairs)
  op_pieces gap (op.Alloca t count align) = word gap (codes "alloca") ++ (type_at s spaced t ++ (count_pieces count ++ alignment_pieces align))
  op_pieces gap (op.Load volatile t a) = word gap (codes "load") ++ (volatile_word volatile ++ (type_at s spaced t ++ (comma ++ pointer a)))
  op_pieces gap (op.Store volatile t v a) = word gap (codes "store") ++ (volatile_word volatile ++ (typed spaced t v ++ (comma ++ pointer a)))
  op_pieces gap (op.Gep t a indices) = word gap (codes "getelementptr") ++ (type_at s spaced t ++ (comma ++ (pointer a ++ behind_commas (λ i. sized i.0 i.1) indices)))
  op_pieces gap (op.Call t g args) =
      word gap (codes "call") ++ (type_at s spaced t ++ (operand_pieces ty.Ptr g ++ (sign glued (codes "(") ++ (with_commas argument_pieces glued args ++ sign glued (codes ")")))))
  op_pieces gap (op.Br l) = word gap (codes "br") ++ label l
  op_pieces gap (op.CondBr c l other) = word gap (codes "br") ++ (sized 1 c ++ (comma ++ (label l ++ (comma ++ label other))))
  op_pieces gap (op.Switch w a l cases) =
      word gap (codes "switch") ++ (sized w a ++ (comma ++ (label l ++ (sign spaced (codes "[") ++ (case_pieces w cases ++ sign spaced (codes "]"))))))
  op_pieces gap (op.Ret None) = word gap (codes "ret") ++ word spaced (codes "void")
  op_pieces gap (op.Ret (Some v)) = word gap (codes "ret") ++ typed spaced v.0 v.1
  op_pieces gap op.Unreachable = word gap (codes "unreachable")

  -- ---- whole instructions

  -- an operation on its line, behind the register of its result, where it has one
  abbrev pub with_result : Option ℕ → Op → List Piece
  with_result None o = op_pieces indented o
  with_result (Some r) o = local_name indented (name_at f.registers r) ++ (sign spaced (codes "=") ++ op_pieces spaced o)

  -- an instruction on its line
  abbrev pub instr_pieces : Instr → List Piece
  instr_pieces i = with_result i.result i.op ++ inserted_pieces i.inserted
