-- The blocks of a function (LLVM Language Reference, "Functions"), over any rule for an instruction.
use Rattle.std.specs.Prelude.{ℕ, Bool, List, [], ◌∷◌, ◌++◌, codes, Option, Some, None, Result, Ok}
use Rattle.no_lex.specs.declared.token.Token.{Token}
use Rattle.no_lex.specs.declared.token.TokenKind.TheVariants.{Label}
use Rattle.no_ir.specs.declared.function.Block.{Block}
use Rattle.no_ir.specs.declared.instruction.Instr.{Instr}
use Rattle.no_read_rules.specs.declared.fault.Stopped.{Stopped}
use Rattle.no_read_rules.specs.Repeated.{repeat}
use Rattle.no_read_rules.specs.Rules.{Rule, after, done, ◌>>=◌, if_next}
use Rattle.no_read_rules.specs.Spelled.{is_kind, is_sign, a_sign}
use Rattle.no_read_registers.specs.declared.locals.Locals.{Locals}
use Rattle.no_read_registers.specs.Numbered.{a_block_label, no_block_label}
use Rattle.no_read_functions.specs.declared.blocks.Piece.{Piece}
use Rattle.no_read_functions.specs.declared.blocks.Piece.TheVariants as piece

-- whether a token is the closing brace
abbrev pub is_close : List ℕ → Token → Bool
is_close text token = is_sign text (codes "}") token

-- whether a token is a label at the beginning of a block
abbrev pub is_label : Token → Bool
is_label token = is_kind Label token

-- labels part the instructions into blocks
abbrev pub blocks_of : ℕ → List Instr → List Piece → List Block
blocks_of label instrs [] = record { label = label; instrs = instrs } ∷ []
blocks_of label instrs (piece.Label next ∷ pieces) = record { label = label; instrs = instrs } ∷ blocks_of next [] pieces
blocks_of label instrs (piece.Instr i ∷ pieces) = blocks_of label (instrs ++ i ∷ []) pieces

-- these blocks, and then those that what is read gives to the open block
abbrev pub with_open : List Block → ℕ → List Instr → Result (List Piece × Locals × List Token) Stopped → Result (List Block × Locals × List Token) Stopped
with_open blocks label instrs r = after r (λ x. Ok (blocks ++ blocks_of label instrs x.0, x.1, x.2))

-- the bracket that closes the function
unfoldable pub closing : List ℕ → Rule Locals (Option Piece)
closing text = a_sign text (codes "}") >>= λ _. done None

-- a label, which begins a block
unfoldable pub label_piece : List ℕ → Rule Locals (Option Piece)
label_piece text = a_block_label text >>= λ label. done (Some (piece.Label label))

-- an instruction
unfoldable pub instr_piece : Rule Locals Instr → Rule Locals (Option Piece)
instr_piece instr = instr >>= λ i. done (Some (piece.Instr i))

-- the first block by its label
unfoldable pub labelled : List ℕ → Rule Locals (ℕ × List Instr)
labelled text = a_block_label text >>= λ label. done (label, [])

-- the first block without a label, which has the next number, by its first instruction
unfoldable pub unlabelled : Rule Locals Instr → Rule Locals (ℕ × List Instr)
unlabelled instr = do
  label ← no_block_label
  first ← instr
  done (label, first ∷ [])

module _ (text : List ℕ) (instr : Rule Locals Instr) where
  -- a label, which begins a block, or an instruction, or the end
  unfoldable pub a_piece : Rule Locals (Option Piece)
  a_piece = if_next (is_close text) (closing text) (if_next is_label (label_piece text) (instr_piece instr))

  -- how the first block begins: by its label, or by its first instruction
  unfoldable pub entry : Rule Locals (ℕ × List Instr)
  entry = if_next is_label (labelled text) (unlabelled instr)

  -- behind the opening bracket: all blocks, and the closing bracket
  unfoldable pub body : Rule Locals (List Block)
  body = do
    first ← entry
    pieces ← repeat a_piece
    done (blocks_of first.0 first.1 pieces)
