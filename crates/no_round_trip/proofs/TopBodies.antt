-- The bodies of functions are read again, and the states in which they are.
use Rattle.std.proofs.Common.{ℕ, List, [], ◌++◌, codes, sym, append-nil}
use Rattle.no_ir.specs.declared.function.Block.{Block}
use Rattle.no_ir.specs.declared.function.Role.{Role}
use Rattle.no_lex.specs.declared.token.Token.{Token}
use Rattle.no_read_rules.specs.Scope.{Meaning}
use Rattle.no_read_functions.specs.Blocks.{body}
use Rattle.no_read_instructions.specs.Instructions.{an_instr}
use Rattle.no_read_registers.specs.declared.locals.Locals.{Locals}
use Rattle.no_print.specs.Modules.{blocks_pieces}
use Rattle.no_print.specs.Pieces.{lined, sign}
use Rattle.no_round_trip.specs.States.{Like, Follows, IsFine, named_by}
use Rattle.no_round_trip.proofs.BodyReturning.{Returns}
use Rattle.no_round_trip.specs.Spells.{over, spelled_by}

-- states of the same names, of which the first has bytes
pub record Alike (s z : Locals) : Type 0 where
  pub like : Like s z
  pub fine : IsFine s

-- a state has its own names
pub follows_self : (t : Locals) → Follows t t
follows_self t = record { registers = record { rest = []; is = sym (append-nil t.registers) }; labels = record { rest = []; is = sym (append-nil t.labels) } }

-- a body is spelled with the names that it ends with
abbrev pub BodyBack : Meaning → List ℕ → Role → Type 0
BodyBack m text role =
    (s t : Locals) (tokens : List Token) (bs : List Block) → (body m.text (an_instr m role)).means s tokens bs t
    → Returns text t (body text (an_instr (over m text) role)) (blocks_pieces (spelled_by m) (named_by t) bs ++ sign lined (codes "}")) bs s t
