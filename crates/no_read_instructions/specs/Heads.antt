-- What the first word of an instruction begins (LLVM Language Reference, "Instruction Reference").
use Rattle.std.specs.Prelude.{ℕ, Bool, List, bytes_eq, codes, Option, Some, None, Result, Ok, Err, if◌then◌else◌}
use Rattle.no_lex.specs.declared.token.Token.{Token}
use Rattle.no_lex.specs.declared.token.TokenKind.TheVariants.{Word}
use Rattle.no_ir.specs.declared.instruction.BinOp.{BinOp}
use Rattle.no_ir.specs.declared.instruction.CastOp.{CastOp}
use Rattle.no_words.specs.Words.{binary_named, cast_named}
use Rattle.no_read_rules.specs.declared.fault.Flaw.{Flaw}
use Rattle.no_read_rules.specs.declared.fault.Flaw.TheVariants.{Syntax}
use Rattle.no_read_rules.specs.Spelled.{spelled, is_kind}
use Rattle.no_read_instructions.specs.declared.heads.Giver.{Giver}
use Rattle.no_read_instructions.specs.declared.heads.Giver.TheVariants as giver
use Rattle.no_read_instructions.specs.declared.heads.Action.{Action}
use Rattle.no_read_instructions.specs.declared.heads.Action.TheVariants as action
use Rattle.no_read_instructions.specs.declared.heads.InstrHead.{InstrHead}
use Rattle.no_read_instructions.specs.declared.heads.InstrHead.TheVariants as head

-- what else with a result a word begins
abbrev pub other_word : List ℕ → Option Giver
other_word word =
    if bytes_eq word (codes "icmp") then Some giver.Compare
    else (if bytes_eq word (codes "freeze") then Some giver.Freeze
    else (if bytes_eq word (codes "select") then Some giver.Select
    else (if bytes_eq word (codes "phi") then Some giver.Phi
    else (if bytes_eq word (codes "alloca") then Some giver.Alloca
    else (if bytes_eq word (codes "load") then Some giver.Load
    else (if bytes_eq word (codes "getelementptr") then Some giver.Address
    else None))))))

-- a conversion, or else what the word begins without one
abbrev pub or_cast : Option CastOp → List ℕ → Option Giver
or_cast (Some op) word = Some (giver.Cast op)
or_cast None word = other_word word

-- a binary operator, or else what the word begins without one
abbrev pub or_binary : Option BinOp → List ℕ → Option Giver
or_binary (Some op) word = Some (giver.Binary op)
or_binary None word = or_cast (cast_named word) word

-- a word that begins an instruction with a result
abbrev pub giver_word : List ℕ → Option Giver
giver_word word = or_binary (binary_named word) word

-- a word that begins an instruction without one
abbrev pub action_word : List ℕ → Option Action
action_word word =
    if bytes_eq word (codes "store") then Some action.Store
    else (if bytes_eq word (codes "br") then Some action.Br
    else (if bytes_eq word (codes "switch") then Some action.Switch
    else (if bytes_eq word (codes "ret") then Some action.Ret
    else (if bytes_eq word (codes "unreachable") then Some action.Unreachable
    else None))))

-- `call`, or a word that stands before it
abbrev pub call_word : List ℕ → Result InstrHead Flaw
call_word word =
    if bytes_eq word (codes "call") then Ok head.Call
    else (if bytes_eq word (codes "tail") then Ok head.TailCall
    else (if bytes_eq word (codes "musttail") then Ok head.TailCall
    else (if bytes_eq word (codes "notail") then Ok head.TailCall
    else Err Syntax)))

-- where a result is written, no instruction without one stands
abbrev pub or_action : Option Action → Bool → List ℕ → Result InstrHead Flaw
or_action (Some a) written word = if written then Err Syntax else Ok (head.Acts a)
or_action None written word = call_word word

-- an instruction with a result, or else what the word begins without one
abbrev pub or_giver : Option Giver → Bool → List ℕ → Result InstrHead Flaw
or_giver (Some g) written word = Ok (head.Gives g)
or_giver None written word = or_action (action_word word) written word

-- what the first word of an instruction begins, behind a written result or not
abbrev pub head_word : Bool → List ℕ → Result InstrHead Flaw
head_word written word = or_giver (giver_word word) written word

-- what the first token of an instruction begins, behind a written result or not
abbrev pub instr_head : List ℕ → Bool → Token → Result InstrHead Flaw
instr_head text written token = if is_kind Word token then head_word written (spelled text token) else Err Syntax
