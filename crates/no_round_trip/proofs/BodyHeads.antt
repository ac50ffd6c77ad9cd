-- The first words of instructions are read again.
use Rattle.std.proofs.Common.{◌≡◌, ℕ, ◌==◌, Bool, true, false, ◌&&◌, List, bytes_eq, codes, Option, Some, None, Ok, Err, if◌then◌else◌, refl, ap}
use Rattle.no_lex.specs.declared.token.Token.{Token}
use Rattle.no_lex.specs.declared.token.TokenKind.TheVariants as kind
use Rattle.no_ir.specs.declared.instruction.BinOp.TheVariants as bin
use Rattle.no_ir.specs.declared.instruction.CastOp.TheVariants as cast
use Rattle.no_read_rules.specs.declared.fault.Flaw.TheVariants.{Syntax}
use Rattle.no_read_rules.specs.Rules.{plain}
use Rattle.no_read_rules.specs.Spelled.{spelled, kind_number, is_kind, is_word, only_where}
use Rattle.no_read_instructions.specs.Calls.{void_of}
use Rattle.no_read_instructions.specs.Heads.{giver_word, action_word, or_action, or_giver, head_word, instr_head}
use Rattle.no_read_instructions.specs.declared.heads.Giver.{Giver}
use Rattle.no_read_instructions.specs.declared.heads.Giver.TheVariants as giver
use Rattle.no_read_instructions.specs.declared.heads.Action.{Action}
use Rattle.no_read_instructions.specs.declared.heads.Action.TheVariants as action
use Rattle.no_read_instructions.specs.declared.heads.InstrHead.{InstrHead}
use Rattle.no_read_instructions.specs.declared.heads.InstrHead.TheVariants as head
use Rattle.no_print.specs.Pieces.{word}
use Rattle.no_print.specs.Instructions.{binary_word, cast_word}
use Rattle.no_round_trip.specs.Spells.{Spells}
use Rattle.no_round_trip.proofs.RuleFrame.{plain_spells}

-- ---- words

abbrev pub giver_bytes : Giver → List ℕ
giver_bytes (giver.Binary b) = binary_word b
giver_bytes (giver.Cast c) = cast_word c
giver_bytes giver.Compare = codes "icmp"
giver_bytes giver.Freeze = codes "freeze"
giver_bytes giver.Select = codes "select"
giver_bytes giver.Phi = codes "phi"
giver_bytes giver.Alloca = codes "alloca"
giver_bytes giver.Load = codes "load"
giver_bytes giver.Address = codes "getelementptr"

abbrev pub action_bytes : Action → List ℕ
action_bytes action.Store = codes "store"
action_bytes action.Br = codes "br"
action_bytes action.Switch = codes "switch"
action_bytes action.Ret = codes "ret"
action_bytes action.Unreachable = codes "unreachable"

-- ---- each is read as what it begins

giver_found : (g : Giver) → giver_word (giver_bytes g) ≡ Some g
giver_found (giver.Binary bin.Add) = refl
giver_found (giver.Binary bin.Sub) = refl
giver_found (giver.Binary bin.Mul) = refl
giver_found (giver.Binary bin.UDiv) = refl
giver_found (giver.Binary bin.URem) = refl
giver_found (giver.Binary bin.SDiv) = refl
giver_found (giver.Binary bin.SRem) = refl
giver_found (giver.Binary bin.Shl) = refl
giver_found (giver.Binary bin.LShr) = refl
giver_found (giver.Binary bin.AShr) = refl
giver_found (giver.Binary bin.And) = refl
giver_found (giver.Binary bin.Or) = refl
giver_found (giver.Binary bin.Xor) = refl
giver_found (giver.Cast cast.Trunc) = refl
giver_found (giver.Cast cast.ZExt) = refl
giver_found (giver.Cast cast.SExt) = refl
giver_found (giver.Cast cast.PtrToInt) = refl
giver_found (giver.Cast cast.IntToPtr) = refl
giver_found (giver.Cast cast.BitCast) = refl
giver_found giver.Compare = refl
giver_found giver.Freeze = refl
giver_found giver.Select = refl
giver_found giver.Phi = refl
giver_found giver.Alloca = refl
giver_found giver.Load = refl
giver_found giver.Address = refl

pub giver_head : (written : Bool) (g : Giver) → head_word written (giver_bytes g) ≡ Ok (head.Gives g)
giver_head written g = ap (λ o. or_giver o written (giver_bytes g)) (giver_found g)

pub action_head : (a : Action) → head_word false (action_bytes a) ≡ Ok (head.Acts a)
action_head action.Store = refl
action_head action.Br = refl
action_head action.Switch = refl
action_head action.Ret = refl
action_head action.Unreachable = refl

pub call_head : (written : Bool) → head_word written (codes "call") ≡ Ok head.Call
call_head written = refl

pub head_spells : (text gap : List ℕ) (written : Bool) (w : List ℕ) (h : InstrHead) → head_word written w ≡ Ok h → Spells {S = Unit {0}} text (plain (instr_head text written)) tt (word gap w) h tt
head_spells text gap written w h e =
    plain_spells {S = Unit {0}} text (λ k bytes. if kind_number k == kind_number kind.Word then head_word written bytes else Err Syntax) tt (record { gap = gap; kind = kind.Word; bytes = w }) h e

-- ---- where a result is written

no_action : (bytes : List ℕ) (a : Action) → head_word true bytes ≡ Ok (head.Acts a) → ⊥
no_action bytes a e = by (giver_word bytes) e
  where
    last : (p q r s : Bool) → (if p then Ok head.Call else (if q then Ok head.TailCall else (if r then Ok head.TailCall else (if s then Ok head.TailCall else Err Syntax)))) ≡ Ok (head.Acts a) → ⊥
    last true q r s k = cc
    last false true r s k = cc
    last false false true s k = cc
    last false false false true k = cc
    last false false false false k = cc

    action : (x : Option Action) → or_action x true bytes ≡ Ok (head.Acts a) → ⊥
    action (Some x) k = cc
    action None k = last (bytes_eq bytes (codes "call")) (bytes_eq bytes (codes "tail")) (bytes_eq bytes (codes "musttail")) (bytes_eq bytes (codes "notail")) k

    by : (g : Option Giver) → or_giver g true bytes ≡ Ok (head.Acts a) → ⊥
    by (Some g) k = cc
    by None k = action (action_word bytes) k

pub no_action_named : (text : List ℕ) (token : Token) (a : Action) → instr_head text true token ≡ Ok (head.Acts a) → ⊥
no_action_named text token a e = by (is_kind kind.Word token) e
  where
    by : (b : Bool) → (if b then head_word true (spelled text token) else Err Syntax) ≡ Ok (head.Acts a) → ⊥
    by true k = no_action (spelled text token) a k
    by false k = cc

pub no_void_named : (text : List ℕ) (token : Token) → void_of text true token ≡ Ok tt → ⊥
no_void_named text token e = by (is_word text (codes "void") token) e
  where
    by : (b : Bool) → only_where (b && false) ≡ Ok tt → ⊥
    by true k = cc
    by false k = cc
