-- No instruction, label or closing bracket begins with what an instruction may go on with.
use Rattle.std.proofs.Common.{◌≡◌, ℕ, Bool, true, false, ◌||◌, ◌==◌, if◌then◌else◌, List, [], ◌∷◌, ◌++◌, bytes_eq, codes, Option, Some, None, is_some, Result, Ok, Err, inl, inr, refl, sym, ap, ◌∙◌}
use Rattle.std.proofs.lemmas.Slice.Eq.{bytes_eq-Decides}
use Rattle.no_lex.specs.declared.token.Token.{Token}
use Rattle.no_lex.specs.declared.token.TokenKind.{TokenKind}
use Rattle.no_lex.specs.declared.token.TokenKind.TheVariants as kind
use Rattle.no_ir.specs.declared.function.Role.{Role}
use Rattle.no_ir.specs.declared.instruction.Instr.{Instr}
use Rattle.no_ir.specs.declared.instruction.BinOp.{BinOp}
use Rattle.no_ir.specs.declared.instruction.BinOp.TheVariants as bin
use Rattle.no_ir.specs.declared.instruction.CastOp.{CastOp}
use Rattle.no_ir.specs.declared.instruction.CastOp.TheVariants as cast
use Rattle.no_words.specs.Words.{binary_named, cast_named}
use Rattle.no_read_rules.specs.declared.fault.Flaw.{Flaw}
use Rattle.no_read_rules.specs.declared.fault.Flaw.TheVariants.{Syntax}
use Rattle.no_read_rules.specs.Rules.{keeping, next_is, IsSolid}
use Rattle.no_read_rules.specs.Scope.{Meaning}
use Rattle.no_read_rules.specs.Spelled.{kind_number, spelled, is_kind, is_sign}
use Rattle.no_read_rules.proofs.Laws.{first_solid, if_next_solid}
use Rattle.no_read_attributes.specs.Attributes.{may_go_on}
use Rattle.no_read_attributes.specs.Words.{is_attribute_word}
use Rattle.no_read_functions.proofs.HeadLaws.{sign_ends, sign_other}
use Rattle.no_read_registers.specs.declared.locals.Locals.{Locals}
use Rattle.no_read_registers.proofs.LocalLaws.{definition_solid}
use Rattle.no_read_instructions.specs.Heads.{other_word, or_cast, giver_word, or_binary, action_word, call_word, or_action, or_giver, head_word, instr_head}
use Rattle.no_read_instructions.specs.Instructions.{instr_body, named_instr, an_instr, instr_goes_on}
use Rattle.no_read_instructions.specs.declared.heads.Giver.{Giver}
use Rattle.no_read_instructions.specs.declared.heads.Giver.TheVariants as giver
use Rattle.no_read_instructions.specs.declared.heads.Action.{Action}
use Rattle.no_read_instructions.specs.declared.heads.Action.TheVariants as action
use Rattle.no_read_instructions.specs.declared.heads.InstrHead.{InstrHead}
use Rattle.no_read_instructions.specs.declared.heads.InstrHead.TheVariants as head
use Rattle.no_read_instructions.proofs.InstrLaws.{body_solid}
use Rattle.no_read_functions.specs.Blocks.{is_close, is_label}

either_false : (b c : Bool) → (b || c) ≡ false → b ≡ false
either_false true c e = absurd cc
either_false false c e = refl

neither : (b c : Bool) → b ≡ false → c ≡ false → (b || c) ≡ false
neither b c e f = rw (e, f) refl

pub close_apart : (text : List ℕ) (t : Token) → is_close text t ≡ true → instr_goes_on text t ≡ false
close_apart text t is = neither (is_sign text (codes ",") t) (may_go_on text t) (sign_other text (codes "}") (codes ",") t refl is)
    (either_false (may_go_on text t) (is_kind kind.Local t) (sign_ends text (codes "}") t refl refl is))

-- tokens of a kind that begins no attribute and is no sign and no number
pub label_apart : (text : List ℕ) (t : Token) → is_label t ≡ true → instr_goes_on text t ≡ false
label_apart text t is = by t.kind is
  where
    by : (k : TokenKind) → (kind_number k == 9) ≡ true → instr_goes_on text (record { kind = k; start = t.start; end = t.end }) ≡ false
    by kind.Word is = absurd cc
    by kind.Integer is = absurd cc
    by kind.Global is = absurd cc
    by kind.Local is = absurd cc
    by kind.Group is = absurd cc
    by kind.Meta is = absurd cc
    by kind.Quoted is = absurd cc
    by kind.CMark is = absurd cc
    by kind.Sign is = absurd cc
    by kind.Label is = refl

-- a word that is no attribute
pub word_apart : (text : List ℕ) (t : Token) → is_kind kind.Word t ≡ true → is_attribute_word (spelled text t) ≡ false → instr_goes_on text t ≡ false
word_apart text t is out = by t.kind is
  where
    by : (k : TokenKind) → (kind_number k == 0) ≡ true → instr_goes_on text (record { kind = k; start = t.start; end = t.end }) ≡ false
    by kind.Word is = rw out refl
    by kind.Integer is = absurd cc
    by kind.Global is = absurd cc
    by kind.Local is = absurd cc
    by kind.Group is = absurd cc
    by kind.Meta is = absurd cc
    by kind.Quoted is = absurd cc
    by kind.CMark is = absurd cc
    by kind.Sign is = absurd cc
    by kind.Label is = absurd cc

-- one of the words that are no attributes
same_word : (word w : List ℕ) → is_attribute_word w ≡ false → bytes_eq word w ≡ true → is_attribute_word word ≡ false
same_word word w out is = ap is_attribute_word ((bytes_eq-Decides word w).0 is) ∙ out

module _ {X : Type 0} (word w : List ℕ) (x : X) where
  -- the first word that passes in a row of tests
  or_else : (o : Option X) (y : X) → is_attribute_word w ≡ false → (o ≡ Some y → is_attribute_word word ≡ false) → (if bytes_eq word w then Some x else o) ≡ Some y → is_attribute_word word ≡ false
  or_else o y out more e = go (bytes_eq word w) refl e
    where
      go : (b : Bool) → bytes_eq word w ≡ b → (if b then Some x else o) ≡ Some y → is_attribute_word word ≡ false
      go true is f = same_word word w out is
      go false is f = more f

  or_fault : (o : Result X Flaw) (y : X) → is_attribute_word w ≡ false → (o ≡ Ok y → is_attribute_word word ≡ false) → (if bytes_eq word w then Ok x else o) ≡ Ok y → is_attribute_word word ≡ false
  or_fault o y out more e = go (bytes_eq word w) refl e
    where
      go : (b : Bool) → bytes_eq word w ≡ b → (if b then Ok x else o) ≡ Ok y → is_attribute_word word ≡ false
      go true is f = same_word word w out is
      go false is f = more f

binary_out : (word : List ℕ) (y : BinOp) → binary_named word ≡ Some y → is_attribute_word word ≡ false
binary_out word y e =
    or_else word (codes "add") bin.Add _ y refl (
    or_else word (codes "sub") bin.Sub _ y refl (
    or_else word (codes "mul") bin.Mul _ y refl (
    or_else word (codes "udiv") bin.UDiv _ y refl (
    or_else word (codes "urem") bin.URem _ y refl (
    or_else word (codes "sdiv") bin.SDiv _ y refl (
    or_else word (codes "srem") bin.SRem _ y refl (
    or_else word (codes "shl") bin.Shl _ y refl (
    or_else word (codes "lshr") bin.LShr _ y refl (
    or_else word (codes "ashr") bin.AShr _ y refl (
    or_else word (codes "and") bin.And _ y refl (
    or_else word (codes "or") bin.Or _ y refl (
    or_else word (codes "xor") bin.Xor _ y refl (
    λ e. absurd cc))))))))))))) e

cast_out : (word : List ℕ) (y : CastOp) → cast_named word ≡ Some y → is_attribute_word word ≡ false
cast_out word y e =
    or_else word (codes "trunc") cast.Trunc _ y refl (
    or_else word (codes "zext") cast.ZExt _ y refl (
    or_else word (codes "sext") cast.SExt _ y refl (
    or_else word (codes "ptrtoint") cast.PtrToInt _ y refl (
    or_else word (codes "inttoptr") cast.IntToPtr _ y refl (
    or_else word (codes "bitcast") cast.BitCast _ y refl (
    λ e. absurd cc)))))) e

other_out : (word : List ℕ) (y : Giver) → other_word word ≡ Some y → is_attribute_word word ≡ false
other_out word y e =
    or_else word (codes "icmp") giver.Compare _ y refl (
    or_else word (codes "freeze") giver.Freeze _ y refl (
    or_else word (codes "select") giver.Select _ y refl (
    or_else word (codes "phi") giver.Phi _ y refl (
    or_else word (codes "alloca") giver.Alloca _ y refl (
    or_else word (codes "load") giver.Load _ y refl (
    or_else word (codes "getelementptr") giver.Address _ y refl (
    λ e. absurd cc))))))) e

action_out : (word : List ℕ) (y : Action) → action_word word ≡ Some y → is_attribute_word word ≡ false
action_out word y e =
    or_else word (codes "store") action.Store _ y refl (
    or_else word (codes "br") action.Br _ y refl (
    or_else word (codes "switch") action.Switch _ y refl (
    or_else word (codes "ret") action.Ret _ y refl (
    or_else word (codes "unreachable") action.Unreachable _ y refl (
    λ e. absurd cc))))) e

call_out : (word : List ℕ) (y : InstrHead) → call_word word ≡ Ok y → is_attribute_word word ≡ false
call_out word y e =
    or_fault word (codes "call") head.Call _ y refl (
    or_fault word (codes "tail") head.TailCall _ y refl (
    or_fault word (codes "musttail") head.TailCall _ y refl (
    or_fault word (codes "notail") head.TailCall _ y refl (
    λ e. absurd cc)))) e

giver_out : (word : List ℕ) (y : Giver) → giver_word word ≡ Some y → is_attribute_word word ≡ false
giver_out word y e = go (binary_named word) (cast_named word) refl refl e
  where
    go : (b : Option BinOp) (c : Option CastOp) → binary_named word ≡ b → cast_named word ≡ c → or_binary b word ≡ Some y → is_attribute_word word ≡ false
    go (Some b) c is also f = binary_out word b is
    go None (Some c) is also f = cast_out word c also
    go None None is also f = other_out word y (sym (ap (λ (o : Option CastOp). or_cast o word) also) ∙ f)

head_out : (written : Bool) (word : List ℕ) (h : InstrHead) → head_word written word ≡ Ok h → is_attribute_word word ≡ false
head_out written word h e = go (giver_word word) (action_word word) refl refl e
  where
    go : (g : Option Giver) (a : Option Action) → giver_word word ≡ g → action_word word ≡ a → or_giver g written word ≡ Ok h → is_attribute_word word ≡ false
    go (Some g) a is also f = giver_out word g is
    go None (Some a) is also f = action_out word a also
    go None None is also f = call_out word h (sym (ap (λ (o : Option Action). or_action o written word) also) ∙ f)

-- what begins an instruction
token_out : (text : List ℕ) (written : Bool) (t : Token) (s u : Unit {0}) (h : InstrHead) → keeping s (instr_head text written t) ≡ Ok (h, u) → instr_goes_on text t ≡ false
token_out text written t s u h e = go (is_kind kind.Word t) (head_word written (spelled text t)) refl refl e
  where
    go : (b : Bool) (r : Result InstrHead Flaw) → is_kind kind.Word t ≡ b → head_word written (spelled text t) ≡ r → keeping s (if b then r else Err Syntax) ≡ Ok (h, u) → instr_goes_on text t ≡ false
    go true (Ok g) is read f = word_apart text t is (head_out written (spelled text t) g read)
    go true (Err d) is read f = absurd cc
    go false r is read f = absurd cc

local_apart : (text : List ℕ) (t : Token) → is_kind kind.Local t ≡ true → instr_goes_on text t ≡ false
local_apart text t is = by t.kind is
  where
    by : (k : TokenKind) → (kind_number k == 3) ≡ true → instr_goes_on text (record { kind = k; start = t.start; end = t.end }) ≡ false
    by kind.Word is = absurd cc
    by kind.Integer is = absurd cc
    by kind.Global is = absurd cc
    by kind.Local is = refl
    by kind.Group is = absurd cc
    by kind.Meta is = absurd cc
    by kind.Quoted is = absurd cc
    by kind.CMark is = absurd cc
    by kind.Sign is = absurd cc
    by kind.Label is = absurd cc

named_apart : (text : List ℕ) (used : List Token) → next_is (is_kind kind.Local) used ≡ true → next_is (instr_goes_on text) used ≡ false
named_apart text [] is = refl
named_apart text (u ∷ used) is = local_apart text u is

body_apart : (m : Meaning) (role : Role) (written : Option ℕ) (s t : Locals) (used : List Token) (i : Instr) → (instr_body m role written).means s used i t → next_is (instr_goes_on m.text) used ≡ false
unfolding instr_body
body_apart m role written s t used i k =
    ap (next_is (instr_goes_on m.text)) (k.parts ∙ ap (λ (l : List Token). l ++ k.back) k.in_front.0.alone) ∙ token_out m.text (is_some written) k.in_front.0.token tt tt k.first k.in_front.0.value

pub instr_apart : (m : Meaning) (role : Role) (s t : Locals) (used : List Token) (i : Instr) → (an_instr m role).means s used i t → next_is (instr_goes_on m.text) used ≡ false
unfolding an_instr
instr_apart m role s t used i (inl k) = named_apart m.text used k.0
instr_apart m role s t used i (inr k) = body_apart m role None s t used i k.1

pub instr_solid : (m : Meaning) (role : Role) → IsSolid (an_instr m role)
unfolding an_instr named_instr
instr_solid m role = if_next_solid (is_kind kind.Local) (named_instr m role) (instr_body m role None) (first_solid _ _ (definition_solid m.text)) (body_solid m role None)
