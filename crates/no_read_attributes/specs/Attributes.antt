-- Attributes (LLVM Language Reference, "Parameter Attributes", "Function Attributes" and "Attribute Groups").
use Rattle.std.specs.Prelude.{ℕ, Bool, true, false, not, ◌||◌, List, [], ◌∷◌, ◌++◌, ◌==◌, bytes_eq, codes, Option, Some, None, Result, Ok, Err, if◌then◌else◌}
use Rattle.no_lex.specs.declared.token.Token.{Token}
use Rattle.no_lex.specs.declared.token.TokenKind.{TokenKind}
use Rattle.no_lex.specs.declared.token.TokenKind.TheVariants.{Word, Integer, Group, Quoted}
use Rattle.no_ir.specs.declared.function.Role.{Role}
use Rattle.no_ir.specs.declared.function.Role.TheVariants.{Source, Part}
use Rattle.no_read_rules.specs.declared.fault.Flaw.{Flaw}
use Rattle.no_read_rules.specs.declared.fault.Flaw.TheVariants.{Syntax, Number}
use Rattle.no_read_rules.specs.Numbers.{decimal}
use Rattle.no_read_rules.specs.Repeated.{repeat}
use Rattle.no_read_rules.specs.Rules.{Rule, plain, done, ◌>>=◌, if_next}
use Rattle.no_read_rules.specs.Spelled.{spelled, is_kind, is_sign, a_sign}
use Rattle.no_read_rules.specs.Unescaped.{unescaped, inner}
use Rattle.no_read_attributes.specs.declared.attribute.Attribute.{Attribute}
use Rattle.no_read_attributes.specs.declared.attribute.Attribute.TheVariants as attribute
use Rattle.no_read_attributes.specs.declared.attribute.AttributeHead.{AttributeHead}
use Rattle.no_read_attributes.specs.declared.attribute.AttributeHead.TheVariants as head
use Rattle.no_read_attributes.specs.declared.marks.Mark.{Mark}
use Rattle.no_read_attributes.specs.declared.marks.Mark.TheVariants as mark
use Rattle.no_read_attributes.specs.Brackets.{bracketed}
use Rattle.no_read_attributes.specs.Ending.{more_where, list_goes_on, ahead}
use Rattle.no_read_attributes.specs.Words.{is_attribute_word, is_record}

-- ---- alignments

-- a power of two up to 65,536
abbrev pub is_alignment : ℕ → Bool
is_alignment n =
    n == 1 || n == 2 || n == 4 || n == 8 || n == 16 || n == 32 || n == 64 || n == 128 || n == 256 || n == 512 || n == 1024
    || n == 2048 || n == 4096 || n == 8192 || n == 16384 || n == 32768 || n == 65536

-- a power of two up to 65,536, or else a fault of number
abbrev pub aligned : Option ℕ → Result ℕ Flaw
aligned None = Err Number
aligned (Some n) = if is_alignment n then Ok n else Err Number

-- the number of an alignment
abbrev pub alignment_of : List ℕ → Token → Result ℕ Flaw
alignment_of text token = if is_kind Integer token then aligned (decimal 65536 (spelled text token)) else Err Syntax

-- ---- one attribute

-- whether an attribute begins with a token of this kind and spelling
abbrev pub begins_by : TokenKind → List ℕ → Bool
begins_by Word spelling = is_attribute_word spelling
begins_by Quoted spelling = true
begins_by Group spelling = not (is_record spelling)
begins_by _ spelling = false

-- whether an attribute begins with this token
abbrev pub begins_attribute : List ℕ → Token → Bool
begins_attribute text token = begins_by token.kind (spelled text token)

-- what a token of this kind and spelling begins
abbrev pub head_by : TokenKind → List ℕ → Token → Result AttributeHead Flaw
head_by Word spelling token = if is_attribute_word spelling then Ok (if bytes_eq spelling (codes "align") then head.Align else head.Word) else Err Syntax
head_by Quoted spelling token = Ok (head.Text token)
head_by Group spelling token = if is_record spelling then Err Syntax else Ok (head.Group token)
head_by _ spelling token = Err Syntax

-- what the first token of an attribute begins
abbrev pub attribute_head : List ℕ → Token → Result AttributeHead Flaw
attribute_head text token = head_by token.kind (spelled text token) token

-- with which token a word, `align` and a string go on: a bracketed group, a number, a value
abbrev pub goes_on : List ℕ → Attribute → Token → Bool
goes_on text attribute.Word token = is_sign text (codes "(") token
goes_on text attribute.Align token = is_kind Integer token || is_sign text (codes "(") token
goes_on text (attribute.Text key) token = is_sign text (codes "=") token
goes_on text _ token = false

-- behind `align`: a number, or a bracketed group
unfoldable pub align_tail : List ℕ → Rule (Unit {0}) (Unit {0})
align_tail text = if_next (is_kind Integer) (plain (alignment_of text) >>= λ _. done tt) (bracketed text (codes "(") (codes ")"))

-- a string, as its token
abbrev pub string_of : List ℕ → Token → Result Token Flaw
string_of text token = if is_kind Quoted token then Ok token else Err Syntax

-- behind a string: a value
unfoldable pub value_tail : List ℕ → Rule (Unit {0}) Token
value_tail text = do
  _ ← a_sign text (codes "=")
  value ← plain (string_of text)
  done value

-- what follows the first token of an attribute
abbrev pub after_head : List ℕ → AttributeHead → Rule (Unit {0}) Attribute
after_head text head.Word = if_next (goes_on text attribute.Word) (bracketed text (codes "(") (codes ")") >>= λ _. done attribute.Closed) (done attribute.Word)
after_head text head.Align = if_next (goes_on text attribute.Align) (align_tail text >>= λ _. done attribute.Closed) (done attribute.Align)
after_head text (head.Text key) = if_next (goes_on text (attribute.Text key)) (value_tail text >>= λ value. done (attribute.Pair key value)) (done (attribute.Text key))
after_head text (head.Group group) = done (attribute.Group group)

-- a word with an optional bracketed group, `align` with a number, a string with an optional value, or the name of a group
unfoldable pub an_attribute : List ℕ → Rule (Unit {0}) Attribute
an_attribute text = plain (attribute_head text) >>= after_head text

-- ---- all attributes at a place

-- one more attribute, where one begins
abbrev pub more_attribute : List ℕ → Rule (Unit {0}) (Option Attribute)
more_attribute text = more_where (begins_attribute text) (an_attribute text)

-- the attributes at a place, as many as there are
abbrev pub all_attributes : List ℕ → Rule (Unit {0}) (List Attribute)
all_attributes text = repeat (more_attribute text)

-- tokens with which attributes may go on
abbrev pub may_go_on : List ℕ → Token → Bool
may_go_on text token = begins_attribute text token || is_kind Integer token || is_sign text (codes "(") token || is_sign text (codes "=") token

-- with which tokens these attributes go on
abbrev pub all_go_on : List ℕ → List Attribute → Token → Bool
all_go_on text = list_goes_on (begins_attribute text) (goes_on text)

-- attributes, and what follows them
abbrev pub behind_attributes : {A : Type 0} → List ℕ → Rule (Unit {0}) A → Rule (Unit {0}) A
behind_attributes text p = ahead (all_go_on text) (all_attributes text) (λ all. p)

-- attributes that have no effect
abbrev pub skip_attributes : List ℕ → Rule (Unit {0}) (Unit {0})
skip_attributes text = all_attributes text >>= λ _. done tt

-- ---- attributes with an effect

-- whether a string spells these bytes
abbrev pub says : List ℕ → Token → List ℕ → Bool
says text token bytes = bytes_eq (unescaped (inner (spelled text token))) bytes

-- the device address that an attribute sets, where it is a number
abbrev pub at_address : Option ℕ → Option Mark
at_address (Some n) = Some (mark.Address n)
at_address None = None

-- a decimal number below 2^32
abbrev pub address_of : List ℕ → Option ℕ
address_of [] = None
address_of (b ∷ bytes) = decimal 4294967295 (b ∷ bytes)

-- the device address that an attribute sets, in a server's part alone
abbrev pub address_mark : Role → List ℕ → Option Mark
address_mark Source value = None
address_mark Part value = at_address (address_of value)

-- what a string alone sets
abbrev pub text_mark : List ℕ → Token → Option Mark
text_mark text key = if says text key (codes "machine-bound") then Some mark.Bound else None

-- what a string with a value sets
abbrev pub pair_mark : List ℕ → Role → Token → Token → Option Mark
pair_mark text role key value =
    if says text key (codes "machine-bound") then Some mark.Bound
    else (if says text key (codes "no.addr") then address_mark role (unescaped (inner (spelled text value))) else None)

-- what an attribute sets
abbrev pub mark_of : List ℕ → Role → Attribute → Option Mark
mark_of text role (attribute.Text key) = text_mark text key
mark_of text role (attribute.Pair key value) = pair_mark text role key value
mark_of text role (attribute.Group group) = Some (mark.Group group)
mark_of text role _ = None

-- one or none, as a list
abbrev pub listed : Option Mark → List Mark
listed None = []
listed (Some m) = m ∷ []

-- what attributes set, in order
abbrev pub all_marks : List ℕ → Role → List Attribute → List Mark
all_marks text role [] = []
all_marks text role (a ∷ others) = listed (mark_of text role a) ++ all_marks text role others

-- the attributes at a place, of which those with an effect are kept, in order
abbrev pub attribute_marks : List ℕ → Role → Rule (Unit {0}) (List Mark)
attribute_marks text role = all_attributes text >>= λ all. done (all_marks text role all)
