-- Global variables (LLVM Language Reference, "Global Variables").
use Rattle.std.specs.Prelude.{ℕ, Bool, true, false, not, ◌&&◌, ◌||◌, List, [], ◌∷◌, ◌==◌, nat_lt, length, codes, Option, Some, None, Result, Ok, Err, if◌then◌else◌}
use Rattle.no_lex.specs.declared.token.Token.{Token}
use Rattle.no_lex.specs.declared.token.TokenKind.TheVariants.{Word, Meta}
use Rattle.no_ir.specs.declared.function.GlobalVar.{GlobalVar}
use Rattle.no_read_rules.specs.declared.fault.Flaw.{Flaw}
use Rattle.no_read_rules.specs.declared.fault.Flaw.TheVariants.{Syntax}
use Rattle.no_read_rules.specs.Repeated.{repeat}
use Rattle.no_read_rules.specs.Rules.{Rule, plain, done, ◌>>=◌}
use Rattle.no_read_rules.specs.Scope.{Meaning}
use Rattle.no_read_rules.specs.Spelled.{spelled, is_kind, is_word, is_sign, a_sign}
use Rattle.no_read_rules.specs.Types.{a_type}
use Rattle.no_read_constants.specs.Constants.{a_const}
use Rattle.no_read_constants.specs.Skipped.{behind}
use Rattle.no_read_attributes.specs.Attributes.{alignment_of, string_of}
use Rattle.no_read_attributes.specs.Ending.{more_where}
use Rattle.no_read_attributes.specs.Symbols.{symbol_name}
use Rattle.no_read_attributes.specs.Words.{is_node, is_one}
use Rattle.no_read_toplevel.specs.declared.globals.TailHead.{TailHead}
use Rattle.no_read_toplevel.specs.declared.globals.TailHead.TheVariants.{Align, Section, Attachment}

-- ---- names and words

-- words for linkage, visibility, preemption, the importance of addresses, and calling conventions, which have no effect
abbrev pub idle_words : List (List ℕ)
idle_words =
    codes "private" ∷ codes "internal" ∷ codes "common" ∷ codes "weak" ∷ codes "weak_odr" ∷ codes "linkonce" ∷ codes "linkonce_odr" ∷ codes "available_externally"
    ∷ codes "dso_local" ∷ codes "default" ∷ codes "hidden" ∷ codes "protected" ∷ codes "unnamed_addr" ∷ codes "local_unnamed_addr" ∷ codes "ccc" ∷ codes "fastcc" ∷ codes "coldcc" ∷ []

-- whether a token is a word without an effect before a global
abbrev pub is_idle : List ℕ → Token → Bool
is_idle text token = is_kind Word token && is_one idle_words (spelled text token)

-- whether a global is a constant
abbrev pub constant_of : List ℕ → Token → Result Bool Flaw
constant_of text token = if is_word text (codes "constant") token then Ok true else (if is_word text (codes "global") token then Ok false else Err Syntax)

-- ---- what stands behind a global

-- the name of an attachment, or of the node that it attaches; a debug node is none
abbrev pub is_metadata : List ℕ → Token → Bool
is_metadata text token = is_kind Meta token && (nat_lt 1 (length (spelled text token)) && not (is_node (spelled text token)))

-- the name of an attachment or of a node, which has to stand here
abbrev pub metadata_of : List ℕ → Token → Result (Unit {0}) Flaw
metadata_of text token = if is_metadata text token then Ok tt else Err Syntax

-- what stands behind a comma: `align`, `section`, or the name of an attachment
abbrev pub tail_head : List ℕ → Token → Result TailHead Flaw
tail_head text token =
    if is_word text (codes "align") token then Ok Align
    else (if is_word text (codes "section") token then Ok Section
    else (if is_metadata text token then Ok Attachment
    else Err Syntax))

-- what follows `align`, `section` or the name of an attachment, of which an alignment is kept
abbrev pub after_tail_head : List ℕ → TailHead → Rule (Unit {0}) (Option ℕ)
after_tail_head text Align = plain (alignment_of text) >>= λ n. done (Some n)
after_tail_head text Section = plain (string_of text) >>= λ _. done None
after_tail_head text Attachment = plain (metadata_of text) >>= λ _. done None

-- a comma, and an alignment, a section or an attachment
unfoldable pub a_tail : List ℕ → Rule (Unit {0}) (Option ℕ)
a_tail text = do
  _ ← a_sign text (codes ",")
  head ← plain (tail_head text)
  align ← after_tail_head text head
  done align

-- whether a token is a comma
abbrev pub is_comma : List ℕ → Token → Bool
is_comma text token = is_sign text (codes ",") token

-- one more of them, where a comma stands
abbrev pub more_tail : List ℕ → Rule (Unit {0}) (Option (Option ℕ))
more_tail text = more_where (is_comma text) (a_tail text)

-- the second of two, where there is one, and else the first
abbrev pub latest : Option ℕ → Option ℕ → Option ℕ
latest found None = found
latest found (Some n) = Some n

-- the last of these that there is
abbrev pub last_of : Option ℕ → List (Option ℕ) → Option ℕ
last_of found [] = found
last_of found (o ∷ others) = last_of (latest found o) others

-- alignment, section and attachments in any order and number, of which the last alignment counts
abbrev pub tails : List ℕ → Rule (Unit {0}) (Option ℕ)
tails text = repeat (more_tail text) >>= λ all. done (last_of None all)

-- ---- a global

-- a global: its name, words without an effect, whether it is a constant, its type and initialiser, and what stands behind
unfoldable pub a_global : Meaning → Rule (Unit {0}) GlobalVar
a_global m = do
  name ← plain (symbol_name m.text)
  _ ← a_sign m.text (codes "=")
  constant ← behind (is_idle m.text) (plain (constant_of m.text))
  ty ← a_type m 64
  init ← a_const m 64 ty
  align ← tails m.text
  done (record { name = name; constant = constant; ty = ty; init = init; align = align })
