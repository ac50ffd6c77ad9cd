-- What stands at the top of a text beside the functions that are defined (LLVM Language Reference, "Module Structure", "Target Triple", "Data Layout", "Attribute Groups", "Metadata").
use Rattle.std.specs.Prelude.{◌≡◌, ℕ, Bool, true, false, not, ◌&&◌, List, [], ◌∷◌, bytes_eq, codes, Option, Some, None, Result, Ok, Err, if◌then◌else◌}
use Rattle.no_lex.specs.declared.token.Token.{Token}
use Rattle.no_lex.specs.declared.token.TokenKind.TheVariants.{Word, Global, Group, Meta}
use Rattle.no_ir.specs.declared.function.GlobalVar.{GlobalVar}
use Rattle.no_ir.specs.declared.function.Role.{Role}
use Rattle.no_ir.specs.declared.function.Role.TheVariants.{Source}
use Rattle.no_read_rules.specs.declared.fault.Flaw.{Flaw}
use Rattle.no_read_rules.specs.declared.fault.Flaw.TheVariants.{Syntax}
use Rattle.no_read_rules.specs.Rules.{Rule, one, plain, done, ◌>>=◌, lift, maybe}
use Rattle.no_read_rules.specs.Scope.{Meaning}
use Rattle.no_read_rules.specs.Spelled.{spelled, is_kind, is_word, a_word, a_sign}
use Rattle.no_read_rules.specs.Unescaped.{unescaped, inner}
use Rattle.no_read_attributes.specs.Attributes.{string_of, attribute_marks}
use Rattle.no_read_attributes.specs.Brackets.{bracketed}
use Rattle.no_read_attributes.specs.Own.{inside}
use Rattle.no_read_attributes.specs.Words.{is_record}
use Rattle.no_read_attributes.specs.declared.marks.Mark.{Mark}
use Rattle.no_read_toplevel.specs.Globals.{metadata_of}
use Rattle.no_read_functions.specs.Heads.{a_head}
use Rattle.no_read_functions.specs.declared.heads.Head.{Head}
use Rattle.no_read_registers.specs.declared.locals.Locals.{Locals}
use Rattle.no_read_registers.specs.Numbered.{no_locals_yet}

-- ---- texts without an effect, and the layout

-- behind `source_filename`: a string without an effect
unfoldable pub a_source : List ℕ → Rule (Unit {0}) (Unit {0})
a_source text = do
  _ ← a_sign text (codes "=")
  _ ← plain (string_of text)
  done tt

-- whether the layout is stated; a second one is refused
abbrev pub target_of : List ℕ → Bool → Token → Result (Bool × Bool) Flaw
target_of text stated token =
    if is_word text (codes "triple") token then Ok (false, stated)
    else (if is_word text (codes "datalayout") token then (if stated then Err Syntax else Ok (true, true))
    else Err Syntax)

-- the layout, where it is one
abbrev pub layout_of : List ℕ → Bool → Token → Option (List ℕ)
layout_of text layout token = if layout then Some (unescaped (inner (spelled text token))) else None

-- behind `target`: a triple without an effect, or the layout; the state says whether a layout was stated
unfoldable pub a_target : List ℕ → Rule Bool (Option (List ℕ))
a_target text = do
  layout ← one (target_of text)
  _ ← a_sign text (codes "=")
  token ← lift (plain (string_of text))
  done (layout_of text layout token)

-- ---- groups of attributes

-- the name of a group of attributes, as its token
abbrev pub group_of : List ℕ → Token → Result Token Flaw
group_of text token = if is_kind Group token && not (is_record (spelled text token)) then Ok token else Err Syntax

-- behind `attributes`: the name of a group, and its attributes
unfoldable pub a_group : List ℕ → Role → Rule (Unit {0}) (Token × List Mark)
a_group text role = do
  group ← plain (group_of text)
  _ ← a_sign text (codes "=")
  _ ← a_sign text (codes "{")
  marks ← attribute_marks text role
  _ ← a_sign text (codes "}")
  done (group, marks)

-- ---- metadata

-- the sign of metadata alone
abbrev pub is_bare : List ℕ → Token → Bool
is_bare text token = is_kind Meta token && bytes_eq (spelled text token) (codes "!")

-- the sign of metadata alone, which has to stand here
abbrev pub bare_of : List ℕ → Token → Result (Unit {0}) Flaw
bare_of text token = if is_bare text token then Ok tt else Err Syntax

-- whether a token is the word `distinct`
abbrev pub is_distinct : List ℕ → Token → Bool
is_distinct text token = is_word text (codes "distinct") token

-- metadata has no effect
unfoldable pub a_node : List ℕ → Rule (Unit {0}) (Unit {0})
a_node text = do
  _ ← plain (metadata_of text)
  _ ← a_sign text (codes "=")
  _ ← maybe (is_distinct text) (a_word text (codes "distinct"))
  _ ← plain (bare_of text)
  bracketed text (codes "{") (codes "}")

-- ---- declared functions

-- behind `declare`: a head, and the names of its parameters, which are their places
abbrev pub a_declaration : Meaning → Role → Rule (Unit {0}) (Head × Locals)
a_declaration m role = inside no_locals_yet (a_head m role false)
