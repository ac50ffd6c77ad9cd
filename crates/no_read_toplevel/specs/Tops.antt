-- The forms at the top of a text (LLVM Language Reference, "Module Structure").
use Rattle.std.specs.Prelude.{ℕ, Bool, true, false, ◌||◌, List, [], codes, bytes_eq, Option, Some, None, Result, Ok, Err, if◌then◌else◌}
use Rattle.no_lex.specs.declared.token.Token.{Token}
use Rattle.no_lex.specs.declared.token.TokenKind.TheVariants as kind
use Rattle.no_ir.specs.declared.function.Role.{Role}
use Rattle.no_read_rules.specs.declared.fault.Flaw.{Flaw}
use Rattle.no_read_rules.specs.declared.fault.Flaw.TheVariants.{Syntax}
use Rattle.no_read_rules.specs.Rules.{Rule, plain, done, ◌>>=◌, lift, if_next}
use Rattle.no_read_rules.specs.Scope.{Meaning}
use Rattle.no_read_rules.specs.Spelled.{spelled, is_kind}
use Rattle.no_read_attributes.specs.Ending.{more_where, items_where}
use Rattle.no_read_toplevel.specs.Globals.{a_global}
use Rattle.no_read_functions.specs.declared.heads.Head.{Head}
use Rattle.no_read_registers.specs.declared.locals.Locals.{Locals}
use Rattle.no_read_toplevel.specs.Entities.{a_source, a_target, a_group, a_node, a_declaration}
use Rattle.no_read_functions.specs.declared.functions.Written.{Written}
use Rattle.no_read_toplevel.specs.declared.tops.Top.{Top}
use Rattle.no_read_toplevel.specs.declared.tops.Top.TheVariants as top
use Rattle.no_read_toplevel.specs.declared.tops.TopWord.{TopWord}
use Rattle.no_read_toplevel.specs.declared.tops.TopWord.TheVariants as begins
use Rattle.no_read_functions.specs.Functions.{a_function}

-- ---- what the first token begins

-- the form that a word begins, where it begins one
abbrev pub word_of : List ℕ → Option TopWord
word_of word =
    if bytes_eq word (codes "source_filename") then Some begins.Source
    else (if bytes_eq word (codes "target") then Some begins.Target
    else (if bytes_eq word (codes "define") then Some begins.Define
    else (if bytes_eq word (codes "declare") then Some begins.Declare
    else (if bytes_eq word (codes "attributes") then Some begins.Attributes
    else None))))

-- the form that a token begins by its word, where it begins one
abbrev pub word_at : List ℕ → Token → Option TopWord
word_at text token = if is_kind kind.Word token then word_of (spelled text token) else None

-- a fault of syntax where no form begins
abbrev pub or_syntax : Option TopWord → Result TopWord Flaw
or_syntax (Some word) = Ok word
or_syntax None = Err Syntax

-- the form that a token begins by its word, which has to begin one
abbrev pub top_word : List ℕ → Token → Result TopWord Flaw
top_word text token = or_syntax (word_at text token)

-- whether a form begins
abbrev pub is_top_word : Option TopWord → Bool
is_top_word (Some word) = true
is_top_word None = false

-- a form begins with the name of a global, with metadata, or with one of the words
abbrev pub begins_top : List ℕ → Token → Bool
begins_top text token = is_kind kind.Global token || (is_kind kind.Meta token || is_top_word (word_at text token))

-- ---- the forms; the state says whether a layout was stated

-- the name of the source, which has no effect
unfoldable pub source_top : Meaning → Rule Bool Top
source_top m = lift (a_source m.text) >>= λ _. done top.Nothing

-- the layout, where one is stated
abbrev pub layout_top : Option (List ℕ) → Top
layout_top None = top.Nothing
layout_top (Some layout) = top.Layout layout

-- a target: the layout, or a triple without an effect
unfoldable pub target_top : Meaning → Rule Bool Top
target_top m = a_target m.text >>= λ layout. done (layout_top layout)

-- a function that is defined
unfoldable pub function_top : Meaning → Role → Rule Bool Top
function_top m role = lift (a_function m role) >>= λ f. done (top.Function f)

-- a declared function has no blocks
abbrev pub declared : Head × Locals → Written
declared d = record { head = d.0; blocks = []; names = d.1 }

-- a function that is declared
unfoldable pub declared_top : Meaning → Role → Rule Bool Top
declared_top m role = lift (a_declaration m role) >>= λ d. done (top.Function (declared d))

-- a group of attributes
unfoldable pub group_top : Meaning → Role → Rule Bool Top
group_top m role = lift (a_group m.text role) >>= λ g. done (top.Group g.0 g.1)

-- a global
unfoldable pub global_top : Meaning → Rule Bool Top
global_top m = lift (a_global m) >>= λ g. done (top.Global g)

-- a node of metadata, which has no effect
unfoldable pub node_top : Meaning → Rule Bool Top
node_top m = lift (a_node m.text) >>= λ _. done top.Nothing

-- what follows the first word of a form
abbrev pub after_word : Meaning → Role → TopWord → Rule Bool Top
after_word m role begins.Source = source_top m
after_word m role begins.Target = target_top m
after_word m role begins.Define = function_top m role
after_word m role begins.Declare = declared_top m role
after_word m role begins.Attributes = group_top m role

-- a form that begins with a word
unfoldable pub worded : Meaning → Role → Rule Bool Top
worded m role = plain (top_word m.text) >>= after_word m role

-- one form: a global, metadata, or one that begins with a word
unfoldable pub a_top : Meaning → Role → Rule Bool Top
a_top m role = if_next (is_kind kind.Global) (global_top m) (if_next (is_kind kind.Meta) (node_top m) (worded m role))

-- one more form, where one begins
abbrev pub more_tops : Meaning → Role → Rule Bool (Option Top)
more_tops m role = more_where (begins_top m.text) (a_top m role)

-- one form after the other, as long as one begins
abbrev pub tops : Meaning → Role → Rule Bool (List Top)
tops m role = items_where (begins_top m.text) (a_top m role)
