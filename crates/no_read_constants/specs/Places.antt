-- Addresses inside symbols (LLVM Language Reference, "Constant Expressions").
use Rattle.std.specs.Prelude.{ℕ, ◌*◌, ◌^◌, Bool, ◌&&◌, ◌||◌, List, [], ◌∷◌, ◌==◌, nat_lt, drop, position, bytes_eq, codes, Option, Some, None, Result, Ok, Err, ℤ, pos, ◌-ℤ◌, if◌then◌else◌}
use Rattle.no_eval.specs.Numbers.{signed}
use Rattle.no_lex.specs.declared.token.Token.{Token}
use Rattle.no_lex.specs.declared.token.TokenKind.{TokenKind}
use Rattle.no_lex.specs.declared.token.TokenKind.TheVariants.{Word, Integer, Global}
use Rattle.no_ir.specs.declared.types.Ty.TheVariants as ty
use Rattle.no_ir.specs.declared.constant.Symbol.{Symbol}
use Rattle.no_ir.specs.declared.constant.Symbol.TheVariants as symbol
use Rattle.no_ir.specs.declared.constant.Place.{Place}
use Rattle.no_read_rules.specs.declared.fault.Flaw.{Flaw}
use Rattle.no_read_rules.specs.declared.fault.Flaw.TheVariants.{Syntax}
use Rattle.no_read_rules.specs.declared.types.TypeHead.{TypeHead}
use Rattle.no_read_rules.specs.declared.types.TypeHead.TheVariants as head
use Rattle.no_read_rules.specs.Lists.{more_item}
use Rattle.no_read_rules.specs.Numbers.{integer_at}
use Rattle.no_read_rules.specs.Repeated.{repeat}
use Rattle.no_read_rules.specs.Rules.{Rule, plain, done, ◌>>=◌}
use Rattle.no_read_rules.specs.Scope.{Meaning}
use Rattle.no_read_rules.specs.Spelled.{spelled, is_kind, is_word, a_word, a_sign}
use Rattle.no_read_rules.specs.Types.{a_type, word_type}
use Rattle.no_read_rules.specs.Unescaped.{name_of}
use Rattle.no_read_constants.specs.Skipped.{behind}
use Rattle.no_read_constants.specs.declared.places.PlaceHead.{PlaceHead}
use Rattle.no_read_constants.specs.declared.places.PlaceHead.TheVariants.{Bare, Gep}

-- ---- names of globals and functions

-- a function, or else a name that the module does not define
abbrev pub or_function : Option ℕ → List ℕ → Symbol
or_function (Some n) name = symbol.Function n
or_function None name = symbol.Unknown name

-- a global, or else a function, or else a name that the module does not define
abbrev pub or_global : Option ℕ → Option ℕ → List ℕ → Symbol
or_global (Some n) function name = symbol.Global n
or_global None function name = or_function function name

-- the first global of a name, or else the first function, or else a name that the module doesn't define
abbrev pub symbol_named : Meaning → List ℕ → Symbol
symbol_named m name = or_global (position (bytes_eq name) m.globals) (position (bytes_eq name) m.functions) name

-- the symbol that a token names
abbrev pub symbol_of : Meaning → Token → Result Symbol Flaw
symbol_of m token = if is_kind Global token then Ok (symbol_named m (name_of (drop 1 (spelled m.text token)))) else Err Syntax

-- ---- integers at a width

-- an integer type alone
abbrev pub int_width : Result TypeHead Flaw → Result ℕ Flaw
int_width (Ok (head.Int w)) = Ok w
int_width (Ok _) = Err Syntax
int_width (Err flaw) = Err flaw

-- the width of the integer type that a token is
abbrev pub width_of : List ℕ → Token → Result ℕ Flaw
width_of text token = if is_kind Word token then int_width (word_type (spelled text token)) else Err Syntax

-- `true` and `false` are numbers of one bit
abbrev pub truth_at : ℕ → List ℕ → Result ℕ Flaw
truth_at w word = if w == 1 && bytes_eq word (codes "true") then Ok 1 else (if w == 1 && bytes_eq word (codes "false") then Ok 0 else Err Syntax)

-- a number of w bits from a token of this kind and spelling: an integer, `true` or `false`
abbrev pub number_by : ℕ → TokenKind → List ℕ → Result ℕ Flaw
number_by w Integer spelling = integer_at w spelling
number_by w Word spelling = truth_at w spelling
number_by w _ spelling = Err Syntax

-- a number written at an integer type
abbrev pub number_at : List ℕ → ℕ → Token → Result ℕ Flaw
number_at text w token = number_by w token.kind (spelled text token)

-- ---- places

-- a flag of `getelementptr`, which has no effect
abbrev pub is_flag : List ℕ → Token → Bool
is_flag text token = is_word text (codes "inbounds") token || is_word text (codes "nusw") token || is_word text (codes "nuw") token

-- an index: its integer type, and a number with its sign
unfoldable pub an_index : Meaning → Rule (Unit {0}) ℤ
an_index m = do
  width ← plain (width_of m.text)
  number ← plain (number_at m.text width)
  done (signed width number)

-- at least one index, and the closing sign
unfoldable pub indices : Meaning → Rule (Unit {0}) (List ℤ)
indices m = do
  first ← an_index m
  others ← repeat (more_item m.text (codes ")") (an_index m))
  done (first ∷ others)

-- behind the flags: the type, the symbol, and at least one index
unfoldable pub gep_parts : Meaning → ℕ → Rule (Unit {0}) Place
gep_parts m depth = do
  _ ← a_sign m.text (codes "(")
  base ← a_type m depth
  _ ← a_sign m.text (codes ",")
  _ ← a_word m.text (codes "ptr")
  symbol ← plain (symbol_of m)
  _ ← a_sign m.text (codes ",")
  steps ← indices m
  done (record { symbol = symbol; base = base; indices = steps })

-- a bare name, or else a constant `getelementptr`
abbrev pub bare_or : Result Symbol Flaw → Bool → Result PlaceHead Flaw
bare_or (Ok symbol) gep = Ok (Bare symbol)
bare_or (Err flaw) gep = if gep then Ok Gep else Err Syntax

-- what the first token of a place begins
abbrev pub place_head : Meaning → Token → Result PlaceHead Flaw
place_head m token = bare_or (symbol_of m token) (is_word m.text (codes "getelementptr") token)

-- what follows the first token of a place
abbrev pub after_place_head : Meaning → ℕ → PlaceHead → Rule (Unit {0}) Place
after_place_head m depth (Bare symbol) = done (record { symbol = symbol; base = ty.Void; indices = [] })
after_place_head m depth Gep = behind (is_flag m.text) (gep_parts m depth)

-- a name, or a constant `getelementptr`
unfoldable pub a_place : Meaning → ℕ → Rule (Unit {0}) Place
a_place m depth = plain (place_head m) >>= after_place_head m depth

-- whether a place begins here
abbrev pub begins_place : List ℕ → Token → Bool
begins_place text token = is_kind Global token || is_word text (codes "getelementptr") token
