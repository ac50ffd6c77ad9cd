-- What stands before the blocks of a function (LLVM Language Reference, "Functions").
use Rattle.std.specs.Prelude.{ℕ, Bool, true, false, ◌||◌, List, codes, Option, Some, None, Result, Ok, Err}
use Rattle.no_lex.specs.declared.token.Token.{Token}
use Rattle.no_lex.specs.declared.token.TokenKind.TheVariants.{Local}
use Rattle.no_ir.specs.declared.function.Role.{Role}
use Rattle.no_ir.specs.declared.types.Ty.{Ty}
use Rattle.no_ir.specs.declared.types.Ty.TheVariants as ty
use Rattle.no_read_rules.specs.Lists.{items}
use Rattle.no_read_rules.specs.Rules.{Rule, plain, done, ◌>>=◌, lift, choose, if_next, maybe}
use Rattle.no_read_rules.specs.Scope.{Meaning}
use Rattle.no_read_rules.specs.Spelled.{is_kind, is_word, a_word, a_sign, only_where}
use Rattle.no_read_rules.specs.Types.{a_type}
use Rattle.no_read_attributes.specs.Attributes.{may_go_on, behind_attributes, skip_attributes, attribute_marks}
use Rattle.no_read_attributes.specs.declared.marks.Mark.{Mark}
use Rattle.no_read_attributes.specs.Symbols.{symbol_name}
use Rattle.no_read_registers.specs.declared.locals.Locals.{Locals}
use Rattle.no_read_registers.specs.Numbered.{a_definition, no_name}
use Rattle.no_read_functions.specs.declared.heads.Head.{Head}

-- ---- parameters

-- a name that doesn't count
abbrev pub any_name : Rule Locals (Unit {0})
any_name = plain (λ token. only_where (is_kind Local token))

-- the written register, or else the one that the counter names
abbrev pub or_no_name : Option ℕ → Rule Locals ℕ
or_no_name (Some register) = done register
or_no_name None = no_name

-- in a definition the written name, or the next number
unfoldable pub own_name : List ℕ → Rule Locals ℕ
own_name text = maybe (is_kind Local) (a_definition text) >>= or_no_name

-- in a declaration the place, whatever is written
unfoldable pub place_name : Rule Locals ℕ
place_name = maybe (is_kind Local) any_name >>= λ _. no_name

-- the register of a parameter: in a definition by its name, in a declaration by its place
abbrev pub param_name : List ℕ → Bool → Rule Locals ℕ
param_name text named = choose named (own_name text) place_name

-- a parameter: its type, attributes without an effect, and its register
unfoldable pub a_param : Meaning → Bool → Rule Locals (ℕ × Ty)
a_param m named = do
  t ← lift (a_type m 64)
  _ ← lift (skip_attributes m.text)
  register ← param_name m.text named
  done (register, t)

-- with which tokens a parameter may go on
abbrev pub param_goes_on : List ℕ → Token → Bool
param_goes_on text token = may_go_on text token || is_kind Local token

-- the parameters in parentheses
unfoldable pub params : Meaning → Bool → Rule Locals (List (ℕ × Ty))
params m named = a_sign m.text (codes "(") >>= λ _. items m.text (codes ")") (a_param m named)

-- ---- heads

-- the type of a result, which may be `void`
unfoldable pub result_type : Meaning → Rule (Unit {0}) Ty
result_type m = if_next (is_word m.text (codes "void")) (a_word m.text (codes "void") >>= λ _. done ty.Void) (a_type m 64)

-- words and attributes that have no effect, and the type of a result
unfoldable pub words_type : Meaning → Rule (Unit {0}) Ty
words_type m = behind_attributes m.text (result_type m)

-- the attributes of a function
unfoldable pub head_marks : Meaning → Role → Rule (Unit {0}) (List Mark)
head_marks m role = attribute_marks m.text role

-- behind the word `declare` or `define`: the type of the result, the name, the parameters, and attributes
unfoldable pub a_head : Meaning → Role → Bool → Rule Locals Head
a_head m role named = do
  result ← lift (words_type m)
  name ← lift (plain (symbol_name m.text))
  all ← params m named
  marks ← lift (head_marks m role)
  done (record { name = name; result = result; params = all; marks = marks })
