-- Types (LLVM Language Reference, "Type System").
use Rattle.std.specs.Prelude.{ℕ, suc, zero, true, false, List, [], ◌∷◌, drop, position, bytes_eq, codes, Option, Some, None, Result, Ok, Err, if◌then◌else◌}
use Rattle.no_lex.specs.declared.token.Token.{Token}
use Rattle.no_lex.specs.declared.token.TokenKind.{TokenKind}
use Rattle.no_lex.specs.declared.token.TokenKind.TheVariants.{Word, Integer, Local, Sign}
use Rattle.no_ir.specs.declared.types.Ty.{Ty}
use Rattle.no_ir.specs.declared.types.Ty.TheVariants as ty
use Rattle.no_module.specs.SameTypes.{same_type}
use Rattle.no_read_rules.specs.declared.fault.Flaw.{Flaw}
use Rattle.no_read_rules.specs.declared.fault.Flaw.TheVariants.{Syntax, LeftOut}
use Rattle.no_read_rules.specs.declared.types.TypeHead.{TypeHead}
use Rattle.no_read_rules.specs.declared.types.TypeHead.TheVariants as head
use Rattle.no_read_rules.specs.Lists.{items}
use Rattle.no_read_rules.specs.Numbers.{count_of}
use Rattle.no_read_rules.specs.Rules.{Rule, plain, done, ◌>>=◌, checked}
use Rattle.no_read_rules.specs.Scope.{Meaning}
use Rattle.no_read_rules.specs.Spelled.{spelled, is_kind, a_word, a_sign}
use Rattle.no_read_rules.specs.Unescaped.{name_of}

-- ---- what a token begins

-- the type that a word is; `label` is one that is left out here
abbrev pub word_type : List ℕ → Result TypeHead Flaw
word_type word =
    if bytes_eq word (codes "i1") then Ok (head.Int 1)
    else (if bytes_eq word (codes "i8") then Ok (head.Int 8)
    else (if bytes_eq word (codes "i16") then Ok (head.Int 16)
    else (if bytes_eq word (codes "i32") then Ok (head.Int 32)
    else (if bytes_eq word (codes "i64") then Ok (head.Int 64)
    else (if bytes_eq word (codes "ptr") then Ok head.Ptr
    else (if bytes_eq word (codes "label") then Err LeftOut
    else Err Syntax))))))

-- the brackets that a sign opens
abbrev pub sign_type : List ℕ → Result TypeHead Flaw
sign_type sign =
    if bytes_eq sign (codes "[") then Ok head.Array
    else (if bytes_eq sign (codes "{") then Ok head.Struct
    else (if bytes_eq sign (codes "<") then Ok head.Packed
    else Err Syntax))

-- a named type, which has to have a number
abbrev pub named_type : Option ℕ → Result TypeHead Flaw
named_type (Some n) = Ok (head.Named n)
named_type None = Err Syntax

-- the number of a name behind its sign
abbrev pub number_in : List (List ℕ) → List ℕ → Option ℕ
number_in names spelling = position (bytes_eq (name_of (drop 1 spelling))) names

-- what a token of this kind and spelling begins
abbrev pub head_by : Meaning → TokenKind → List ℕ → Result TypeHead Flaw
head_by m Word spelling = word_type spelling
head_by m Sign spelling = sign_type spelling
head_by m Local spelling = named_type (number_in m.named spelling)
head_by m _ spelling = Err Syntax

-- what the first token of a type begins
abbrev pub type_head : Meaning → Token → Result TypeHead Flaw
type_head m token = head_by m token.kind (spelled m.text token)

-- ---- whole types

-- a type without brackets
abbrev pub leaf_of : TypeHead → Result Ty Flaw
leaf_of (head.Int w) = Ok (ty.Int w)
leaf_of head.Ptr = Ok ty.Ptr
leaf_of (head.Named n) = Ok (ty.Named n)
leaf_of _ = Err Syntax

-- the count of an array
abbrev pub count_token : List ℕ → Token → Result ℕ Flaw
count_token text token = if is_kind Integer token then count_of (spelled text token) else Err Syntax

-- behind the bracket of an array: the count, the word x, the type, and the closing bracket
unfoldable pub array_parts : Meaning → Rule (Unit {0}) Ty → Rule (Unit {0}) Ty
array_parts m inner = do
  count ← plain (count_token m.text)
  _ ← a_word m.text (codes "x")
  element ← inner
  _ ← a_sign m.text (codes "]")
  done (ty.Array count element)

-- behind the bracket of a struct: its fields
unfoldable pub struct_parts : Meaning → Rule (Unit {0}) Ty → Rule (Unit {0}) Ty
struct_parts m inner = do
  fields ← items m.text (codes "}") inner
  done (ty.Struct false fields)

-- behind the first sign of a packed struct
unfoldable pub packed_parts : Meaning → Rule (Unit {0}) Ty → Rule (Unit {0}) Ty
packed_parts m inner = do
  _ ← a_sign m.text (codes "{")
  fields ← items m.text (codes "}") inner
  _ ← a_sign m.text (codes ">")
  done (ty.Struct true fields)

-- what follows the first token of a type
abbrev pub after_type_head : Meaning → Rule (Unit {0}) Ty → TypeHead → Rule (Unit {0}) Ty
after_type_head m inner (head.Int w) = done (ty.Int w)
after_type_head m inner head.Ptr = done ty.Ptr
after_type_head m inner (head.Named n) = done (ty.Named n)
after_type_head m inner head.Array = array_parts m inner
after_type_head m inner head.Struct = struct_parts m inner
after_type_head m inner head.Packed = packed_parts m inner

-- a type in which so many brackets may stand one in another
unfoldable pub a_type : Meaning → ℕ → Rule (Unit {0}) Ty
a_type m zero = checked (plain (type_head m)) leaf_of
a_type m (suc depth) = plain (type_head m) >>= after_type_head m (a_type m depth)

-- a type that has to be this one, or else a fault at its first token
abbrev pub must_be : Ty → Ty → Result (Unit {0}) Flaw
must_be want found = if same_type found want then Ok tt else Err Syntax
