-- Constants at a type (LLVM Language Reference, "Constants").
use Rattle.std.specs.Prelude.{ℕ, suc, zero, List, [], ◌∷◌, bytes_eq, codes, slice_get, unwrap_or, Option, Some, None, Result, Ok, Err, if◌then◌else◌}
use Rattle.no_lex.specs.declared.token.Token.{Token}
use Rattle.no_lex.specs.declared.token.TokenKind.{TokenKind}
use Rattle.no_lex.specs.declared.token.TokenKind.TheVariants.{Word, Integer, Quoted, CMark, Sign}
use Rattle.no_ir.specs.declared.types.Ty.{Ty, out-Ty}
use Rattle.no_ir.specs.declared.types.Ty.TheOpen.{Ty-F}
use Rattle.no_ir.specs.declared.constant.Const.{Const}
use Rattle.no_ir.specs.declared.constant.Const.TheVariants as const
use Rattle.no_read_rules.specs.declared.fault.Flaw.{Flaw}
use Rattle.no_read_rules.specs.declared.fault.Flaw.TheVariants.{Syntax}
use Rattle.no_read_rules.specs.Lists.{items, closes_list}
use Rattle.no_read_rules.specs.Numbers.{integer_at}
use Rattle.no_read_rules.specs.Rules.{Rule, plain, done, ◌>>=◌, checked, choose, if_next}
use Rattle.no_read_rules.specs.Scope.{Meaning}
use Rattle.no_read_rules.specs.Spelled.{spelled, is_kind, is_sign, a_word, a_sign}
use Rattle.no_read_rules.specs.Types.{a_type, must_be}
use Rattle.no_read_rules.specs.Unescaped.{unescaped, inner}
use Rattle.no_read_constants.specs.Places.{width_of, truth_at, number_at, a_place, begins_place}
use Rattle.no_read_constants.specs.declared.constants.Shape.{Shape}
use Rattle.no_read_constants.specs.declared.constants.Shape.TheVariants as shape
use Rattle.no_read_constants.specs.declared.constants.LeafHead.{LeafHead}
use Rattle.no_read_constants.specs.declared.constants.LeafHead.TheVariants as leaf
use Rattle.no_read_constants.specs.declared.constants.ConstHead.{ConstHead}
use Rattle.no_read_constants.specs.declared.constants.ConstHead.TheVariants as head

-- ---- what a type allows

-- what a form of a type names, where it is a named one, and the type itself otherwise
abbrev pub named_in : Ty → List Ty → Ty-F Ty → Ty
named_in ty types (Ty-F.Named n) = unwrap_or (slice_get types n) ty
named_in ty types _ = ty

-- a type that constants may be written at: a named type counts as what it names
abbrev pub resolved : Meaning → Ty → Ty
resolved m ty = named_in ty m.types (out-Ty ty)

-- what a form of a type is, as far as constants at it are concerned
abbrev pub shape_in : Ty-F Ty → Shape
shape_in (Ty-F.Int w) = shape.Int w
shape_in Ty-F.Ptr = shape.Ptr
shape_in (Ty-F.Array n e) = shape.Array
shape_in (Ty-F.Struct p fs) = shape.Struct
shape_in _ = shape.Other

-- what a type is, as far as constants at it are concerned
abbrev pub shape_of : Ty → Shape
shape_of ty = shape_in (out-Ty ty)

-- the type of an array's elements; any other type stands for itself
abbrev pub element_in : Ty → Ty-F Ty → Ty
element_in ty (Ty-F.Array n e) = e
element_in ty _ = ty

-- the types of a struct's fields; any other type has none
abbrev pub fields_in : Ty-F Ty → List Ty
fields_in (Ty-F.Struct p fs) = fs
fields_in _ = []

-- ---- what a token is at a type

-- what `undef`, `poison` and `zeroinitializer` are at a type
abbrev pub zero_at : Shape → LeafHead
zero_at (shape.Int w) = leaf.Int 0
zero_at _ = leaf.Zero

-- `null`, which is of pointers alone
abbrev pub null_at : Shape → Result LeafHead Flaw
null_at shape.Ptr = Ok leaf.Zero
null_at _ = Err Syntax

-- an integer, where a number was read
abbrev pub as_int : Result ℕ Flaw → Result LeafHead Flaw
as_int (Ok n) = Ok (leaf.Int n)
as_int (Err flaw) = Err flaw

-- `true` or `false`, which are of one bit alone
abbrev pub word_at : Shape → List ℕ → Result LeafHead Flaw
word_at (shape.Int w) word = as_int (truth_at w word)
word_at _ word = Err Syntax

-- what a word is at a type
abbrev pub word_const : Shape → List ℕ → Result LeafHead Flaw
word_const s word =
    if bytes_eq word (codes "undef") then Ok (zero_at s)
    else (if bytes_eq word (codes "poison") then Ok (zero_at s)
    else (if bytes_eq word (codes "zeroinitializer") then Ok (zero_at s)
    else (if bytes_eq word (codes "null") then null_at s
    else (if bytes_eq word (codes "ptrtoint") then Ok leaf.PtrToInt
    else (if bytes_eq word (codes "inttoptr") then Ok leaf.IntToPtr
    else word_at s word)))))

-- an integer at a type, which has to be one of integers
abbrev pub integer_in : Shape → List ℕ → Result LeafHead Flaw
integer_in (shape.Int w) spelling = as_int (integer_at w spelling)
integer_in _ spelling = Err Syntax

-- what a token of this kind and spelling begins at a type, brackets not counted
abbrev pub leaf_by : Shape → TokenKind → List ℕ → Result LeafHead Flaw
leaf_by s Word spelling = word_const s spelling
leaf_by s Integer spelling = integer_in s spelling
leaf_by s CMark spelling = Ok leaf.Text
leaf_by s _ spelling = Err Syntax

-- what the first token of a constant without brackets begins
abbrev pub leaf_head : List ℕ → Shape → Token → Result LeafHead Flaw
leaf_head text s token = leaf_by s token.kind (spelled text token)

-- a bracket stands at its own kind of type alone
abbrev pub bracket_at : Shape → List ℕ → Result ConstHead Flaw
bracket_at shape.Array sign = if bytes_eq sign (codes "[") then Ok head.Array else Err Syntax
bracket_at shape.Struct sign = if bytes_eq sign (codes "{") then Ok head.Struct else (if bytes_eq sign (codes "<") then Ok head.Packed else Err Syntax)
bracket_at _ sign = Err Syntax

-- what begins without brackets, among what may have them
abbrev pub as_leaf : Result LeafHead Flaw → Result ConstHead Flaw
as_leaf (Ok l) = Ok (head.Leaf l)
as_leaf (Err flaw) = Err flaw

-- what a token of this kind and spelling begins at a type, brackets counted
abbrev pub const_by : Shape → TokenKind → List ℕ → Result ConstHead Flaw
const_by s Sign spelling = bracket_at s spelling
const_by s kind spelling = as_leaf (leaf_by s kind spelling)

-- what the first token of a constant begins
abbrev pub const_head : List ℕ → Shape → Token → Result ConstHead Flaw
const_head text s token = const_by s token.kind (spelled text token)

-- ---- constants without brackets

-- the string behind the mark of one, without its quotes and escapes
abbrev pub text_of : List ℕ → Token → Result Const Flaw
text_of text token = if is_kind Quoted token then Ok (const.Str (unescaped (inner (spelled text token)))) else Err Syntax

-- an address as an integer of the type at hand
unfoldable pub ptr_to_int : Meaning → ℕ → Ty → Rule (Unit {0}) Const
ptr_to_int m depth ty = do
  _ ← a_sign m.text (codes "(")
  _ ← a_word m.text (codes "ptr")
  place ← a_place m depth
  _ ← a_word m.text (codes "to")
  _ ← checked (a_type m depth) (must_be ty)
  _ ← a_sign m.text (codes ")")
  done (const.AddressAsInt place)

-- an integer as an address
unfoldable pub int_to_ptr : Meaning → Rule (Unit {0}) Const
int_to_ptr m = do
  _ ← a_sign m.text (codes "(")
  width ← plain (width_of m.text)
  number ← plain (number_at m.text width)
  _ ← a_word m.text (codes "to")
  _ ← a_word m.text (codes "ptr")
  _ ← a_sign m.text (codes ")")
  done (const.IntAsPtr number)

-- what follows the first token of a constant without brackets
abbrev pub after_leaf : Meaning → ℕ → Ty → LeafHead → Rule (Unit {0}) Const
after_leaf m depth ty leaf.Zero = done const.Zero
after_leaf m depth ty (leaf.Int n) = done (const.Int n)
after_leaf m depth ty leaf.Text = plain (text_of m.text)
after_leaf m depth ty leaf.PtrToInt = ptr_to_int m depth ty
after_leaf m depth ty leaf.IntToPtr = int_to_ptr m

-- an address as a constant
unfoldable pub address : Meaning → ℕ → Rule (Unit {0}) Const
address m depth = a_place m depth >>= λ place. done (const.Address place)

-- ---- lists

module _ (m : Meaning) (depth : ℕ) (inner : Ty → Rule (Unit {0}) Const) where
  -- a member: its type, which has to be the one that its place has, and the constant
  unfoldable pub member : Ty → Rule (Unit {0}) Const
  member ty = checked (a_type m depth) (must_be ty) >>= λ _. inner ty

  -- a member past the last field
  abbrev pub past : Rule (Unit {0}) (Option Const)
  past = checked (a_type m depth) (λ _. Err Syntax)

  -- behind a field: the end, or the field of the next type
  unfoldable pub next_field : List ℕ → List Ty → Rule (Unit {0}) (Option Const)
  next_field close [] = plain (closes_list m.text close) >>= λ closes. choose closes (done None) past
  next_field close (ty ∷ fields) = plain (closes_list m.text close) >>= λ closes. choose closes (done None) (member ty >>= λ c. done (Some c))

  -- behind a field: no more, or this one and those that follow
  abbrev pub end_or : Rule (Unit {0}) (List Const) → Option Const → Rule (Unit {0}) (List Const)
  end_or more None = done []
  end_or more (Some c) = more >>= λ others. done (c ∷ others)

  -- the fields behind the first, and the closing bracket
  unfoldable pub more_fields : List ℕ → List Ty → Rule (Unit {0}) (List Const)
  more_fields close [] = next_field close [] >>= λ _. done []
  more_fields close (ty ∷ fields) = next_field close (ty ∷ fields) >>= end_or (more_fields close fields)

  -- at least one field, and the closing bracket
  unfoldable pub some_fields : List ℕ → List Ty → Rule (Unit {0}) (List Const)
  some_fields close [] = checked (a_type m depth) (λ _. Err Syntax)
  some_fields close (ty ∷ fields) = member ty >>= λ c. more_fields close fields >>= λ others. done (c ∷ others)

  -- the closing bracket alone
  unfoldable pub no_fields : List ℕ → Rule (Unit {0}) (List Const)
  no_fields close = a_sign m.text close >>= λ _. done []

  -- fields, each of its own type, and the closing bracket; there may be fewer than the type has
  unfoldable pub fields : List ℕ → List Ty → Rule (Unit {0}) (List Const)
  fields close types = if_next (is_sign m.text close) (no_fields close) (some_fields close types)

  -- behind the bracket of an array: its elements
  unfoldable pub array_const : Ty → Rule (Unit {0}) Const
  array_const element = items m.text (codes "]") (member element) >>= λ all. done (const.Array all)

  -- behind the bracket of a struct: its fields
  unfoldable pub struct_const : List Ty → Rule (Unit {0}) Const
  struct_const types = fields (codes "}") types >>= λ all. done (const.Struct all)

  -- behind the first sign of a packed struct: its fields
  unfoldable pub packed_const : List Ty → Rule (Unit {0}) Const
  packed_const types = do
    _ ← a_sign m.text (codes "{")
    all ← fields (codes "}") types
    _ ← a_sign m.text (codes ">")
    done (const.Struct all)

  -- what follows the first token of a constant
  abbrev pub after_head : Ty → ConstHead → Rule (Unit {0}) Const
  after_head ty (head.Leaf l) = after_leaf m (suc depth) ty l
  after_head ty head.Array = array_const (element_in ty (out-Ty (resolved m ty)))
  after_head ty head.Struct = struct_const (fields_in (out-Ty (resolved m ty)))
  after_head ty head.Packed = packed_const (fields_in (out-Ty (resolved m ty)))

-- a constant that is no address, without brackets
abbrev pub flat_const : Meaning → Ty → Rule (Unit {0}) Const
flat_const m ty = plain (leaf_head m.text (shape_of (resolved m ty))) >>= after_leaf m zero ty

-- the same where brackets may stand, with how a constant inside them is read
abbrev pub bracket_const : Meaning → ℕ → (Ty → Rule (Unit {0}) Const) → Ty → Rule (Unit {0}) Const
bracket_const m depth inner ty = plain (const_head m.text (shape_of (resolved m ty))) >>= after_head m depth inner ty

-- a constant at a type, in which so many brackets may stand one in another
unfoldable pub a_const : Meaning → ℕ → Ty → Rule (Unit {0}) Const
a_const m zero ty = if_next (begins_place m.text) (address m zero) (flat_const m ty)
a_const m (suc depth) ty = if_next (begins_place m.text) (address m (suc depth)) (bracket_const m depth (a_const m depth) ty)
