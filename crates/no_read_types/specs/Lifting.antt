-- Type definitions and the tokens between them (LLVM Language Reference, "Structure Types").
use Rattle.std.specs.Prelude.{◌≡◌, ℕ, suc, zero, Bool, true, false, ◌&&◌, List, [], ◌∷◌, ◌++◌, length, drop, position, bytes_eq, codes, Option, Some, None, Result, Ok, Err, if◌then◌else◌}
use Rattle.no_lex.specs.declared.token.Token.{Token}
use Rattle.no_lex.specs.declared.token.TokenKind.TheVariants.{Local}
use Rattle.no_ir.specs.declared.types.Ty.{Ty, out-Ty}
use Rattle.no_ir.specs.declared.types.Ty.TheOpen.{Ty-F}
use Rattle.no_ir.specs.Naming.{with_name}
use Rattle.no_read_rules.specs.declared.fault.Flaw.{Flaw}
use Rattle.no_read_rules.specs.declared.fault.Flaw.TheVariants.{Syntax}
use Rattle.no_read_rules.specs.declared.fault.Stopped.{Stopped}
use Rattle.no_read_rules.specs.Rules.{Rule, fault, after, one, done, ◌>>=◌, lift, checked}
use Rattle.no_read_rules.specs.Scope.{Meaning}
use Rattle.no_read_rules.specs.Spelled.{spelled, is_kind, is_word, is_sign, a_word, a_sign}
use Rattle.no_read_rules.specs.Types.{a_type}
use Rattle.no_read_rules.specs.Unescaped.{name_of}
use Rattle.no_read_types.specs.declared.definition.Definition.{Definition}
use Rattle.no_read_types.specs.declared.definition.Lifting.{Lifting}

-- ---- one definition

-- the name behind the sign of a token
abbrev pub name_at : List ℕ → Token → List ℕ
name_at text token = name_of (drop 1 (spelled text token))

-- whether a definition begins here: a name, an equals sign, and the word type
abbrev pub begins_definition : List ℕ → List Token → Bool
begins_definition text [] = false
begins_definition text (a ∷ []) = false
begins_definition text (a ∷ b ∷ []) = false
begins_definition text (a ∷ b ∷ c ∷ tokens) = is_kind Local a && (is_sign text (codes "=") b && is_word text (codes "type") c)

-- the place and the name of a definition, and the names with it, where it has none yet: no name is defined twice
abbrev pub added_name : List (List ℕ) → ℕ → List ℕ → Option ℕ → Result ((ℕ × List ℕ) × List (List ℕ)) Flaw
added_name names at name None = Ok ((at, name), with_name names name)
added_name names at name (Some n) = Err Syntax

-- the name that a definition begins with, from its token
abbrev pub new_name : List ℕ → List (List ℕ) → Token → Result ((ℕ × List ℕ) × List (List ℕ)) Flaw
new_name text names token =
    if is_kind Local token then added_name names token.start (name_at text token) (position (bytes_eq (name_at text token)) names) else Err Syntax

-- a type by its form, which has to be a struct
abbrev pub struct_in : Ty → Ty-F Ty → Result Ty Flaw
struct_in ty (Ty-F.Struct packed fields) = Ok ty
struct_in ty _ = Err Syntax

-- a type that has to be a struct
abbrev pub a_struct : Ty → Result Ty Flaw
a_struct ty = struct_in ty (out-Ty ty)

-- a definition, by the names of those before it
unfoldable pub a_definition : Meaning → Rule (List (List ℕ)) Definition
a_definition m = do
  head ← one (new_name m.text)
  _ ← lift (a_sign m.text (codes "="))
  _ ← lift (a_word m.text (codes "type"))
  ty ← checked (lift (a_type m 64)) a_struct
  done (record { at = head.0; name = head.1; ty = ty })

-- ---- a whole text

-- a token that is kept, or a definition that is lifted out
pub data Piece : Type 0 where
  Kept : (token : Token) → Piece
  Defined : (lifted : Definition) → Piece

-- the first token is kept, and the others follow
pub record IsKept (text : List ℕ) (more : List Token → Type 0) (tokens : List Token) (token : Token) : Type 0 where
  pub begins : begins_definition text tokens ≡ false
  pub back : List Token
  pub parts : tokens ≡ token ∷ back
  pub others : more back

-- a definition comes first, and the others follow
pub record IsDefined (m : Meaning) (more : List (List ℕ) → List Token → Type 0) (names : List (List ℕ)) (tokens : List Token) (lifted : Definition) : Type 0 where
  pub begins : begins_definition m.text tokens ≡ true
  pub front : List Token
  pub back : List Token
  pub between : List (List ℕ)
  pub parts : tokens ≡ front ++ back
  pub definition : (a_definition m).means names front lifted between
  pub others : more between back

-- the tokens part into these pieces: a definition stands wherever one begins, and all else is kept
abbrev pub ArePieces : Meaning → List (List ℕ) → List Token → List Piece → Type 0
ArePieces m names tokens [] = tokens ≡ []
ArePieces m names tokens (Kept token ∷ pieces) = IsKept m.text (λ back. ArePieces m names back pieces) tokens token
ArePieces m names tokens (Defined lifted ∷ pieces) = IsDefined m (λ between back. ArePieces m between back pieces) names tokens lifted

-- no definition and no token
abbrev pub nothing_lifted : Lifting
nothing_lifted = record { defined = []; kept = [] }

-- a definition in front of what follows it
abbrev pub with_definition : Definition → Lifting → Lifting
with_definition lifted l = record { defined = lifted ∷ l.defined; kept = l.kept }

-- a token in front of what follows it
abbrev pub with_token : Token → Lifting → Lifting
with_token token l = record { defined = l.defined; kept = token ∷ l.kept }

-- the definitions in the order of the text, and the tokens without them
abbrev pub lifting_of : List Piece → Lifting
lifting_of [] = nothing_lifted
lifting_of (Kept token ∷ pieces) = with_token token (lifting_of pieces)
lifting_of (Defined lifted ∷ pieces) = with_definition lifted (lifting_of pieces)

-- the tokens part into pieces that give these definitions and these tokens
abbrev pub Parted : Meaning → List (List ℕ) → List Token → Lifting → Type 0
Parted m names tokens l = (pieces : List Piece) × ArePieces m names tokens pieces × (l ≡ lifting_of pieces)

-- reading one piece from the front, and those that follow
abbrev pub lift_step : Meaning → (List (List ℕ) → List Token → Result Lifting Stopped) → Bool → List (List ℕ) → Token → List Token → Result Lifting Stopped
lift_step m more true names token tokens = after ((a_definition m).read names (token ∷ tokens)) (λ x. after (more x.1 x.2) (λ l. Ok (with_definition x.0 l)))
lift_step m more false names token tokens = after (more names tokens) (λ l. Ok (with_token token l))

-- reading the pieces from the front, in at most so many steps
unfoldable pub lift_read : ℕ → Meaning → List (List ℕ) → List Token → Result Lifting Stopped
lift_read n m names [] = Ok nothing_lifted
lift_read zero m names (token ∷ tokens) = Err (fault Syntax (token ∷ tokens))
lift_read (suc n) m names (token ∷ tokens) = lift_step m (lift_read n m) (begins_definition m.text (token ∷ tokens)) names token tokens

-- reading the pieces from the front, each of at least a token
unfoldable pub lift_all : Meaning → List (List ℕ) → List Token → Result Lifting Stopped
lift_all m names tokens = lift_read (length tokens) m names tokens

-- these pieces, and then what is read
abbrev pub behind : List Definition → List Token → Result Lifting Stopped → Result Lifting Stopped
behind defined kept r = after r (λ l. Ok (record { defined = defined ++ l.defined; kept = kept ++ l.kept }))

-- ---- the names of all definitions

-- the names of definitions in the order in which they first appear
abbrev pub names_from : List ℕ → List (List ℕ) → List Token → List (List ℕ)
names_from text names [] = names
names_from text names (token ∷ tokens) = names_from text (if begins_definition text (token ∷ tokens) then with_name names (name_at text token) else names) tokens

-- what names mean in type definitions: those of all definitions of the text, wherever they stand
abbrev pub in_types : List ℕ → List Token → Meaning
in_types text tokens = record { text = text; named = names_from text [] tokens; types = []; globals = []; functions = [] }

-- the definitions of a text and its other tokens, or the first fault in a definition
abbrev pub type_definitions : List ℕ → List Token → Result Lifting Stopped
type_definitions text tokens = lift_all (in_types text tokens) [] tokens
