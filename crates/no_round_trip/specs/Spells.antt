-- What pieces of a text spell by a rule.
use Rattle.std.specs.Prelude.{ℕ, ◌<◌, ◌≤◌, List, [], ◌∷◌}
use Rattle.no_ir.specs.declared.types.Ty.{Ty, out-Ty}
use Rattle.no_ir.specs.declared.types.Ty.TheOpen.{Ty-F}
use Rattle.no_lex.specs.declared.token.Token.{Token}
use Rattle.no_read_rules.specs.Rules.{Rule}
use Rattle.no_read_rules.specs.Scope.{Meaning}
use Rattle.no_print.specs.Pieces.{Piece}
use Rattle.no_print.specs.Stand.{Stand}
use Rattle.no_print.specs.Constants.{Spelled}
pub use Rattle.no_names.specs.Spelled.{AreBytes}

-- whatever tokens of the text stand as these pieces, the rule gives them this value and this state behind it
abbrev pub Spells : {S A : Type 0} → List ℕ → Rule S A → S → List Piece → A → S → Type 0
Spells text p s pieces a t = (tokens : List Token) → Stand text tokens pieces → p.means s tokens a t

-- the same names and types over another text
abbrev pub over : Meaning → List ℕ → Meaning
over m text = record { text = text; named = m.named; types = m.types; globals = m.globals; functions = m.functions }

-- how these names are spelled
abbrev pub spelled_by : Meaning → Spelled
spelled_by m = record { named = m.named; types = m.types; globals = m.globals; functions = m.functions }

-- what a rule read is spelled for the other rule, from any state that is like the one that it was read from, to a state that is like the one behind it
abbrev pub Again : {S A : Type 0} → (S → S → Type 0) → List ℕ → Rule S A → Rule S A → (A → List Piece) → Type 0
Again {S = S} {A = A} Same text p q pieces =
    (s z t : S) (tokens : List Token) (a : A) → Same s z → p.means s tokens a t → (u : S) × Same t u × Spells text q z (pieces a) a u

-- ---- integer types that integers can be written at

-- an integer type is of 1 to 64 bits
abbrev pub WidthFits : Ty-F Ty → Type 0
WidthFits (Ty-F.Int w) = (0 < w) × (w ≤ 64)
WidthFits _ = Unit {0}

-- a type is of 1 to 64 bits, if it is an integer type
abbrev pub TypeFits : Ty → Type 0
TypeFits t = WidthFits (out-Ty t)

-- so is each of these types
abbrev pub TypesFit : List Ty → Type 0
TypesFit [] = Unit {0}
TypesFit (t ∷ types) = TypeFits t × TypesFit types
