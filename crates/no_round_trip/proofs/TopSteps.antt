-- Rules that begin with one piece, and rules without a state that mean again.
use Rattle.std.proofs.Common.{◌≡◌, ℕ, Bool, true, false, List, ◌∷◌, ◌++◌, drop, bytes_eq, Result, Ok, Err, if◌then◌else◌, ◌==◌, refl, ap, subst, ◌∙◌}
use Rattle.no_lex.specs.declared.token.Token.{Token}
use Rattle.no_lex.specs.declared.token.TokenKind.{TokenKind}
use Rattle.no_lex.specs.declared.token.TokenKind.TheVariants as kind
use Rattle.no_read_rules.specs.declared.fault.Flaw.{Flaw}
use Rattle.no_read_rules.specs.declared.fault.Flaw.TheVariants.{Syntax}
use Rattle.no_read_rules.specs.Rules.{Rule, plain, ◌>>=◌}
use Rattle.no_read_rules.specs.Spelled.{spelled, kind_number, is_kind, a_word, a_sign}
use Rattle.no_read_rules.specs.Unescaped.{name_of}
use Rattle.no_read_attributes.specs.Symbols.{symbol_name}
use Rattle.no_print.specs.Names.{spelling, global_name}
use Rattle.no_print.specs.Pieces.{Piece, word, sign}
use Rattle.no_print.specs.Stand.{IsPiece}
use Rattle.no_round_trip.specs.Spells.{Spells, AreBytes}
use Rattle.no_round_trip.proofs.WordBytes.{bytes_name, bytes_spelled}
use Rattle.no_round_trip.proofs.RuleFound.{bytes_drop}
use Rattle.no_round_trip.proofs.RuleFrame.{plain_spells, then_spells}
use Rattle.no_round_trip.proofs.RuleListing.{word_spells, sign_spells}
use Rattle.no_names.proofs.Again.{name_again}
use Rattle.no_round_trip.proofs.RuleOpening.{from_fine, kept_value}

-- a rule without a state, which is spelled for the other rule where it was read
abbrev pub Twice : {A : Type 0} → List ℕ → Rule (Unit {0}) A → Rule (Unit {0}) A → (A → List Piece) → Type 0
Twice {A = A} text p q pieces = (tokens : List Token) (a : A) → p.means tt tokens a tt → Spells text q tt (pieces a) a tt

-- ---- tests of a token by its piece

pub tested : {X : Type 0} (text : List ℕ) (f : TokenKind → List ℕ → X) (token : Token) (p : Piece) → IsPiece text token p → f token.kind (spelled text token) ≡ f p.kind p.bytes
tested text f token p h = ap (λ k. f k (spelled text token)) h.kind ∙ ap (f p.kind) h.bytes

-- a value where a test holds
abbrev pub given : {A : Type 0} → Bool → A → Result A Flaw
given b x = if b then Ok x else Err Syntax

pub given_is : {A : Type 0} (b : Bool) (x y : A) → given b x ≡ Ok y → x ≡ y
given_is true x y e = from_fine x y e
given_is false x y e = absurd cc

pub given_holds : {A : Type 0} (b : Bool) (x y : A) → given b x ≡ Ok y → b ≡ true
given_holds true x y e = refl
given_holds false x y e = absurd cc

-- ---- one piece, and a rule

module _ {S B : Type 0} (text : List ℕ) where
  pub sign_then : (gap w : List ℕ) (q : Unit {0} → Rule S B) (s t : S) (back : List Piece) (b : B) → bytes_eq w w ≡ true → Spells text (q tt) s back b t
      → Spells text (a_sign text w >>= q) s (sign gap w ++ back) b t
  sign_then gap w q s t back b e h = then_spells text (a_sign text w) q s s t (sign gap w) back tt b (sign_spells text gap s w e) h

  pub word_then : (gap w : List ℕ) (q : Unit {0} → Rule S B) (s t : S) (back : List Piece) (b : B) → bytes_eq w w ≡ true → Spells text (q tt) s back b t
      → Spells text (a_word text w >>= q) s (word gap w ++ back) b t
  word_then gap w q s t back b e h = then_spells text (a_word text w) q s s t (word gap w) back tt b (word_spells text gap s w e) h

-- ---- names of globals and functions

abbrev symbol_by : TokenKind → List ℕ → Result (List ℕ) Flaw
symbol_by k bytes = given (kind_number k == kind_number kind.Global) (name_of (drop 1 bytes))

module _ {S : Type 0} (text : List ℕ) where
  pub symbol_spells : (gap name : List ℕ) (s : S) → AreBytes name → Spells text (plain (symbol_name text)) s (global_name gap name) name s
  symbol_spells gap name s h = plain_spells text symbol_by s (record { gap = gap; kind = kind.Global; bytes = 64 ∷ spelling name }) name (ap (given true) (name_again name h))

  pub symbol_bytes : (s t : S) (tokens : List Token) (name : List ℕ) → AreBytes text → (plain {S = S} (symbol_name text)).means s tokens name t → AreBytes name
  symbol_bytes s t tokens name h m =
      subst AreBytes (given_is (is_kind kind.Global m.token) (name_of (drop 1 (spelled text m.token))) name (kept_value s (symbol_name text m.token) name t m.value))
      (bytes_name (drop 1 (spelled text m.token)) (bytes_drop 1 (spelled text m.token) (bytes_spelled text m.token h)))
