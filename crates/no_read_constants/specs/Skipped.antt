-- Words that have no effect, in front of a rule.
use Rattle.std.specs.Prelude.{◌≡◌, Bool, true, false, List, [], ◌∷◌, ◌++◌, if◌then◌else◌}
use Rattle.std.specs.List.{list_all}
use Rattle.no_lex.specs.declared.token.Token.{Token}
use Rattle.no_read_rules.specs.Rules.{Rule, next_is}

-- the tokens behind those at the front that pass
abbrev pub skip_while : (Token → Bool) → List Token → List Token
skip_while test [] = []
skip_while test (token ∷ tokens) = if test token then skip_while test tokens else token ∷ tokens

-- tokens that pass, and then the rule, whose first token doesn't
pub record IsBehind {S A : Type 0} (test : Token → Bool) (p : Rule S A) (s : S) (tokens : List Token) (a : A) (t : S) : Type 0 where
  pub front : List Token
  pub back : List Token
  pub parts : tokens ≡ front ++ back
  pub pass : list_all test front ≡ true
  pub stops : next_is test back ≡ false
  pub read : p.means s back a t

-- a rule behind tokens that pass, which are skipped
abbrev pub behind : {S A : Type 0} → (Token → Bool) → Rule S A → Rule S A
behind test p = record { means = IsBehind test p; read = λ s tokens. p.read s (skip_while test tokens) }
