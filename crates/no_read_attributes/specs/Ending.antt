-- Rules whose value says with which tokens they would go on.
use Rattle.std.specs.Prelude.{◌≡◌, Bool, ◌||◌, List, [], ◌∷◌, ◌++◌, Option, Some, None, Ok}
use Rattle.no_lex.specs.declared.token.Token.{Token}
use Rattle.no_read_rules.specs.Rules.{Rule, done, ◌>>=◌, after, if_next, Found, Avoids}
use Rattle.no_read_rules.specs.Repeated.{repeat}

-- what is read is meant, and goes on as far as it can; what is meant is read, where it can't go on
pub record Ends {S A : Type 0} (goes_on : A → Token → Bool) (p : Rule S A) : Type 0 where
  pub found : (s : S) (tokens : List Token) (x : A × S × List Token) → p.read s tokens ≡ Ok x → Found p s tokens x
  pub stops : (s : S) (tokens : List Token) (x : A × S × List Token) → p.read s tokens ≡ Ok x → Avoids (goes_on x.0) x.2
  pub only : (s t : S) (used rest : List Token) (a : A) → p.means s used a t → Avoids (goes_on a) rest → p.read s (used ++ rest) ≡ Ok (a, t, rest)

-- the tokens part in two: a rule means the front and can't go on with the back, which the rule behind it means
pub record IsAhead {S A B : Type 0} (goes_on : A → Token → Bool) (p : Rule S A) (q : A → Rule S B) (s : S) (tokens : List Token) (b : B) (t : S) : Type 0 where
  pub front : List Token
  pub back : List Token
  pub first : A
  pub between : S
  pub parts : tokens ≡ front ++ back
  pub in_front : p.means s front first between
  pub apart : Avoids (goes_on first) back
  pub in_back : (q first).means between back b t

-- a rule and what follows it, with which it can't go on
abbrev pub ahead : {S A B : Type 0} → (A → Token → Bool) → Rule S A → (A → Rule S B) → Rule S B
ahead goes_on p q = record { means = IsAhead goes_on p q; read = λ s tokens. after (p.read s tokens) (λ x. (q x.0).read x.1 x.2) }

-- a list of items goes on with a token that begins an item, or with which the last item goes on
abbrev pub list_goes_on : {A : Type 0} → (Token → Bool) → (A → Token → Bool) → List A → Token → Bool
list_goes_on test goes_on [] token = test token
list_goes_on test goes_on (a ∷ []) token = test token || goes_on a token
list_goes_on test goes_on (a ∷ b ∷ others) token = list_goes_on test goes_on (b ∷ others) token

-- one more item where the next token passes a test, and else nothing
abbrev pub more_where : {S A : Type 0} → (Token → Bool) → Rule S A → Rule S (Option A)
more_where test item = if_next test (item >>= λ a. done (Some a)) (done None)

-- items, as long as the next token passes a test
abbrev pub items_where : {S A : Type 0} → (Token → Bool) → Rule S A → Rule S (List A)
items_where test item = repeat (more_where test item)
