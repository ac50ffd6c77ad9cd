-- Grammar rules over lists of tokens. A rule is what it means, a relation on whole lists, and how it is read, from the front.
-- A rule may change a state on its way, as the names that a function has so far.
use Rattle.std.specs.Prelude.{◌≡◌, ℕ, Bool, true, false, List, [], ◌∷◌, ◌++◌, Option, Some, None, Result, Ok, Err, ◌⊎◌}
use Rattle.no_lex.specs.declared.token.Token.{Token}
use Rattle.no_read_rules.specs.declared.fault.Flaw.{Flaw}
use Rattle.no_read_rules.specs.declared.fault.Flaw.TheVariants.{Syntax}
use Rattle.no_read_rules.specs.declared.fault.Stopped.{Stopped}
use Rattle.no_read_rules.specs.declared.fault.Stop.{Stop}
use Rattle.no_read_rules.specs.declared.fault.Stop.TheVariants as stop

-- ---- faults

-- the place of the first token, or none where the text ends
abbrev pub place_of : List Token → Option ℕ
place_of [] = None
place_of (token ∷ tokens) = Some token.start

-- a fault at the first of these tokens
abbrev pub fault : Flaw → List Token → Stopped
fault flaw tokens = record { flaw = flaw; at = place_of tokens }

-- where a function stopped, reading gives its fault, unless memory ran out
abbrev pub Fails : {Y : Type 0} → Stop → Result Y Stopped → Type 0
Fails stop.NoMemory read = Unit {0}
Fails (stop.Fault f) read = read ≡ Err f

-- what a function returned, as it is seen, is what reading gives, unless memory ran out
abbrev pub Gives : {X Y : Type 0} → (X → Y) → Result X Stop → Result Y Stopped → Type 0
Gives view (Ok x) read = read ≡ Ok (view x)
Gives view (Err e) read = Fails e read

-- ---- rules

-- a rule for values A over a state S: which tokens mean which value and next state, and how it is read from the front, which
-- gives them and the tokens behind
pub record Rule (S A : Type 0) : Type 1 where
  pub means : S → List Token → A → S → Type 0
  pub read : S → List Token → Result (A × S × List Token) Stopped

-- what follows a value; a fault stays
abbrev pub after : {A B : Type 0} → Result A Stopped → (A → Result B Stopped) → Result B Stopped
after (Ok x) f = f x
after (Err e) f = Err e

-- the tokens are a single one, of which f says this value and this state
pub record IsOne {S A : Type 0} (f : S → Token → Result (A × S) Flaw) (s : S) (tokens : List Token) (a : A) (t : S) : Type 0 where
  pub token : Token
  pub alone : tokens ≡ token ∷ []
  pub value : f s token ≡ Ok (a, t)

-- the value and the state that a token gives, with the tokens behind it, or its flaw as a fault at its place
abbrev pub one_value : {S A : Type 0} → Result (A × S) Flaw → Token → List Token → Result (A × S × List Token) Stopped
one_value (Ok x) token rest = Ok (x.0, x.1, rest)
one_value (Err flaw) token rest = Err (fault flaw (token ∷ rest))

-- the first token, which has to be there
abbrev pub one_read : {S A : Type 0} → (S → Token → Result (A × S) Flaw) → S → List Token → Result (A × S × List Token) Stopped
one_read f s [] = Err (fault Syntax [])
one_read f s (token ∷ rest) = one_value (f s token) token rest

-- one token, of which f says the value and the state, or the flaw
abbrev pub one : {S A : Type 0} → (S → Token → Result (A × S) Flaw) → Rule S A
one f = record { means = IsOne f; read = one_read f }

-- a test of a token that leaves the state
abbrev pub keeping : {S A : Type 0} → S → Result A Flaw → Result (A × S) Flaw
keeping s (Ok a) = Ok (a, s)
keeping s (Err flaw) = Err flaw

-- one token, of which f says the value; the state stays
abbrev pub plain : {S A : Type 0} → (Token → Result A Flaw) → Rule S A
plain f = one (λ s token. keeping s (f token))

-- no token, and this value
abbrev pub done : {S A : Type 0} → A → Rule S A
done a = record { means = λ s tokens b t. (tokens ≡ []) × (b ≡ a) × (t ≡ s); read = λ s tokens. Ok (a, s, tokens) }

-- no token, and a change of the state
abbrev pub change : {S A : Type 0} → (S → A × S) → Rule S A
change f = record { means = λ s tokens b t. (tokens ≡ []) × (b ≡ (f s).0) × (t ≡ (f s).1); read = λ s tokens. Ok ((f s).0, (f s).1, tokens) }

-- the tokens part in two: one rule means the front, and the rule that its value leads to means the back
pub record IsThen {S A B : Type 0} (p : Rule S A) (q : A → Rule S B) (s : S) (tokens : List Token) (b : B) (t : S) : Type 0 where
  pub front : List Token
  pub back : List Token
  pub first : A
  pub between : S
  pub parts : tokens ≡ front ++ back
  pub in_front : p.means s front first between
  pub in_back : (q first).means between back b t

-- one rule and behind it another, which may depend on the first one's value
infixl 10 ◌>>=◌
abbrev pub ◌>>=◌ : {S A B : Type 0} → Rule S A → (A → Rule S B) → Rule S B
p >>= q = record { means = IsThen p q; read = λ s tokens. after (p.read s tokens) (λ x. (q x.0).read x.1 x.2) }

-- what a rule without a state read, with the state of those around it
abbrev pub lift_value : {S A : Type 0} → S → Result (A × Unit {0} × List Token) Stopped → Result (A × S × List Token) Stopped
lift_value s (Ok x) = Ok (x.0, s, x.2)
lift_value s (Err f) = Err f

-- a rule without a state, among rules with one
abbrev pub lift : {S A : Type 0} → Rule (Unit {0}) A → Rule S A
lift p = record { means = λ s tokens a t. p.means tt tokens a tt × (t ≡ s); read = λ s tokens. lift_value s (p.read tt tokens) }

-- what a rule without a state gives: a value and the tokens behind it
abbrev pub valued : {A : Type 0} → A → List Token → A × Unit {0} × List Token
valued a rest = (a, tt, rest)

-- the tokens behind what is skipped
abbrev pub passed : List Token → Unit {0} × Unit {0} × List Token
passed rest = (tt, tt, rest)

-- ---- choices

-- whether the first token passes a test
abbrev pub next_is : (Token → Bool) → List Token → Bool
next_is test [] = false
next_is test (token ∷ tokens) = test token

-- one of two rules
abbrev pub choose : {S A : Type 0} → Bool → Rule S A → Rule S A → Rule S A
choose true p q = p
choose false p q = q

-- the first token decides, and isn't taken: what passes the test begins the one rule, and all else the other, which may take no token
abbrev pub if_next : {S A : Type 0} → (Token → Bool) → Rule S A → Rule S A → Rule S A
if_next test p q = record {
  means = λ s tokens a t. ((next_is test tokens ≡ true) × p.means s tokens a t) ⊎ ((next_is test tokens ≡ false) × q.means s tokens a t);
  read = λ s tokens. (choose (next_is test tokens) p q).read s tokens;
}

-- a rule whose first token passes the test, or nothing
abbrev pub maybe : {S A : Type 0} → (Token → Bool) → Rule S A → Rule S (Option A)
maybe test p = if_next test (p >>= λ a. done (Some a)) (done None)

-- what was read, with its value as it was judged, or the flaw at the first of these tokens
abbrev pub judged : {S A B : Type 0} → List Token → Result B Flaw → A × S × List Token → Result (B × S × List Token) Stopped
judged tokens (Ok b) x = Ok (b, x.1, x.2)
judged tokens (Err flaw) x = Err (fault flaw tokens)

-- the rule means a value that passes, and this is what the test makes of it
pub record IsChecked {S A B : Type 0} (p : Rule S A) (f : A → Result B Flaw) (s : S) (tokens : List Token) (b : B) (t : S) : Type 0 where
  pub value : A
  pub read : p.means s tokens value t
  pub passes : f value ≡ Ok b

-- a rule whose value has to pass: the flaw stands at the rule's first token
abbrev pub checked : {S A B : Type 0} → Rule S A → (A → Result B Flaw) → Rule S B
checked p f = record { means = IsChecked p f; read = λ s tokens. after (p.read s tokens) (λ x. judged tokens (f x.0) x) }

-- ---- the laws of a rule

-- what was read is meant by the tokens that were taken
pub record Found {S A : Type 0} (p : Rule S A) (s : S) (tokens : List Token) (x : A × S × List Token) : Type 0 where
  pub used : List Token
  pub parts : tokens ≡ used ++ x.2
  pub meant : p.means s used x.0 x.1

-- the next token isn't one that the rule would go on with
abbrev pub Avoids : (Token → Bool) → List Token → Type 0
Avoids goes_on tokens = next_is goes_on tokens ≡ false

-- no token: a rule is whole whatever follows
abbrev pub none : Token → Bool
none token = false

-- a rule's meaning and its reading agree: what is read is meant, and what is meant is read wherever it is not followed by a
-- token that the rule would go on with
pub record Good {S A : Type 0} (goes_on : Token → Bool) (p : Rule S A) : Type 0 where
  pub found : (s : S) (tokens : List Token) (x : A × S × List Token) → p.read s tokens ≡ Ok x → Found p s tokens x
  pub only : (s t : S) (used rest : List Token) (a : A) → p.means s used a t → Avoids goes_on rest → p.read s (used ++ rest) ≡ Ok (a, t, rest)

-- each form takes a token
abbrev pub IsSolid : {S A : Type 0} → Rule S A → Type 0
IsSolid {S = S} {A = A} p = (s t : S) (a : A) → p.means s [] a t → ⊥

-- ---- whole lists

-- nothing may be left
abbrev pub all_taken : {S A : Type 0} → A × S × List Token → Result (A × S) Stopped
all_taken {S} {A} x = taken x.0 x.1 x.2
  where
    taken : A → S → List Token → Result (A × S) Stopped
    taken a s [] = Ok (a, s)
    taken a s (token ∷ tokens) = Err (fault Syntax (token ∷ tokens))
