-- Rules that go on as long as the next token passes. Each step moves a value on.
use Rattle.std.specs.Prelude.{◌≡◌, ℕ, suc, zero, Bool, true, false, List, [], ◌++◌, Result, Ok, Err, length}
use Rattle.no_lex.specs.declared.token.Token.{Token}
use Rattle.no_read_rules.specs.declared.fault.Flaw.TheVariants.{Syntax}
use Rattle.no_read_rules.specs.declared.fault.Stopped.{Stopped}
use Rattle.no_read_rules.specs.Rules.{Rule, after, fault, next_is}

module _ {S A : Type 0} (test : Token → Bool) (step : A → Rule S A) where
  -- the first token passes, a step leads to a value, and more follows
  pub record IsStep (more : S → List Token → A → Type 0) (s : S) (tokens : List Token) (a : A) : Type 0 where
    pub front : List Token
    pub back : List Token
    pub value : A
    pub between : S
    pub parts : tokens ≡ front ++ back
    pub begins : next_is test front ≡ true
    pub first : (step a).means s front value between
    pub others : more between back value

  -- so many steps lead from a value to another
  abbrev pub AreSteps : ℕ → S → List Token → A → A → S → Type 0
  AreSteps zero s tokens a b t = (tokens ≡ []) × (b ≡ a) × (t ≡ s)
  AreSteps (suc n) s tokens a b t = IsStep (λ between back value. AreSteps n between back value b t) s tokens a

  -- a step where the next token passes, and what follows it, or else the value at hand
  abbrev pub stepped : Bool → (A → S → List Token → Result (A × S × List Token) Stopped) → A → S → List Token → Result (A × S × List Token) Stopped
  stepped true more a s tokens = after ((step a).read s tokens) (λ x. more x.0 x.1 x.2)
  stepped false more a s tokens = Ok (a, s, tokens)

  -- steps read from the front while the next token passes, at most so many, since each takes a token
  unfoldable pub folded_read : ℕ → A → S → List Token → Result (A × S × List Token) Stopped
  folded_read zero a s tokens = Err (fault Syntax tokens)
  folded_read (suc n) a s tokens = stepped (next_is test tokens) (folded_read n) a s tokens

  -- steps read from the front as long as the next token passes
  unfoldable pub folded_all : A → S → List Token → Result (A × S × List Token) Stopped
  folded_all a s tokens = folded_read (suc (length tokens)) a s tokens

  -- steps that move a value on, as long as the next token passes
  abbrev pub folded : A → Rule S A
  folded a = record { means = λ s tokens b t. (n : ℕ) × AreSteps n s tokens a b t; read = λ s tokens. folded_all a s tokens }
