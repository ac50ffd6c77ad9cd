-- Reading that is decided by a prefix: what was read is read again, and what was refused is refused again, whatever follows.
use Rattle.std.specs.Prelude.{◌≡◌, ℕ, ◌<◌, length, List, [], ◌∷◌, ◌++◌, ◌⊎◌, Some, None, Ok, Err}
use Rattle.no_lex.specs.declared.token.Token.{Token}
use Rattle.no_ir.specs.declared.types.Ty.{Ty}
use Rattle.no_read_rules.specs.declared.fault.Stopped.{Stopped}
use Rattle.no_read_rules.specs.Rules.{Rule}
use Rattle.no_read_rules.specs.Scope.{Meaning}
use Rattle.no_read_rules.specs.Types.{a_type}

-- these tokens are a type
pub record IsType (tokens : List Token) : Type 0 where
  pub meaning : Meaning
  pub depth : ℕ
  pub ty : Ty
  pub means : (a_type meaning depth).means tt tokens ty tt

-- what a fault stands at: one token, or a whole type, which is read before it is told to be another than the one that has to stand there
abbrev pub IsPart : Token → List Token → Type 0
IsPart token more = (more ≡ []) ⊎ IsType (token ∷ more)

-- two lists begin with the same token, or are both empty
abbrev pub BeginAlike : List Token → List Token → Type 0
BeginAlike [] [] = Unit {0}
BeginAlike [] (u ∷ us) = ⊥
BeginAlike (t ∷ ts) [] = ⊥
BeginAlike (t ∷ ts) (u ∷ us) = u ≡ t

module _ {S A : Type 0} where
  -- the tokens that were taken are read the same before any other tokens that begin as the rest does
  pub record Takes (p : Rule S A) (s : S) (tokens : List Token) (x : A × S × List Token) : Type 0 where
    pub used : List Token
    pub parts : tokens ≡ used ++ x.2
    pub again : (rest : List Token) → BeginAlike x.2 rest → p.read s (used ++ rest) ≡ Ok (x.0, x.1, rest)

  -- a fault stands at a part of the tokens, and whatever begins with the tokens up to the end of this part is refused with this fault
  pub record Refuses (p : Rule S A) (s : S) (tokens : List Token) (e : Stopped) : Type 0 where
    pub before : List Token
    pub token : Token
    pub more : List Token
    pub rest : List Token
    pub parts : tokens ≡ before ++ (token ∷ (more ++ rest))
    pub at : e.at ≡ Some token.start
    pub part : IsPart token more
    pub again : (other : List Token) → p.read s (before ++ (token ∷ (more ++ other))) ≡ Err e

  -- a fault stands at the end of the tokens, or is one of what begins with some of them
  abbrev pub Stops : Rule S A → S → List Token → Stopped → Type 0
  Stops p s tokens e = (e.at ≡ None) ⊎ Refuses p s tokens e

  -- what a rule reads and refuses is decided by the tokens that it takes, or up to the fault
  pub record Steady (p : Rule S A) : Type 0 where
    pub takes : (s : S) (tokens : List Token) (x : A × S × List Token) → p.read s tokens ≡ Ok x → Takes p s tokens x
    pub stops : (s : S) (tokens : List Token) (e : Stopped) → p.read s tokens ≡ Err e → Stops p s tokens e

  -- a rule that reads something takes a token
  pub record Eats (p : Rule S A) : Type 0 where
    pub less : (s : S) (tokens : List Token) (x : A × S × List Token) → p.read s tokens ≡ Ok x → length x.2 < length tokens
