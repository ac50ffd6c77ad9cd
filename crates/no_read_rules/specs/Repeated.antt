-- Lists of tokens that repeat a rule.
use Rattle.std.specs.Prelude.{◌≡◌, ℕ, suc, zero, List, [], ◌∷◌, ◌++◌, Option, Some, None, Result, Ok, Err, length}
use Rattle.no_lex.specs.declared.token.Token.{Token}
use Rattle.no_read_rules.specs.declared.fault.Flaw.TheVariants.{Syntax}
use Rattle.no_read_rules.specs.declared.fault.Stopped.{Stopped}
use Rattle.no_read_rules.specs.Rules.{Rule, after, fault}

module _ {S A : Type 0} where
  -- an item, and the others that were read behind it
  abbrev pub with_item : A → List A × S × List Token → Result (List A × S × List Token) Stopped
  with_item a z = Ok (a ∷ z.0, z.1, z.2)

  -- what follows a step: nothing more, or this item and those behind it
  abbrev pub next_item : (S → List Token → Result (List A × S × List Token) Stopped) → Option A × S × List Token → Result (List A × S × List Token) Stopped
  next_item more x = go x.0 x.1 x.2
    where
      go : Option A → S → List Token → Result (List A × S × List Token) Stopped
      go None s rest = Ok ([], s, rest)
      go (Some a) s rest = after (more s rest) (with_item a)

  -- the tokens begin with a step that gives this item, and more follows
  pub record IsItem (step : Rule S (Option A)) (more : S → List Token → Type 0) (s : S) (tokens : List Token) (a : A) : Type 0 where
    pub front : List Token
    pub back : List Token
    pub between : S
    pub parts : tokens ≡ front ++ back
    pub item : step.means s front (Some a) between
    pub others : more between back

  -- the step gives these items, and then nothing more
  abbrev pub IsRepeated : Rule S (Option A) → S → List Token → List A → S → Type 0
  IsRepeated step s tokens [] t = step.means s tokens None t
  IsRepeated step s tokens (a ∷ others) t = IsItem step (λ between back. IsRepeated step between back others t) s tokens a

  -- steps read from the front until one gives nothing, at most so many, since each takes a token
  unfoldable pub repeat_read : Rule S (Option A) → ℕ → S → List Token → Result (List A × S × List Token) Stopped
  repeat_read step zero s tokens = Err (fault Syntax tokens)
  repeat_read step (suc n) s tokens = after (step.read s tokens) (next_item (repeat_read step n))

  -- steps read from the front until one gives nothing, at most one more than there are tokens
  unfoldable pub repeat_all : Rule S (Option A) → S → List Token → Result (List A × S × List Token) Stopped
  repeat_all step s tokens = repeat_read step (suc (length tokens)) s tokens

  -- a step again and again, until it gives no item
  abbrev pub repeat : Rule S (Option A) → Rule S (List A)
  repeat step = record { means = IsRepeated step; read = repeat_all step }

  -- these items, and then what is read
  abbrev pub with_front : List A → Result (List A × S × List Token) Stopped → Result (List A × S × List Token) Stopped
  with_front front r = after r (λ x. Ok (front ++ x.0, x.1, x.2))
