-- With which tokens a rule begins.
use Rattle.std.proofs.Common.{◌≡◌, ℕ, Bool, List, [], ◌∷◌, ◌++◌, Result, Ok, Err, inl, inr, sym, ap}
use Rattle.no_lex.specs.declared.token.Token.{Token}
use Rattle.no_read_rules.specs.declared.fault.Flaw.{Flaw}
use Rattle.no_read_rules.specs.Rules.{Rule, one, keeping, plain, ◌>>=◌, lift, next_is, if_next, checked}
use Rattle.no_print.specs.Pieces.{Piece}
use Rattle.no_round_trip.specs.Spells.{Spells}
use Rattle.no_round_trip.proofs.RuleStanding.{stand_parts, Begins}

-- ---- a value that a test of a token kept

abbrev fine : {X : Type 0} → X → Result X Flaw
fine x = Ok x

pub from_fine : {X : Type 0} (x y : X) → fine x ≡ fine y → x ≡ y
from_fine x y e = cc

pub kept_value : {S A : Type 0} (s : S) (r : Result A Flaw) (a : A) (t : S) → keeping s r ≡ Ok (a, t) → r ≡ Ok a
kept_value {S = S} {A = A} s (Ok b) a t e = ap (λ (x : A × S). fine x.0) (from_fine {X = A × S} (b, s) (a, t) e)
kept_value s (Err flaw) a t e = absurd cc

pub kept_state : {S A : Type 0} (s : S) (r : Result A Flaw) (a : A) (t : S) → keeping s r ≡ Ok (a, t) → t ≡ s
kept_state {S = S} {A = A} s (Ok b) a t e = sym (ap (λ (x : A × S). x.1) (from_fine {X = A × S} (b, s) (a, t) e))
kept_state s (Err flaw) a t e = absurd cc

-- ---- the first token

-- there is a first token, of which the test answers so
abbrev pub Leads : (Token → Bool) → Bool → List Token → Type 0
Leads test answer [] = ⊥
Leads test answer (token ∷ tokens) = test token ≡ answer

pub leads_front : (test : Token → Bool) (answer : Bool) (front back : List Token) → Leads test answer front → Leads test answer (front ++ back)
leads_front test answer [] back h = absurd h
leads_front test answer (t ∷ front) back h = h

pub leads_next : (test : Token → Bool) (answer : Bool) (tokens : List Token) → Leads test answer tokens → next_is test tokens ≡ answer
leads_next test answer [] h = absurd h
leads_next test answer (t ∷ tokens) h = h

-- whatever the rule means begins with a token of which the test answers so
abbrev pub Opens : {S A : Type 0} → (Token → Bool) → Bool → Rule S A → Type 0
Opens {S = S} {A = A} test answer p = (s t : S) (tokens : List Token) (a : A) → p.means s tokens a t → Leads test answer tokens

-- pieces that such a rule spells begin so, whatever stands behind them
pub begins_by : {S A : Type 0} (text : List ℕ) (test : Token → Bool) (answer : Bool) (p : Rule S A) → Opens test answer p
    → (s t : S) (a : A) (front back : List Piece) → Spells text p s front a t → Begins text test answer (front ++ back)
begins_by text test answer p opens s t a front back spells tokens stand =
    let r = stand_parts text tokens front back stand in
    rw r.parts (leads_next test answer (r.front ++ r.back) (leads_front test answer r.front r.back (opens s t r.front a (spells r.front r.in_front))))

-- the same with nothing behind them
pub begins_alone : {S A : Type 0} (text : List ℕ) (test : Token → Bool) (answer : Bool) (p : Rule S A) → Opens test answer p
    → (s t : S) (a : A) (pieces : List Piece) → Spells text p s pieces a t → Begins text test answer pieces
begins_alone text test answer p opens s t a pieces spells tokens stand = leads_next test answer tokens (opens s t tokens a (spells tokens stand))

module _ {S A : Type 0} (test : Token → Bool) (answer : Bool) where
  pub one_opens : (f : S → Token → Result (A × S) Flaw) → ((s t : S) (token : Token) (a : A) → f s token ≡ Ok (a, t) → test token ≡ answer) → Opens test answer (one f)
  one_opens f h s t tokens a m = rw m.alone (h s t m.token a m.value)

  pub plain_opens : (f : Token → Result A Flaw) → ((token : Token) (a : A) → f token ≡ Ok a → test token ≡ answer) → Opens {S = S} test answer (plain f)
  plain_opens f h s t tokens a m = rw m.alone (h m.token a (kept_value s (f m.token) a t m.value))

  pub lift_opens : (p : Rule (Unit {0}) A) → Opens test answer p → Opens {S = S} test answer (lift p)
  lift_opens p h s t tokens a m = h tt tt tokens a m.0

  pub if_next_opens : (choice : Token → Bool) (p q : Rule S A) → Opens test answer p → Opens test answer q → Opens test answer (if_next choice p q)
  if_next_opens choice p q x y s t tokens a (inl m) = x s t tokens a m.1
  if_next_opens choice p q x y s t tokens a (inr m) = y s t tokens a m.1

module _ {S A B : Type 0} (test : Token → Bool) (answer : Bool) where
  pub then_opens : (p : Rule S A) (q : A → Rule S B) → Opens test answer p → Opens test answer (p >>= q)
  then_opens p q h s t tokens b m = rw m.parts (leads_front test answer m.front m.back (h s m.between m.front m.first m.in_front))

  pub checked_opens : (p : Rule S A) (f : A → Result B Flaw) → Opens test answer p → Opens test answer (checked p f)
  checked_opens p f h s t tokens b m = h s t tokens m.value m.read
