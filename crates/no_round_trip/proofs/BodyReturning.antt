-- What pieces spell of a function's body, where the states of two texts go on side by side.
use Rattle.std.proofs.Common.{◌≡◌, ℕ, suc, zero, Bool, true, false, List, [], ◌∷◌, ◌++◌, Option, Some, None, refl, sym, subst}
use Rattle.no_lex.specs.declared.token.Token.{Token}
use Rattle.no_read_rules.specs.Repeated.{repeat}
use Rattle.no_read_rules.specs.Rules.{Rule, done, ◌>>=◌, lift, if_next}
use Rattle.no_read_constants.specs.Skipped.{behind}
use Rattle.no_read_registers.specs.declared.locals.Locals.{Locals}
use Rattle.no_read_operations.specs.Folded.{folded}
use Rattle.no_print.specs.Pieces.{Piece}
use Rattle.no_round_trip.specs.Spells.{Spells}
use Rattle.no_round_trip.proofs.RuleFrame.{done_spells, lift_spells, yes_spells, no_spells, then_spells, made_spells}
use Rattle.no_round_trip.proofs.RuleListing.{repeat_end, repeat_more}
use Rattle.no_round_trip.proofs.RuleSkipping.{behind_spells}
use Rattle.no_round_trip.proofs.RuleStanding.{Begins, stand_none, stand_parts}
use Rattle.no_round_trip.specs.States.{Like, Follows, IsFine}

-- where the first text led from a state to another, the pieces spell this value from any state like the one to a state like the other
pub record Returns {A : Type 0} (text : List ℕ) (last : Locals) (q : Rule Locals A) (pieces : List Piece) (a : A) (s t : Locals) : Type 0 where
  pub fine : IsFine s → IsFine t
  pub holds : Follows t last → Follows s last
  pub spells : IsFine s → Follows t last → (z : Locals) → Like s z → (u : Locals) × Like t u × Spells text q z pieces a u

-- ---- rules that go on as long as the next token passes

module _ {S A : Type 0} (text : List ℕ) (test : Token → Bool) (step : A → Rule S A) where
  pub no_steps_spell : (a : A) (s : S) → Spells text (folded test step a) s [] a s
  no_steps_spell a s tokens stand = (zero, (stand_none text tokens stand, refl, refl))

  pub step_spells : (front back : List Piece) (a v b : A) (s u t : S) → Begins text test true front → Spells text (step a) s front v u → Spells text (folded test step v) u back b t
      → Spells text (folded test step a) s (front ++ back) b t
  step_spells front back a v b s u t first x y tokens stand =
      let r = stand_parts text tokens front back stand in
      let k = y r.back r.in_back in
      (suc k.0, record { front = r.front; back = r.back; value = v; between = u; parts = r.parts; begins = first r.front r.in_front; first = x r.front r.in_front; others = k.1 })

-- ---- what pieces spell

module _ {A : Type 0} {text : List ℕ} {last : Locals} where
  pub ending : {q : Rule Locals A} {pieces : List Piece} {a : A} {s t u : Locals} → t ≡ u → Returns text last q pieces a s u → Returns text last q pieces a s t
  ending {q = q} {pieces = pieces} {a = a} {s = s} e x = subst (λ v. Returns text last q pieces a s v) (sym e) x

  -- from a state that is another
  pub starting : {q : Rule Locals A} {pieces : List Piece} {a : A} {s t u : Locals} → u ≡ s → Returns text last q pieces a u t → Returns text last q pieces a s t
  starting {q = q} {pieces = pieces} {a = a} {t = t} e x = subst (λ v. Returns text last q pieces a v t) e x

  pub pieces_are : {q : Rule Locals A} {pieces others : List Piece} {a : A} {s t : Locals} → pieces ≡ others → Returns text last q pieces a s t → Returns text last q others a s t
  pieces_are {q = q} {a = a} {s = s} {t = t} e x = subst (λ l. Returns text last q l a s t) e x

  pub done_returns : (a : A) {s : Locals} → Returns text last (done a) [] a s s
  done_returns a {s = s} = record { fine = λ h. h; holds = λ w. w; spells = λ h w z l. (z, l, done_spells text z a) }

  pub lift_returns : (p : Rule (Unit {0}) A) {pieces : List Piece} {a : A} {s : Locals} → Spells text p tt pieces a tt → Returns text last (lift p) pieces a s s
  lift_returns p {pieces = pieces} {a = a} x = record { fine = λ h. h; holds = λ w. w; spells = λ h w z l. (z, l, lift_spells text p z pieces a x) }

  pub lifted : (p : Rule (Unit {0}) A) {pieces : List Piece} {a : A} {s t : Locals} → t ≡ s → Spells text p tt pieces a tt → Returns text last (lift p) pieces a s t
  lifted p e x = ending e (lift_returns p x)

  -- a value that is another
  pub given : {q : Rule Locals A} {pieces : List Piece} {a b : A} {s t : Locals} → a ≡ b → Returns text last q pieces a s t → Returns text last q pieces b s t
  given {q = q} {pieces = pieces} {s = s} {t = t} e x = subst (λ c. Returns text last q pieces c s t) e x

  -- pieces of a value that is another
  pub value_is : (q : Rule Locals A) (pieces : A → List Piece) {a b : A} {s t : Locals} → b ≡ a → Returns text last q (pieces a) a s t → Returns text last q (pieces b) b s t
  value_is q pieces {s = s} {t = t} e x = subst (λ c. Returns text last q (pieces c) c s t) (sym e) x

  module _ {pieces : List Piece} {a : A} {s t : Locals} where
    pub yes_returns : {test : Token → Bool} {p q : Rule Locals A} → Begins text test true pieces → Returns text last p pieces a s t → Returns text last (if_next test p q) pieces a s t
    yes_returns {test = test} {p = p} {q = q} b x = record { fine = x.fine; holds = x.holds; spells = λ h w z l. let r = x.spells h w z l in (r.0, r.1, yes_spells text test p q z pieces a r.0 b r.2) }

    pub no_returns : {test : Token → Bool} {p q : Rule Locals A} → Begins text test false pieces → Returns text last q pieces a s t → Returns text last (if_next test p q) pieces a s t
    no_returns {test = test} {p = p} {q = q} b x = record { fine = x.fine; holds = x.holds; spells = λ h w z l. let r = x.spells h w z l in (r.0, r.1, no_spells text test p q z pieces a r.0 b r.2) }

    pub behind_returns : {test : Token → Bool} {p : Rule Locals A} → Begins text test false pieces → Returns text last p pieces a s t → Returns text last (behind test p) pieces a s t
    behind_returns {test = test} {p = p} b x = record { fine = x.fine; holds = x.holds; spells = λ h w z l. let r = x.spells h w z l in (r.0, r.1, behind_spells text test p z pieces a r.0 b r.2) }

  -- a step, and those behind it
  pub step_returns : {test : Token → Bool} {step : A → Rule Locals A} {front back : List Piece} {a v b : A} {s u t : Locals} → Begins text test true front
      → Returns text last (step a) front v s u → Returns text last (folded test step v) back b u t → Returns text last (folded test step a) (front ++ back) b s t
  step_returns {test = test} {step = step} {front = front} {back = back} {a = a} {v = v} {b = b} first x y = record {
    fine = λ h. y.fine (x.fine h);
    holds = λ w. x.holds (y.holds w);
    spells = λ h w z l. let r = x.spells h (y.holds w) z l in let k = y.spells (x.fine h) w r.0 r.1 in (k.0, k.1, step_spells text test step front back a v b z r.0 k.0 first r.2 k.2);
  }

  pub no_steps : {test : Token → Bool} {step : A → Rule Locals A} (a : A) {s : Locals} → Returns text last (folded test step a) [] a s s
  no_steps {test = test} {step = step} a {s = s} = record { fine = λ h. h; holds = λ w. w; spells = λ h w z l. (z, l, no_steps_spell text test step a z) }

  -- steps that repeat
  pub end_returns : {step : Rule Locals (Option A)} {pieces : List Piece} {s t : Locals} → Returns text last step pieces None s t → Returns text last (repeat step) pieces [] s t
  end_returns {step = step} {pieces = pieces} x = record { fine = x.fine; holds = x.holds; spells = λ h w z l. let r = x.spells h w z l in (r.0, r.1, repeat_end text step z r.0 pieces r.2) }

  pub more_returns : {step : Rule Locals (Option A)} {front back : List Piece} {a : A} {others : List A} {s u t : Locals}
      → Returns text last step front (Some a) s u → Returns text last (repeat step) back others u t → Returns text last (repeat step) (front ++ back) (a ∷ others) s t
  more_returns {step = step} {front = front} {back = back} {a = a} {others = others} x y = record {
    fine = λ h. y.fine (x.fine h);
    holds = λ w. x.holds (y.holds w);
    spells = λ h w z l. let r = x.spells h (y.holds w) z l in let k = y.spells (x.fine h) w r.0 r.1 in (k.0, k.1, repeat_more text step z r.0 k.0 front back a others r.2 k.2);
  }

module _ {A B : Type 0} {text : List ℕ} {last : Locals} where
  pub then_returns : {p : Rule Locals A} {q : A → Rule Locals B} {front back : List Piece} {a : A} {b : B} {s u t : Locals}
      → Returns text last p front a s u → Returns text last (q a) back b u t → Returns text last (p >>= q) (front ++ back) b s t
  then_returns {p = p} {q = q} {front = front} {back = back} {a = a} {b = b} x y = record {
    fine = λ h. y.fine (x.fine h);
    holds = λ w. x.holds (y.holds w);
    spells = λ h w z l. let r = x.spells h (y.holds w) z l in let k = y.spells (x.fine h) w r.0 r.1 in (k.0, k.1, then_spells text p q z r.0 k.0 front back a b r.2 k.2);
  }

  -- a value made of what a rule gives
  pub made_returns : {p : Rule Locals A} {g : A → B} {pieces : List Piece} {a : A} {s t : Locals} → Returns text last p pieces a s t → Returns text last (p >>= λ x. done (g x)) pieces (g a) s t
  made_returns {p = p} {g = g} {pieces = pieces} {a = a} x = record { fine = x.fine; holds = x.holds; spells = λ h w z l. let r = x.spells h w z l in (r.0, r.1, made_spells text p g z r.0 pieces a r.2) }
