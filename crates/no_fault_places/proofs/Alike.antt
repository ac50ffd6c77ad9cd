-- Texts that begin alike are read alike: a law for each way to make a rule.
use Rattle.std.proofs.Common.{◌≡◌, suc, length, Bool, true, false, List, [], ◌∷◌, Some, None, Result, Ok, Err, is_none, refl, sym, ap, subst}
use Rattle.no_lex.specs.declared.token.Token.{Token}
use Rattle.no_read_rules.specs.declared.fault.Flaw.{Flaw}
use Rattle.no_read_rules.specs.declared.fault.Stopped.{Stopped}
use Rattle.no_read_rules.specs.Rules.{Rule, place_of, after, one_value, one_read, one, keeping, plain, done, change, ◌>>=◌, lift_value, lift, next_is, choose, if_next, maybe, judged, checked}
use Rattle.no_read_rules.specs.Scope.{Meaning}
use Rattle.no_fault_places.specs.Alike.{IsAlike, AreAlike}

-- ---- what two readings have in common

-- the same value
abbrev pub Same : {A : Type 0} → A → A → Type 0
Same a b = b ≡ a

-- any two values
abbrev pub Any : {A : Type 0} → A → A → Type 0
Any a b = Unit {0}

-- both faults stand at a token, or both at the end
abbrev pub EndAlike : Stopped → Stopped → Type 0
EndAlike e f = is_none f.at ≡ is_none e.at

-- what two tokens are
abbrev pub ValueAlike : {A : Type 0} → (A → A → Type 0) → Result A Flaw → Result A Flaw → Type 0
ValueAlike R (Ok a) (Ok b) = R a b
ValueAlike R (Ok a) (Err d) = ⊥
ValueAlike R (Err c) (Ok b) = ⊥
ValueAlike R (Err c) (Err d) = Unit {0}

abbrev pub OneAlike : {S A : Type 0} → (A → A → Type 0) → Result (A × S) Flaw → Result (A × S) Flaw → Type 0
OneAlike R (Ok x) (Ok y) = R x.0 y.0 × (y.1 ≡ x.1)
OneAlike R (Ok x) (Err d) = ⊥
OneAlike R (Err c) (Ok y) = ⊥
OneAlike R (Err c) (Err d) = Unit {0}

module _ (here there : Meaning) where
  pub record BothRead {S A : Type 0} (R : A → A → Type 0) (x y : A × S × List Token) : Type 0 where
    pub value : R x.0 y.0
    pub state : y.1 ≡ x.1
    pub rest : AreAlike here there x.2 y.2

  abbrev pub AnswerAlike : {S A : Type 0} → (A → A → Type 0) → Result (A × S × List Token) Stopped → Result (A × S × List Token) Stopped → Type 0
  AnswerAlike R (Ok x) (Ok y) = BothRead R x y
  AnswerAlike R (Ok x) (Err f) = ⊥
  AnswerAlike R (Err e) (Ok y) = ⊥
  AnswerAlike R (Err e) (Err f) = EndAlike e f

  -- where the tokens are alike, the values are in relation, and the states and what is left are alike; or both are refused
  pub record Alike {S A : Type 0} (R : A → A → Type 0) (p q : Rule S A) : Type 0 where
    pub answers : (s : S) (ts us : List Token) → AreAlike here there ts us → AnswerAlike R (p.read s ts) (q.read s us)

-- ---- values

pub same_value : {A : Type 0} (x : Result A Flaw) → ValueAlike Same x x
same_value (Ok a) = refl
same_value (Err d) = tt

any_value : {A : Type 0} (x : Result A Flaw) → ValueAlike Any x x
any_value (Ok a) = tt
any_value (Err d) = tt

same_values : {S A : Type 0} (x : Result (A × S) Flaw) → OneAlike Same x x
same_values (Ok x) = (refl, refl)
same_values (Err d) = tt

kept : {S A : Type 0} (R : A → A → Type 0) (s : S) (x y : Result A Flaw) → ValueAlike R x y → OneAlike R (keeping s x) (keeping s y)
kept R s (Ok a) (Ok b) v = (v, refl)
kept R s (Ok a) (Err d) v = absurd v
kept R s (Err c) (Ok b) v = absurd v
kept R s (Err c) (Err d) v = tt

module _ (here there : Meaning) where
  -- ---- lists of tokens

  pub next_alike : (f g : Token → Bool) → ((t u : Token) → IsAlike here there t u → g u ≡ f t) → (ts us : List Token) → AreAlike here there ts us → next_is g us ≡ next_is f ts
  next_alike f g h [] [] k = refl
  next_alike f g h [] (u ∷ us) k = absurd k
  next_alike f g h (t ∷ ts) [] k = absurd k
  next_alike f g h (t ∷ ts) (u ∷ us) k = h t u k.0

  pub place_alike : (ts us : List Token) → AreAlike here there ts us → is_none (place_of us) ≡ is_none (place_of ts)
  place_alike [] [] k = refl
  place_alike [] (u ∷ us) k = absurd k
  place_alike (t ∷ ts) [] k = absurd k
  place_alike (t ∷ ts) (u ∷ us) k = refl

  pub length_alike : (ts us : List Token) → AreAlike here there ts us → length us ≡ length ts
  length_alike [] [] k = refl
  length_alike [] (u ∷ us) k = absurd k
  length_alike (t ∷ ts) [] k = absurd k
  length_alike (t ∷ ts) (u ∷ us) k = ap suc (length_alike ts us k.1)

  -- ---- answers

  module _ {S A : Type 0} (R : A → A → Type 0) where
    one_values : (x y : Result (A × S) Flaw) (t u : Token) (ts us : List Token) → OneAlike R x y → AreAlike here there ts us → AnswerAlike here there R (one_value x t ts) (one_value y u us)
    one_values (Ok x) (Ok y) t u ts us v k = record { value = v.0; state = v.1; rest = k }
    one_values (Ok x) (Err d) t u ts us v k = absurd v
    one_values (Err c) (Ok y) t u ts us v k = absurd v
    one_values (Err c) (Err d) t u ts us v k = refl

    one_answers : (f g : S → Token → Result (A × S) Flaw) → ((s : S) (t u : Token) → IsAlike here there t u → OneAlike R (f s t) (g s u))
        → (s : S) (ts us : List Token) → AreAlike here there ts us → AnswerAlike here there R (one_read f s ts) (one_read g s us)
    one_answers f g h s [] [] k = refl
    one_answers f g h s [] (u ∷ us) k = absurd k
    one_answers f g h s (t ∷ ts) [] k = absurd k
    one_answers f g h s (t ∷ ts) (u ∷ us) k = one_values (f s t) (g s u) t u ts us (h s t u k.0) k.1

    lifted : (s : S) (x y : Result (A × Unit {0} × List Token) Stopped) → AnswerAlike here there R x y → AnswerAlike here there R (lift_value s x) (lift_value s y)
    lifted s (Ok x) (Ok y) e = record { value = e.value; state = refl; rest = e.rest }
    lifted s (Ok x) (Err f) e = absurd e
    lifted s (Err d) (Ok y) e = absurd e
    lifted s (Err d) (Err f) e = e

    any_answer : (x y : Result (A × S × List Token) Stopped) → AnswerAlike here there R x y → AnswerAlike here there Any x y
    any_answer (Ok x) (Ok y) e = record { value = tt; state = e.state; rest = e.rest }
    any_answer (Ok x) (Err f) e = absurd e
    any_answer (Err d) (Ok y) e = absurd e
    any_answer (Err d) (Err f) e = e

  module _ {S A B : Type 0} (P : A → A → Type 0) (R : B → B → Type 0) where
    pub then_answers : (f g : A → Rule S B) → ((a b : A) → P a b → Alike here there R (f a) (g b)) → (x y : Result (A × S × List Token) Stopped) → AnswerAlike here there P x y
        → AnswerAlike here there R (after x (λ z. (f z.0).read z.1 z.2)) (after y (λ z. (g z.0).read z.1 z.2))
    then_answers f g k (Ok x) (Ok y) e = subst (λ (t : S). AnswerAlike here there R ((f x.0).read x.1 x.2) ((g y.0).read t y.2)) (sym e.state) ((k x.0 y.0 e.value).answers x.1 x.2 y.2 e.rest)
    then_answers f g k (Ok x) (Err d) e = absurd e
    then_answers f g k (Err c) (Ok y) e = absurd e
    then_answers f g k (Err c) (Err d) e = e

    judged_alike : (ts us : List Token) (v w : Result B Flaw) (x y : A × S × List Token) → AreAlike here there ts us → ValueAlike R v w → BothRead here there P x y → AnswerAlike here there R (judged ts v x) (judged us w y)
    judged_alike ts us (Ok b) (Ok c) x y l v e = record { value = v; state = e.state; rest = e.rest }
    judged_alike ts us (Ok b) (Err d) x y l v e = absurd v
    judged_alike ts us (Err c) (Ok b) x y l v e = absurd v
    judged_alike ts us (Err c) (Err d) x y l v e = place_alike ts us l

    checked_answers : (f g : A → Result B Flaw) → ((a b : A) → P a b → ValueAlike R (f a) (g b)) → (ts us : List Token) → AreAlike here there ts us → (x y : Result (A × S × List Token) Stopped) → AnswerAlike here there P x y
        → AnswerAlike here there R (after x (λ z. judged ts (f z.0) z)) (after y (λ z. judged us (g z.0) z))
    checked_answers f g k ts us l (Ok x) (Ok y) e = judged_alike ts us (f x.0) (g y.0) x y l (k x.0 y.0 e.value) e
    checked_answers f g k ts us l (Ok x) (Err d) e = absurd e
    checked_answers f g k ts us l (Err c) (Ok y) e = absurd e
    checked_answers f g k ts us l (Err c) (Err d) e = e

module _ {here there : Meaning} where
  module _ {S A : Type 0} where
    -- ---- one token

    module _ {R : A → A → Type 0} where
      pub one_alike : (f g : S → Token → Result (A × S) Flaw) → ((s : S) (t u : Token) → IsAlike here there t u → OneAlike R (f s t) (g s u)) → Alike here there R (one f) (one g)
      one_alike f g h = record { answers = one_answers here there R f g h }

      pub plain_alike : (f g : Token → Result A Flaw) → ((t u : Token) → IsAlike here there t u → ValueAlike R (f t) (g u)) → Alike here there {S = S} R (plain f) (plain g)
      plain_alike f g h = one_alike (λ s t. keeping s (f t)) (λ s u. keeping s (g u)) (λ s t u k. kept R s (f t) (g u) (h t u k))

    pub one_same : (f g : S → Token → Result (A × S) Flaw) → ((s : S) (t u : Token) → IsAlike here there t u → g s u ≡ f s t) → Alike here there Same (one f) (one g)
    one_same f g h = one_alike f g (λ s t u k. subst (OneAlike Same (f s t)) (sym (h s t u k)) (same_values (f s t)))

    pub plain_same : (f g : Token → Result A Flaw) → ((t u : Token) → IsAlike here there t u → g u ≡ f t) → Alike here there {S = S} Same (plain f) (plain g)
    plain_same f g h = plain_alike f g (λ t u k. subst (ValueAlike Same (f t)) (sym (h t u k)) (same_value (f t)))

    pub plain_any : (f g : Token → Result A Flaw) → ((t u : Token) → IsAlike here there t u → g u ≡ f t) → Alike here there {S = S} Any (plain f) (plain g)
    plain_any f g h = plain_alike f g (λ t u k. subst (ValueAlike Any (f t)) (sym (h t u k)) (any_value (f t)))

    -- ---- no token

    pub done_alike : {R : A → A → Type 0} (a b : A) → R a b → Alike here there {S = S} R (done a) (done b)
    done_alike a b r = record { answers = λ s ts us k. record { value = r; state = refl; rest = k } }

    pub done_any : (a b : A) → Alike here there {S = S} Any (done a) (done b)
    done_any a b = done_alike a b tt

    pub done_same : (a : A) → Alike here there {S = S} Same (done a) (done a)
    done_same a = done_alike a a refl

    pub change_same : (f : S → A × S) → Alike here there Same (change f) (change f)
    change_same f = record { answers = λ s ts us k. record { value = refl; state = refl; rest = k } }

    module _ {R : A → A → Type 0} where
      -- ---- choices

      pub choose_alike : (b : Bool) (p q v w : Rule S A) → Alike here there R p v → Alike here there R q w → Alike here there R (choose b p q) (choose b v w)
      choose_alike true p q v w h k = h
      choose_alike false p q v w h k = k

      pub if_next_alike : (f g : Token → Bool) (p q v w : Rule S A) → ((t u : Token) → IsAlike here there t u → g u ≡ f t) → Alike here there R p v → Alike here there R q w → Alike here there R (if_next f p q) (if_next g v w)
      if_next_alike f g p q v w e h k = record {
        answers = λ s ts us l.
            subst (λ (b : Bool). AnswerAlike here there R ((choose (next_is f ts) p q).read s ts) ((choose b v w).read s us)) (sym (next_alike here there f g e ts us l)) ((choose_alike (next_is f ts) p q v w h k).answers s ts us l);
      }

      -- ---- a rule without a state among rules with one

      pub lift_alike : (p q : Rule (Unit {0}) A) → Alike here there R p q → Alike here there {S = S} R (lift p) (lift q)
      lift_alike p q h = record { answers = λ s ts us k. lifted here there R s (p.read tt ts) (q.read tt us) (h.answers tt ts us k) }

      -- less of the values
      pub any_alike : (p q : Rule S A) → Alike here there R p q → Alike here there Any p q
      any_alike p q h = record { answers = λ s ts us k. any_answer here there R (p.read s ts) (q.read s us) (h.answers s ts us k) }

  -- ---- one after the other, and a value that has to pass

  module _ {S A B : Type 0} {P : A → A → Type 0} {R : B → B → Type 0} where
    pub then_alike : (p q : Rule S A) (f g : A → Rule S B) → Alike here there P p q → ((a b : A) → P a b → Alike here there R (f a) (g b)) → Alike here there R (p >>= f) (q >>= g)
    then_alike p q f g h k = record { answers = λ s ts us l. then_answers here there P R f g k (p.read s ts) (q.read s us) (h.answers s ts us l) }

    pub checked_alike : (p q : Rule S A) (f g : A → Result B Flaw) → Alike here there P p q → ((a b : A) → P a b → ValueAlike R (f a) (g b)) → Alike here there R (checked p f) (checked q g)
    checked_alike p q f g h k = record { answers = λ s ts us l. checked_answers here there P R f g k ts us l (p.read s ts) (q.read s us) (h.answers s ts us l) }

  module _ {S A B : Type 0} where
    pub then_any : {R : B → B → Type 0} (p q : Rule S A) (f g : A → Rule S B) → Alike here there Any p q → ((a b : A) → Alike here there R (f a) (g b)) → Alike here there R (p >>= f) (q >>= g)
    then_any p q f g h k = then_alike {P = Any} p q f g h (λ a b _. k a b)

    pub then_same : {R : B → B → Type 0} (p q : Rule S A) (f g : A → Rule S B) → Alike here there Same p q → ((a : A) → Alike here there R (f a) (g a)) → Alike here there R (p >>= f) (q >>= g)
    then_same {R = R} p q f g h k = then_alike {P = Same} p q f g h (λ a b e. subst (λ (c : A). Alike here there R (f a) (g c)) (sym e) (k a))

    pub checked_same : (p q : Rule S A) (f : A → Result B Flaw) → Alike here there Same p q → Alike here there Same (checked p f) (checked q f)
    checked_same p q f h = checked_alike {P = Same} {R = Same} p q f f h (λ a b e. subst (λ (c : A). ValueAlike Same (f a) (f c)) (sym e) (same_value (f a)))

  -- a rule whose first token passes the test, or nothing
  pub maybe_same : {S A : Type 0} (f g : Token → Bool) (p q : Rule S A) → ((t u : Token) → IsAlike here there t u → g u ≡ f t) → Alike here there Same p q → Alike here there Same (maybe f p) (maybe g q)
  maybe_same f g p q e h = if_next_alike f g _ _ _ _ e (then_same _ _ _ _ h (λ a. done_same (Some a))) (done_same None)
