-- Texts that begin alike are read alike: words and signs, rules that repeat others, and rules behind what is skipped.
use Rattle.std.proofs.Common.{◌≡◌, ℕ, suc, zero, ◌-◌, ◌==◌, length, Bool, true, false, List, [], ◌∷◌, Option, Some, None, Result, Ok, Err, codes, refl, sym, ap, subst, if◌then◌else◌}
use Rattle.no_lex.specs.declared.token.Token.{Token}
use Rattle.no_lex.specs.declared.token.TokenKind.{TokenKind}
use Rattle.no_read_rules.specs.declared.fault.Stopped.{Stopped}
use Rattle.no_read_rules.specs.Lists.{closes_list, more_item, some_items, no_items, items}
use Rattle.no_read_rules.specs.Repeated.{with_item, next_item, repeat_read, repeat_all, repeat}
use Rattle.no_read_rules.specs.Rules.{Rule, after}
use Rattle.no_read_rules.specs.Spelled.{is_kind, is_word, is_sign, only_where, a_word, a_sign}
use Rattle.no_read_constants.specs.Skipped.{skip_while, behind}
use Rattle.no_read_attributes.specs.Brackets.{behind_close, gone, bracketed}
use Rattle.no_read_attributes.specs.Ending.{ahead, more_where, items_where}
use Rattle.no_read_attributes.specs.Own.{with_state, inside}
use Rattle.no_read_rules.specs.Scope.{Meaning}
use Rattle.no_fault_places.specs.Alike.{IsAlike, AreAlike}
use Rattle.no_fault_places.proofs.Alike.{Same, Any, EndAlike, AnswerAlike, Alike, place_alike, length_alike, plain_same, done_alike, choose_alike, if_next_alike, then_alike, then_same, then_any}

-- ---- tokens

module _ {here there : Meaning} where
  pub kind_alike : (kind : TokenKind) (t u : Token) → IsAlike here there t u → is_kind kind u ≡ is_kind kind t
  kind_alike kind t u k = ap (λ (x : TokenKind). is_kind kind (record t { kind = x })) k.kind

  pub word_alike : (word : List ℕ) (t u : Token) → IsAlike here there t u → is_word there.text word u ≡ is_word here.text word t
  word_alike word t u k = rw (k.kind, k.spelling) refl

  pub sign_alike : (sign : List ℕ) (t u : Token) → IsAlike here there t u → is_sign there.text sign u ≡ is_sign here.text sign t
  sign_alike sign t u k = rw (k.kind, k.spelling) refl

  pub a_word_alike : {S : Type 0} (word : List ℕ) → Alike here there {S = S} Same (a_word here.text word) (a_word there.text word)
  a_word_alike word = plain_same _ _ (λ t u k. ap only_where (word_alike word t u k))

  pub a_sign_alike : {S : Type 0} (sign : List ℕ) → Alike here there {S = S} Same (a_sign here.text sign) (a_sign there.text sign)
  a_sign_alike sign = plain_same _ _ (λ t u k. ap only_where (sign_alike sign t u k))

-- ---- a step as long as it gives an item

-- an item on both sides, or none on both
abbrev pub InOption : {A : Type 0} → (A → A → Type 0) → Option A → Option A → Type 0
InOption P None None = Unit {0}
InOption P None (Some b) = ⊥
InOption P (Some a) None = ⊥
InOption P (Some a) (Some b) = P a b

-- as many items, and each in relation to the other
abbrev pub InLists : {A : Type 0} → (A → A → Type 0) → List A → List A → Type 0
InLists P [] [] = Unit {0}
InLists P [] (b ∷ ys) = ⊥
InLists P (a ∷ xs) [] = ⊥
InLists P (a ∷ xs) (b ∷ ys) = P a b × InLists P xs ys

module _ (here there : Meaning) (S A : Type 0) (P : A → A → Type 0) where
  abbrev More : Type 0
  More = S → List Token → Result (List A × S × List Token) Stopped

  with_alike : (a b : A) → P a b → (x y : Result (List A × S × List Token) Stopped) → AnswerAlike here there (InLists P) x y → AnswerAlike here there (InLists P) (after x (with_item a)) (after y (with_item b))
  with_alike a b v (Ok x) (Ok y) e = record { value = (v, e.value); state = e.state; rest = e.rest }
  with_alike a b v (Ok x) (Err d) e = absurd e
  with_alike a b v (Err c) (Ok y) e = absurd e
  with_alike a b v (Err c) (Err d) e = e

  item_alike : (f g : More) → ((s : S) (ts us : List Token) → AreAlike here there ts us → AnswerAlike here there (InLists P) (f s ts) (g s us))
      → (o w : Option A) (s t : S) (ts us : List Token) → InOption P o w → t ≡ s → AreAlike here there ts us → AnswerAlike here there (InLists P) (next_item f (o, s, ts)) (next_item g (w, t, us))
  item_alike f g more None None s t ts us v e k = record { value = tt; state = e; rest = k }
  item_alike f g more None (Some b) s t ts us v e k = absurd v
  item_alike f g more (Some a) None s t ts us v e k = absurd v
  item_alike f g more (Some a) (Some b) s t ts us v e k = with_alike a b v (f s ts) (g t us) (subst (λ (r : S). AnswerAlike here there (InLists P) (f s ts) (g r us)) (sym e) (more s ts us k))

  step_alike : (f g : More) → ((s : S) (ts us : List Token) → AreAlike here there ts us → AnswerAlike here there (InLists P) (f s ts) (g s us))
      → (x y : Result (Option A × S × List Token) Stopped) → AnswerAlike here there (InOption P) x y → AnswerAlike here there (InLists P) (after x (next_item f)) (after y (next_item g))
  step_alike f g more (Ok x) (Ok y) e = item_alike f g more x.0 y.0 x.1 y.1 x.2 y.2 e.value e.state e.rest
  step_alike f g more (Ok x) (Err d) e = absurd e
  step_alike f g more (Err c) (Ok y) e = absurd e
  step_alike f g more (Err c) (Err d) e = e

  repeat_within : (p q : Rule S (Option A)) → Alike here there (InOption P) p q → (n : ℕ) (s : S) (ts us : List Token) → AreAlike here there ts us → AnswerAlike here there (InLists P) (repeat_read p n s ts) (repeat_read q n s us)
  unfolding repeat_read
  repeat_within p q h zero s ts us k = place_alike here there ts us k
  repeat_within p q h (suc n) s ts us k = step_alike (repeat_read p n) (repeat_read q n) (repeat_within p q h n) (p.read s ts) (q.read s us) (h.answers s ts us k)

module _ {here there : Meaning} {S A : Type 0} where
  module _ {P : A → A → Type 0} where
    pub repeat_alike : (p q : Rule S (Option A)) → Alike here there (InOption P) p q → Alike here there (InLists P) (repeat p) (repeat q)
    unfolding repeat_all
    repeat_alike p q h = record {
      answers = λ s ts us k.
          subst (λ (n : ℕ). AnswerAlike here there (InLists P) (repeat_read p (suc (length ts)) s ts) (repeat_read q (suc n) s us)) (sym (length_alike here there ts us k))
          (repeat_within here there S A P p q h (suc (length ts)) s ts us k);
    }

    -- ---- lists in brackets

    pub more_alike : (close : List ℕ) (p q : Rule S A) → Alike here there P p q → Alike here there (InOption P) (more_item here.text close p) (more_item there.text close q)
    unfolding more_item
    more_alike close p q h = then_same _ _ _ _ (plain_same (closes_list here.text close) (closes_list there.text close) (λ t u k. rw (sign_alike close t u k, sign_alike (codes ",") t u k) refl))
        (λ closes. choose_alike closes _ _ _ _ (done_alike None None tt) (then_alike _ _ _ _ h (λ a b r. done_alike (Some a) (Some b) r)))

    pub items_alike : (close : List ℕ) (p q : Rule S A) → Alike here there P p q → Alike here there (InLists P) (items here.text close p) (items there.text close q)
    unfolding items some_items no_items
    items_alike close p q h = if_next_alike _ _ _ _ _ _ (sign_alike close)
        (then_same _ _ _ _ (a_sign_alike close) (λ _. done_alike [] [] tt))
        (then_alike _ _ _ _ h (λ a b r. then_alike _ _ _ _ (repeat_alike _ _ (more_alike close p q h)) (λ xs ys l. done_alike (a ∷ xs) (b ∷ ys) (r, l))))

    -- ---- items as long as the next token passes a test

    pub more_where_alike : (f g : Token → Bool) (p q : Rule S A) → ((t u : Token) → IsAlike here there t u → g u ≡ f t) → Alike here there P p q → Alike here there (InOption P) (more_where f p) (more_where g q)
    more_where_alike f g p q e h = if_next_alike f g _ _ _ _ e (then_alike _ _ _ _ h (λ a b r. done_alike (Some a) (Some b) r)) (done_alike None None tt)

    pub items_where_alike : (f g : Token → Bool) (p q : Rule S A) → ((t u : Token) → IsAlike here there t u → g u ≡ f t) → Alike here there P p q → Alike here there (InLists P) (items_where f p) (items_where g q)
    items_where_alike f g p q e h = repeat_alike _ _ (more_where_alike f g p q e h)

-- ---- behind words that are skipped

module _ (here there : Meaning) (f g : Token → Bool) (e : (t u : Token) → IsAlike here there t u → g u ≡ f t) where
  skipped_alike : (ts us : List Token) → AreAlike here there ts us → AreAlike here there (skip_while f ts) (skip_while g us)
  skipped_alike [] [] k = tt
  skipped_alike [] (u ∷ us) k = absurd k
  skipped_alike (t ∷ ts) [] k = absurd k
  skipped_alike (t ∷ ts) (u ∷ us) k = subst (λ (b : Bool). AreAlike here there (if f t then skip_while f ts else t ∷ ts) (if b then skip_while g us else u ∷ us)) (sym (e t u k.0)) (by (f t) (skipped_alike ts us k.1))
    where
      by : (b : Bool) → AreAlike here there (skip_while f ts) (skip_while g us) → AreAlike here there (if b then skip_while f ts else t ∷ ts) (if b then skip_while g us else u ∷ us)
      by true l = l
      by false l = k

pub behind_alike : {here there : Meaning} {S A : Type 0} {R : A → A → Type 0} (f g : Token → Bool) (p q : Rule S A) → ((t u : Token) → IsAlike here there t u → g u ≡ f t) → Alike here there R p q → Alike here there R (behind f p) (behind g q)
behind_alike {here = here} {there = there} f g p q e h = record { answers = λ s ts us k. h.answers s (skip_while f ts) (skip_while g us) (skipped_alike here there f g e ts us k) }

-- ---- what stands between two brackets

module _ (here there : Meaning) (opener closer : List ℕ) where
  -- both lists close, and what is left is alike, or neither does
  abbrev CloseAlike : Result (List Token) Stopped → Result (List Token) Stopped → Type 0
  CloseAlike (Ok ts) (Ok us) = AreAlike here there ts us
  CloseAlike (Ok ts) (Err d) = ⊥
  CloseAlike (Err c) (Ok us) = ⊥
  CloseAlike (Err c) (Err d) = EndAlike c d

  close_alike : (n : ℕ) (ts us : List Token) → AreAlike here there ts us → CloseAlike (behind_close here.text opener closer n ts) (behind_close there.text opener closer n us)
  close_alike n [] [] k = refl
  close_alike n [] (u ∷ us) k = absurd k
  close_alike n (t ∷ ts) [] k = absurd k
  close_alike n (t ∷ ts) (u ∷ us) k = rw (sign_alike opener t u k.0, sign_alike closer t u k.0) (by (is_sign here.text opener t) (is_sign here.text closer t) (n == 0) (λ m. close_alike m ts us k.1))
    where
      by : (a b c : Bool) → ((m : ℕ) → CloseAlike (behind_close here.text opener closer m ts) (behind_close there.text opener closer m us))
          → CloseAlike (if a then behind_close here.text opener closer (suc n) ts else (if b then (if c then Ok ts else behind_close here.text opener closer (n - 1) ts) else behind_close here.text opener closer n ts))
          (if a then behind_close there.text opener closer (suc n) us else (if b then (if c then Ok us else behind_close there.text opener closer (n - 1) us) else behind_close there.text opener closer n us))
      by true b c more = more (suc n)
      by false true true more = k.1
      by false true false more = more (n - 1)
      by false false c more = more n

  gone_alike : {S : Type 0} (s : S) (x y : Result (List Token) Stopped) → CloseAlike x y → AnswerAlike here there {S = S} Same (gone s x) (gone s y)
  gone_alike s (Ok ts) (Ok us) k = record { value = refl; state = refl; rest = k }
  gone_alike s (Ok ts) (Err d) k = absurd k
  gone_alike s (Err c) (Ok us) k = absurd k
  gone_alike s (Err c) (Err d) k = k

pub bracketed_alike : {here there : Meaning} {S : Type 0} (opener closer : List ℕ) → Alike here there {S = S} Same (bracketed here.text opener closer) (bracketed there.text opener closer)
unfolding bracketed
bracketed_alike {here = here} {there = there} opener closer = then_same _ _ _ _ (a_sign_alike opener) (λ _. record {
  answers = λ s ts us k. gone_alike here there opener closer s (behind_close here.text opener closer 0 ts) (behind_close there.text opener closer 0 us) (close_alike here there opener closer 0 ts us k);
})

-- ---- a rule with a state of its own

module _ (here there : Meaning) {S T A : Type 0} (R : A → A → Type 0) where
  inside_answers : (s : S) (x y : Result (A × T × List Token) Stopped) → AnswerAlike here there R x y → AnswerAlike here there {S = S} (λ v w. R v.0 w.0) (with_state s x) (with_state s y)
  inside_answers s (Ok x) (Ok y) e = record { value = e.value; state = refl; rest = e.rest }
  inside_answers s (Ok x) (Err d) e = absurd e
  inside_answers s (Err c) (Ok y) e = absurd e
  inside_answers s (Err c) (Err d) e = e

pub inside_any : {here there : Meaning} {S T A : Type 0} (start : T) (p q : Rule T A) → Alike here there Any p q → Alike here there {S = S} Any (inside start p) (inside start q)
inside_any {here = here} {there = there} start p q h = record { answers = λ s ts us k. inside_answers here there Any s (p.read start ts) (q.read start us) (h.answers start ts us k) }

-- ---- a rule, and what follows it: read as one after the other

pub ahead_any : {here there : Meaning} {S A B : Type 0} {R : B → B → Type 0} (e d : A → Token → Bool) (p q : Rule S A) (f g : A → Rule S B) → Alike here there Any p q → ((a b : A) → Alike here there R (f a) (g b)) → Alike here there R (ahead e p f) (ahead d q g)
ahead_any e d p q f g h k = let both = then_any p q f g h k in record { answers = both.answers }
