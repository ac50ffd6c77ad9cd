-- Reading is decided by a prefix: rules that repeat others, and rules behind words that are skipped.
use Rattle.std.proofs.Common.{◌≡◌, ℕ, suc, zero, ◌<◌, Bool, true, false, List, [], ◌∷◌, ◌++◌, ◌⊎◌, length, Option, Some, None, Result, Ok, Err, inl, inr, refl, sym, ap, subst, ◌∙◌, append_assoc, if◌then◌else◌, arith}
use Rattle.no_lex.specs.declared.token.Token.{Token}
use Rattle.no_read_rules.specs.declared.fault.Stopped.{Stopped}
use Rattle.no_read_rules.specs.Lists.{closes_list, more_item, some_items, no_items, items}
use Rattle.no_read_rules.specs.Repeated.{with_item, next_item, repeat_read, repeat_all, repeat}
use Rattle.no_read_rules.specs.Rules.{Rule, after, plain, done, ◌>>=◌, next_is, choose}
use Rattle.no_read_rules.specs.Spelled.{is_sign}
use Rattle.no_read_rules.proofs.Laws.{from_ok, after_ok}
use Rattle.no_read_constants.specs.Skipped.{skip_while, behind}
use Rattle.no_read_attributes.specs.Ending.{more_where, items_where}
use Rattle.no_fault_places.specs.Prefixes.{BeginAlike, Takes, Stops, Steady, Eats}
use Rattle.no_fault_places.proofs.Prefix.{after_err, begin_behind, begin_part, plain_steady, done_steady, choose_steady, if_next_steady, then_steady, plain_eats, then_eats}

-- ---- a step as long as it gives an item

module _ {S A : Type 0} (step : Rule S (Option A)) (h : Steady step) (falls : (s t : S) (tokens rest : List Token) (a : A) → step.read s tokens ≡ Ok (Some a, t, rest) → length rest < length tokens) where
  -- what is read doesn't depend on how many steps are allowed
  abbrev More : Type 0
  More = S → List Token → Result (List A × S × List Token) Stopped

  by_step : (s : S) (ts : List Token) (f g : More) (r : Result (Option A × S × List Token) Stopped) → step.read s ts ≡ r → ((t : S) (us : List Token) → length us < length ts → f t us ≡ g t us) → after r (next_item f) ≡ after r (next_item g)
  by_step s ts f g (Err d) e same = refl
  by_step s ts f g (Ok x) e same = one x.0 x.1 x.2 e
    where
      one : (o : Option A) (t : S) (us : List Token) → step.read s ts ≡ Ok (o, t, us) → next_item f (o, t, us) ≡ next_item g (o, t, us)
      one None t us e = refl
      one (Some a) t us e = ap (λ (r : Result (List A × S × List Token) Stopped). after r (with_item a)) (same t us (falls s t ts us a e))

  fuel : (n m : ℕ) (s : S) (tokens : List Token) → length tokens < n → length tokens < m → repeat_read step n s tokens ≡ repeat_read step m s tokens
  unfolding repeat_read
  fuel zero m s tokens h k = absurd (omega arith)
  fuel (suc n) zero s tokens h k = absurd (omega arith)
  fuel (suc n) (suc m) s tokens h k = by_step s tokens (repeat_read step n) (repeat_read step m) (step.read s tokens) refl (λ t us lt. fuel n m t us (omega arith) (omega arith))

  unrolls : (s : S) (tokens : List Token) → repeat_all step s tokens ≡ after (step.read s tokens) (next_item (repeat_all step))
  unfolding repeat_read repeat_all
  unrolls s tokens = by_step s tokens (repeat_read step (length tokens)) (repeat_all step) (step.read s tokens) refl (λ t us lt. fuel (length tokens) (suc (length us)) t us lt (omega arith))

  ends_again : (s t : S) (used rest : List Token) → step.read s (used ++ rest) ≡ Ok (None, t, rest) → repeat_all step s (used ++ rest) ≡ Ok ([], t, rest)
  ends_again s t used rest e = unrolls s (used ++ rest) ∙ (rw e refl)

  goes_again : (s t u : S) (a : A) (others : List A) (front back rest : List Token) → step.read s (front ++ (back ++ rest)) ≡ Ok (Some a, t, back ++ rest) → repeat_all step t (back ++ rest) ≡ Ok (others, u, rest)
      → repeat_all step s ((front ++ back) ++ rest) ≡ Ok (a ∷ others, u, rest)
  goes_again s t u a others front back rest e k = ap (repeat_all step s) (append_assoc front back rest) ∙ unrolls s (front ++ (back ++ rest)) ∙ (rw (e, k) refl)

  fails_again : (s t : S) (a : A) (front all : List Token) (e : Stopped) → step.read s (front ++ all) ≡ Ok (Some a, t, all) → repeat_all step t all ≡ Err e → repeat_all step s (front ++ all) ≡ Err e
  fails_again s t a front all e i k = unrolls s (front ++ all) ∙ (rw (i, k) refl)

  takes_within : (n : ℕ) (s : S) (tokens : List Token) (x : List A × S × List Token) → length tokens < n → repeat_all step s tokens ≡ Ok x → Takes (repeat step) s tokens x
  takes_within zero s tokens x lt e = absurd (omega arith)
  takes_within (suc n) s tokens x lt e = let r = after_ok (step.read s tokens) (next_item (repeat_all step)) x (sym (unrolls s tokens) ∙ e) in item r.0.0 r.0.1 r.0.2 r.1 r.2 (takes_within n)
    where
      item : (o : Option A) (t : S) (us : List Token) → step.read s tokens ≡ Ok (o, t, us) → next_item (repeat_all step) (o, t, us) ≡ Ok x
          → ((s : S) (tokens : List Token) (x : List A × S × List Token) → length tokens < n → repeat_all step s tokens ≡ Ok x → Takes (repeat step) s tokens x) → Takes (repeat step) s tokens x
      item None t us read k more =
          let f = h.takes s tokens (None, t, us) read in
          subst (Takes (repeat step) s tokens) (from_ok ([], t, us) x k) (record { used = f.used; parts = f.parts; again = λ rest begin. ends_again s t f.used rest (f.again rest begin) })
      item (Some a) t us read k more =
          let f = h.takes s tokens (Some a, t, us) read in
          let r = after_ok (repeat_all step t us) (with_item a) x k in
          let shorter : length us < length tokens = falls s t tokens us a read in
          let b = more t us r.0 (omega (arith, lt, shorter)) r.1 in
          subst (Takes (repeat step) s tokens) (from_ok (a ∷ r.0.0, r.0.1, r.0.2) x r.2) (record {
            used = f.used ++ b.used;
            parts = f.parts ∙ ap (λ (l : List Token). f.used ++ l) b.parts ∙ sym (append_assoc f.used b.used r.0.2);
            again = λ rest begin.
                goes_again s t r.0.1 a r.0.0 f.used b.used rest
                (f.again (b.used ++ rest) (subst (λ (l : List Token). BeginAlike l (b.used ++ rest)) (sym b.parts) (begin_behind b.used r.0.2 rest begin))) (b.again rest begin);
          })

  stops_within : (n : ℕ) (s : S) (tokens : List Token) (e : Stopped) → length tokens < n → repeat_all step s tokens ≡ Err e → Stops (repeat step) s tokens e
  stops_within zero s tokens e lt k = absurd (omega arith)
  stops_within (suc n) s tokens e lt k = go (after_err (step.read s tokens) (next_item (repeat_all step)) e (sym (unrolls s tokens) ∙ k)) (stops_within n)
    where
      first : Stops step s tokens e → Stops (repeat step) s tokens e
      first (inl m) = inl m
      first (inr r) = inr (record {
        before = r.before;
        token = r.token;
        more = r.more;
        rest = r.rest;
        parts = r.parts;
        at = r.at;
        part = r.part;
        again = λ other. unrolls s (r.before ++ (r.token ∷ (r.more ++ other))) ∙ (rw (r.again other) refl);
      })

      later : (a : A) (t : S) (used us : List Token) → tokens ≡ used ++ us → ((rest : List Token) → BeginAlike us rest → step.read s (used ++ rest) ≡ Ok (Some a, t, rest)) → Stops (repeat step) t us e → Stops (repeat step) s tokens e
      later a t used us parts front (inl m) = inl m
      later a t used us parts front (inr r) = inr (record {
        before = used ++ r.before;
        token = r.token;
        more = r.more;
        rest = r.rest;
        parts = parts ∙ ap (λ (l : List Token). used ++ l) r.parts ∙ sym (append_assoc used r.before (r.token ∷ (r.more ++ r.rest)));
        at = r.at;
        part = r.part;
        again = λ other.
            let all : List Token = r.before ++ (r.token ∷ (r.more ++ other)) in
            ap (repeat_all step s) (append_assoc used r.before (r.token ∷ (r.more ++ other)))
            ∙ fails_again s t a used (r.before ++ (r.token ∷ (r.more ++ other))) e
            (front (r.before ++ (r.token ∷ (r.more ++ other))) (subst (λ (l : List Token). BeginAlike l (r.before ++ (r.token ∷ (r.more ++ other)))) (sym r.parts) (begin_part r.before r.token (r.more ++ r.rest) (r.more ++ other))))
            (r.again other);
      })

      item : (o : Option A) (t : S) (us : List Token) → step.read s tokens ≡ Ok (o, t, us) → next_item (repeat_all step) (o, t, us) ≡ Err e
          → ((s : S) (tokens : List Token) (e : Stopped) → length tokens < n → repeat_all step s tokens ≡ Err e → Stops (repeat step) s tokens e) → Stops (repeat step) s tokens e
      item None t us read l more = absurd cc
      item (Some a) t us read l more =
          let f = h.takes s tokens (Some a, t, us) read in
          let shorter : length us < length tokens = falls s t tokens us a read in
          later a t f.used us f.parts f.again (more t us e (omega (arith, lt, shorter)) (inner (after_err (repeat_all step t us) (with_item a) e l)))
        where
          inner : (repeat_all step t us ≡ Err e) ⊎ ((y : List A × S × List Token) × (repeat_all step t us ≡ Ok y) × (with_item a y ≡ Err e)) → repeat_all step t us ≡ Err e
          inner (inl i) = i
          inner (inr i) = absurd (never i.0 i.2)
            where
              never : (y : List A × S × List Token) → with_item a y ≡ Err e → ⊥
              never y q = cc

      go : (step.read s tokens ≡ Err e) ⊎ ((y : Option A × S × List Token) × (step.read s tokens ≡ Ok y) × (next_item (repeat_all step) y ≡ Err e))
          → ((s : S) (tokens : List Token) (e : Stopped) → length tokens < n → repeat_all step s tokens ≡ Err e → Stops (repeat step) s tokens e) → Stops (repeat step) s tokens e
      go (inl r) more = first (h.stops s tokens e r)
      go (inr r) more = item r.0.0 r.0.1 r.0.2 r.1 r.2 more

  pub repeat_steady : Steady (repeat step)
  repeat_steady = record { takes = λ s tokens x e. takes_within (suc (length tokens)) s tokens x (omega arith) e; stops = λ s tokens e k. stops_within (suc (length tokens)) s tokens e (omega arith) k }

-- ---- lists in brackets

module _ {S A : Type 0} (text close : List ℕ) (item : Rule S A) (h : Steady item) where
  pub more_steady : Steady (more_item text close item)
  unfolding more_item
  more_steady = then_steady _ _ (plain_steady _) (λ closes. choose_steady closes _ _ (done_steady None) (then_steady _ _ h (λ a. done_steady (Some a))))

  more_falls : (s t : S) (tokens rest : List Token) (a : A) → (more_item text close item).read s tokens ≡ Ok (Some a, t, rest) → length rest < length tokens
  unfolding more_item
  more_falls s t tokens rest a e = (then_eats (plain (closes_list text close)) (λ closes. choose closes (done None) (item >>= λ a. done (Some a))) (plain_eats (closes_list text close))
      (λ closes. choose_steady closes _ _ (done_steady None) (then_steady _ _ h (λ a. done_steady (Some a))))).less s tokens (Some a, t, rest) e

  pub more_items_steady : Steady (repeat (more_item text close item))
  more_items_steady = repeat_steady (more_item text close item) more_steady more_falls

  some_steady : Steady (some_items text close item)
  unfolding some_items
  some_steady = then_steady _ _ h (λ first. then_steady _ _ more_items_steady (λ others. done_steady (first ∷ others)))

  no_steady : Steady (no_items {S = S} {A = A} text close)
  unfolding no_items
  no_steady = then_steady _ _ (plain_steady _) (λ _. done_steady [])

  pub items_steady : Steady (items text close item)
  unfolding items
  items_steady = if_next_steady (is_sign text close) _ _ no_steady some_steady

-- ---- items as long as the next token passes a test

module _ {S A : Type 0} (f : Token → Bool) (item : Rule S A) (h : Steady item) (eats : Eats item) where
  pub more_where_steady : Steady (more_where f item)
  more_where_steady = if_next_steady f _ _ (then_steady _ _ h (λ a. done_steady (Some a))) (done_steady None)

  where_falls : (s t : S) (tokens rest : List Token) (a : A) → (more_where f item).read s tokens ≡ Ok (Some a, t, rest) → length rest < length tokens
  where_falls s t tokens rest a e = go (next_is f tokens) e
    where
      never : None ≡ Some a → ⊥
      never k = cc

      go : (b : Bool) → (choose b (item >>= λ a. done (Some a)) (done None)).read s tokens ≡ Ok (Some a, t, rest) → length rest < length tokens
      go true k = (then_eats item (λ a. done (Some a)) eats (λ a. done_steady (Some a))).less s tokens (Some a, t, rest) k
      go false k = absurd (never (ap (λ (x : Option A × S × List Token). x.0) (from_ok (None, s, tokens) (Some a, t, rest) k)))

  pub items_where_steady : Steady (items_where f item)
  items_where_steady = repeat_steady (more_where f item) more_where_steady where_falls

-- ---- behind words that are skipped

module _ (f : Token → Bool) where
  -- words that pass, and what stands behind them
  pub record Skipped (tokens : List Token) : Type 0 where
    pub front : List Token
    pub parts : tokens ≡ front ++ skip_while f tokens
    pub again : (back : List Token) → BeginAlike (skip_while f tokens) back → skip_while f (front ++ back) ≡ back

  skipped : (tokens : List Token) → Skipped tokens
  skipped [] = record { front = []; parts = refl; again = none_again }
    where
      none_again : (back : List Token) → BeginAlike [] back → skip_while f back ≡ back
      none_again [] b = refl
      none_again (u ∷ us) b = absurd b
  skipped (t ∷ ts) = by (f t) refl (skipped ts)
    where
      by : (b : Bool) → f t ≡ b → Skipped ts → Skipped (t ∷ ts)
      by true e s = record { front = t ∷ s.front; parts = rw e (ap (λ (l : List Token). t ∷ l) s.parts); again = λ back b. rw e (s.again back (subst (λ (l : List Token). BeginAlike l back) (stays e) b)) }
        where
          stays : f t ≡ true → (if f t then skip_while f ts else t ∷ ts) ≡ skip_while f ts
          stays e = rw e refl
      by false e s = record { front = []; parts = rw e refl; again = λ back b. same back (subst (λ (l : List Token). BeginAlike l back) (stops e) b) }
        where
          stops : f t ≡ false → (if f t then skip_while f ts else t ∷ ts) ≡ t ∷ ts
          stops e = rw e refl

          same : (back : List Token) → BeginAlike (t ∷ ts) back → skip_while f back ≡ back
          same [] b = absurd b
          same (u ∷ us) b = rw (ap f b ∙ e) refl

  module _ {S A : Type 0} (p : Rule S A) (h : Steady p) where
    behind_takes : (s : S) (tokens : List Token) (x : A × S × List Token) → (behind f p).read s tokens ≡ Ok x → Takes (behind f p) s tokens x
    behind_takes s tokens x e =
        let k = skipped tokens in
        let t = h.takes s (skip_while f tokens) x e in
        record {
          used = k.front ++ t.used;
          parts = k.parts ∙ ap (λ (l : List Token). k.front ++ l) t.parts ∙ sym (append_assoc k.front t.used x.2);
          again = λ rest begin.
              ap (λ (l : List Token). p.read s (skip_while f l)) (append_assoc k.front t.used rest)
              ∙ ap (p.read s) (k.again (t.used ++ rest) (subst (λ (l : List Token). BeginAlike l (t.used ++ rest)) (sym t.parts) (begin_behind t.used x.2 rest begin)))
              ∙ t.again rest begin;
        }

    behind_stops : (s : S) (tokens : List Token) (e : Stopped) → (behind f p).read s tokens ≡ Err e → Stops (behind f p) s tokens e
    behind_stops s tokens e l = go (skipped tokens) (h.stops s (skip_while f tokens) e l)
      where
        go : Skipped tokens → Stops p s (skip_while f tokens) e → Stops (behind f p) s tokens e
        go k (inl n) = inl n
        go k (inr r) = inr (record {
          before = k.front ++ r.before;
          token = r.token;
          more = r.more;
          rest = r.rest;
          parts = k.parts ∙ ap (λ (l : List Token). k.front ++ l) r.parts ∙ sym (append_assoc k.front r.before (r.token ∷ (r.more ++ r.rest)));
          at = r.at;
          part = r.part;
          again = λ other.
              ap (λ (l : List Token). p.read s (skip_while f l)) (append_assoc k.front r.before (r.token ∷ (r.more ++ other)))
              ∙ ap (p.read s) (k.again (r.before ++ (r.token ∷ (r.more ++ other))) (subst (λ (l : List Token). BeginAlike l (r.before ++ (r.token ∷ (r.more ++ other)))) (sym r.parts) (begin_part r.before r.token (r.more ++ r.rest) (r.more ++ other))))
              ∙ r.again other;
        })

    pub behind_steady : Steady (behind f p)
    behind_steady = record { takes = behind_takes; stops = behind_stops }
