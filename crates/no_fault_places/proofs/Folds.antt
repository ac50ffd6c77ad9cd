-- Reading is decided by a prefix: rules that go on as long as the next token passes a test.
use Rattle.std.proofs.Common.{◌≡◌, ℕ, suc, zero, ◌<◌, Bool, true, false, List, [], ◌∷◌, ◌++◌, ◌⊎◌, length, Result, Ok, Err, inl, inr, refl, sym, ap, subst, ◌∙◌, append_assoc, arith}
use Rattle.no_lex.specs.declared.token.Token.{Token}
use Rattle.no_read_rules.specs.declared.fault.Stopped.{Stopped}
use Rattle.no_read_rules.specs.Rules.{Rule, next_is}
use Rattle.no_read_rules.proofs.Laws.{from_ok, after_ok}
use Rattle.no_read_operations.specs.Folded.{stepped, folded_read, folded_all, folded}
use Rattle.no_fault_places.specs.Prefixes.{BeginAlike, Takes, Stops, Steady, Eats}
use Rattle.no_fault_places.proofs.Prefix.{after_err, begin_behind, begin_part, same_test}

module _ {S A : Type 0} (test : Token → Bool) (step : A → Rule S A) (h : (a : A) → Steady (step a)) (eats : (a : A) → Eats (step a)) where
  falls : (a b : A) (s t : S) (tokens rest : List Token) → (step a).read s tokens ≡ Ok (b, t, rest) → length rest < length tokens
  falls a b s t tokens rest e = (eats a).less s tokens (b, t, rest) e

  -- what is read doesn't depend on how many steps are allowed
  abbrev Total : Type 0
  Total = Result (A × S × List Token) Stopped

  abbrev More : Type 0
  More = A → S → List Token → Total

  by_step : (a : A) (s : S) (ts : List Token) (f g : More) (c : Bool) (r : Total) → (step a).read s ts ≡ r → ((b : A) (t : S) (us : List Token) → length us < length ts → f b t us ≡ g b t us)
      → stepped test step c f a s ts ≡ stepped test step c g a s ts
  by_step a s ts f g false r e same = refl
  by_step a s ts f g true (Err d) e same = rw e refl
  by_step a s ts f g true (Ok x) e same = rw e (same x.0 x.1 x.2 (falls a x.0 s x.1 ts x.2 e))

  fuel : (n m : ℕ) (a : A) (s : S) (tokens : List Token) → length tokens < n → length tokens < m → folded_read test step n a s tokens ≡ folded_read test step m a s tokens
  unfolding folded_read
  fuel zero m a s tokens h k = absurd (omega arith)
  fuel (suc n) zero a s tokens h k = absurd (omega arith)
  fuel (suc n) (suc m) a s tokens h k = by_step a s tokens (folded_read test step n) (folded_read test step m) (next_is test tokens) ((step a).read s tokens) refl (λ b t us lt. fuel n m b t us (omega arith) (omega arith))

  unrolls : (a : A) (s : S) (tokens : List Token) → folded_all test step a s tokens ≡ stepped test step (next_is test tokens) (folded_all test step) a s tokens
  unfolding folded_read folded_all
  unrolls a s tokens = by_step a s tokens (folded_read test step (length tokens)) (folded_all test step) (next_is test tokens) ((step a).read s tokens) refl (λ b t us lt. fuel (length tokens) (suc (length us)) b t us lt (omega arith))

  ends_again : (a : A) (s : S) (tokens : List Token) → next_is test tokens ≡ false → folded_all test step a s tokens ≡ Ok (a, s, tokens)
  ends_again a s tokens n = unrolls a s tokens ∙ (rw n refl)

  goes_again : (a b : A) (s t : S) (tokens rest : List Token) → next_is test tokens ≡ true → (step a).read s tokens ≡ Ok (b, t, rest) → folded_all test step a s tokens ≡ folded_all test step b t rest
  goes_again a b s t tokens rest n e = unrolls a s tokens ∙ (rw (n, e) refl)

  fails_again : (a : A) (s : S) (tokens : List Token) (e : Stopped) → next_is test tokens ≡ true → (step a).read s tokens ≡ Err e → folded_all test step a s tokens ≡ Err e
  fails_again a s tokens e n k = unrolls a s tokens ∙ (rw (n, k) refl)

  takes_within : (n : ℕ) (a : A) (s : S) (tokens : List Token) (x : A × S × List Token) → length tokens < n → folded_all test step a s tokens ≡ Ok x → Takes (folded test step a) s tokens x
  takes_within zero a s tokens x lt e = absurd (omega arith)
  takes_within (suc n) a s tokens x lt e = by (next_is test tokens) refl (sym (unrolls a s tokens) ∙ e) (takes_within n)
    where
      by : (c : Bool) → next_is test tokens ≡ c → stepped test step c (folded_all test step) a s tokens ≡ Ok x
          → ((a : A) (s : S) (tokens : List Token) (x : A × S × List Token) → length tokens < n → folded_all test step a s tokens ≡ Ok x → Takes (folded test step a) s tokens x) → Takes (folded test step a) s tokens x
      by false is k more = subst (Takes (folded test step a) s tokens) (from_ok (a, s, tokens) x k) (record { used = []; parts = refl; again = λ rest begin. ends_again a s rest (sym (same_test test tokens rest begin) ∙ is) })
      by true is k more =
          let r = after_ok ((step a).read s tokens) (λ y. folded_all test step y.0 y.1 y.2) x k in
          let f = (h a).takes s tokens r.0 r.1 in
          let shorter : length r.0.2 < length tokens = falls a r.0.0 s r.0.1 tokens r.0.2 r.1 in
          let b = more r.0.0 r.0.1 r.0.2 x (omega (arith, lt, shorter)) r.2 in
          record {
            used = f.used ++ b.used;
            parts = f.parts ∙ ap (λ (l : List Token). f.used ++ l) b.parts ∙ sym (append_assoc f.used b.used x.2);
            again = λ rest begin.
                let next : BeginAlike r.0.2 (b.used ++ rest) = subst (λ (l : List Token). BeginAlike l (b.used ++ rest)) (sym b.parts) (begin_behind b.used x.2 rest begin) in
                ap (folded_all test step a s) (append_assoc f.used b.used rest)
                ∙ goes_again a r.0.0 s r.0.1 (f.used ++ (b.used ++ rest)) (b.used ++ rest)
                (sym (same_test test (f.used ++ r.0.2) (f.used ++ (b.used ++ rest)) (begin_behind f.used r.0.2 (b.used ++ rest) next)) ∙ ap (next_is test) (sym f.parts) ∙ is) (f.again (b.used ++ rest) next)
                ∙ b.again rest begin;
          }

  stops_within : (n : ℕ) (a : A) (s : S) (tokens : List Token) (e : Stopped) → length tokens < n → folded_all test step a s tokens ≡ Err e → Stops (folded test step a) s tokens e
  stops_within zero a s tokens e lt k = absurd (omega arith)
  stops_within (suc n) a s tokens e lt k = by (next_is test tokens) refl (sym (unrolls a s tokens) ∙ k) (stops_within n)
    where
      opens : (before : List Token) (token : Token) (x y : List Token) → tokens ≡ before ++ (token ∷ x) → next_is test tokens ≡ true → next_is test (before ++ (token ∷ y)) ≡ true
      opens before token x y parts is = same_test test (before ++ (token ∷ y)) (before ++ (token ∷ x)) (begin_part before token y x) ∙ ap (next_is test) (sym parts) ∙ is

      first : next_is test tokens ≡ true → Stops (step a) s tokens e → Stops (folded test step a) s tokens e
      first is (inl m) = inl m
      first is (inr r) = inr (record {
        before = r.before;
        token = r.token;
        more = r.more;
        rest = r.rest;
        parts = r.parts;
        at = r.at;
        part = r.part;
        again = λ other. fails_again a s (r.before ++ (r.token ∷ (r.more ++ other))) e (opens r.before r.token (r.more ++ r.rest) (r.more ++ other) r.parts is) (r.again other);
      })

      later : next_is test tokens ≡ true → (b : A) (t : S) (used us : List Token) → tokens ≡ used ++ us → ((rest : List Token) → BeginAlike us rest → (step a).read s (used ++ rest) ≡ Ok (b, t, rest)) → Stops (folded test step b) t us e → Stops (folded test step a) s tokens e
      later is b t used us parts front (inl m) = inl m
      later is b t used us parts front (inr r) = inr (record {
        before = used ++ r.before;
        token = r.token;
        more = r.more;
        rest = r.rest;
        parts = parts ∙ ap (λ (l : List Token). used ++ l) r.parts ∙ sym (append_assoc used r.before (r.token ∷ (r.more ++ r.rest)));
        at = r.at;
        part = r.part;
        again = λ other.
            let next : BeginAlike us (r.before ++ (r.token ∷ (r.more ++ other))) = subst (λ (l : List Token). BeginAlike l (r.before ++ (r.token ∷ (r.more ++ other)))) (sym r.parts) (begin_part r.before r.token (r.more ++ r.rest) (r.more ++ other)) in
            ap (folded_all test step a s) (append_assoc used r.before (r.token ∷ (r.more ++ other)))
            ∙ goes_again a b s t (used ++ (r.before ++ (r.token ∷ (r.more ++ other)))) (r.before ++ (r.token ∷ (r.more ++ other)))
            (sym (same_test test (used ++ us) (used ++ (r.before ++ (r.token ∷ (r.more ++ other)))) (begin_behind used us (r.before ++ (r.token ∷ (r.more ++ other))) next)) ∙ ap (next_is test) (sym parts) ∙ is) (front (r.before ++ (r.token ∷ (r.more ++ other))) next)
            ∙ r.again other;
      })

      by : (c : Bool) → next_is test tokens ≡ c → stepped test step c (folded_all test step) a s tokens ≡ Err e
          → ((a : A) (s : S) (tokens : List Token) (e : Stopped) → length tokens < n → folded_all test step a s tokens ≡ Err e → Stops (folded test step a) s tokens e) → Stops (folded test step a) s tokens e
      by false is l more = absurd cc
      by true is l more = go (after_err ((step a).read s tokens) (λ y. folded_all test step y.0 y.1 y.2) e l)
        where
          go : ((step a).read s tokens ≡ Err e) ⊎ ((y : A × S × List Token) × ((step a).read s tokens ≡ Ok y) × (folded_all test step y.0 y.1 y.2 ≡ Err e)) → Stops (folded test step a) s tokens e
          go (inl r) = first is ((h a).stops s tokens e r)
          go (inr r) =
              let f = (h a).takes s tokens r.0 r.1 in
              let shorter : length r.0.2 < length tokens = falls a r.0.0 s r.0.1 tokens r.0.2 r.1 in
              later is r.0.0 r.0.1 f.used r.0.2 f.parts f.again (more r.0.0 r.0.1 r.0.2 e (omega (arith, lt, shorter)) r.2)

  pub folded_steady : (a : A) → Steady (folded test step a)
  folded_steady a = record { takes = λ s tokens x e. takes_within (suc (length tokens)) a s tokens x (omega arith) e; stops = λ s tokens e k. stops_within (suc (length tokens)) a s tokens e (omega arith) k }
