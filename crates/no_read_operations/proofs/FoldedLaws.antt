-- The laws of rules that go on as long as the next token passes.
use Rattle.std.proofs.Common.{◌≡◌, ℕ, suc, zero, ◌<◌, Bool, true, false, List, [], ◌∷◌, ◌++◌, length, Result, Ok, Err, refl, sym, ap, subst, ◌∙◌, append_assoc, arith}
use Rattle.std.proofs.lemmas.List.{length-append}
use Rattle.no_lex.specs.declared.token.Token.{Token}
use Rattle.no_read_rules.specs.declared.fault.Stopped.{Stopped}
use Rattle.no_read_rules.specs.declared.fault.Stop.{Stop}
use Rattle.no_read_rules.specs.declared.fault.Stop.TheVariants as stop
use Rattle.no_read_rules.specs.Rules.{Rule, Fails, Found, Avoids, next_is, none, Good, IsSolid, done, ◌>>=◌}
use Rattle.no_read_rules.proofs.Laws.{from_ok, after_ok, avoids_none, follow_good, done_good}
use Rattle.no_read_operations.specs.Folded.{AreSteps, stepped, folded_read, folded_all, folded}

module _ {S A : Type 0} (test : Token → Bool) (step : A → Rule S A) (gs : (a : A) → Good none (step a)) (solid : (a : A) → IsSolid (step a)) where
  abbrev Total : Type 0
  Total = Result (A × S × List Token) Stopped

  abbrev More : Type 0
  More = A → S → List Token → Total

  pub shorter : (a b : A) (s t : S) (tokens rest : List Token) → (step a).read s tokens ≡ Ok (b, t, rest) → length rest < length tokens
  shorter a b s t tokens rest e = let f = (gs a).found s tokens (b, t, rest) e in go f.used f.parts f.meant
    where
      go : (used : List Token) → tokens ≡ used ++ rest → (step a).means s used b t → length rest < length tokens
      go [] parts m = absurd (solid a s t b m)
      go (u ∷ used) parts m = omega (arith, ap length parts, length-append used rest)

  by_step : (a : A) (s : S) (ts : List Token) (f g : More) (c : Bool) (r : Total) → (step a).read s ts ≡ r → ((b : A) (t : S) (us : List Token) → length us < length ts → f b t us ≡ g b t us)
      → stepped test step c f a s ts ≡ stepped test step c g a s ts
  by_step a s ts f g false r e same = refl
  by_step a s ts f g true (Err d) e same = rw e refl
  by_step a s ts f g true (Ok x) e same = rw e (same x.0 x.1 x.2 (shorter a x.0 s x.1 ts x.2 e))

  fuel : (n m : ℕ) (a : A) (s : S) (tokens : List Token) → length tokens < n → length tokens < m → folded_read test step n a s tokens ≡ folded_read test step m a s tokens
  unfolding folded_read
  fuel zero m a s tokens h k = absurd (omega arith)
  fuel (suc n) zero a s tokens h k = absurd (omega arith)
  fuel (suc n) (suc m) a s tokens h k = by_step a s tokens (folded_read test step n) (folded_read test step m) (next_is test tokens) ((step a).read s tokens) refl (λ b t us lt. fuel n m b t us (omega arith) (omega arith))

  pub folded_is : (a : A) (s : S) (tokens : List Token) → folded_all test step a s tokens ≡ stepped test step (next_is test tokens) (folded_all test step) a s tokens
  unfolding folded_read folded_all
  folded_is a s tokens = by_step a s tokens (folded_read test step (length tokens)) (folded_all test step) (next_is test tokens) ((step a).read s tokens) refl (λ b t us lt. fuel (length tokens) (suc (length us)) b t us lt (omega arith))

  -- ---- the steps of a loop

  pub goes_on : (a b : A) (s t : S) (tokens aft : List Token) (total : Total) → next_is test tokens ≡ true → (step a).read s tokens ≡ Ok (b, t, aft)
      → folded_all test step a s tokens ≡ total → folded_all test step b t aft ≡ total
  goes_on a b s t tokens aft total n e so_far =
      let one : folded_all test step a s tokens ≡ folded_all test step b t aft = rw (folded_is a s tokens, n, e) refl in
      sym one ∙ so_far

  pub fails : (e : Stop) (a : A) (s : S) (tokens : List Token) (total : Total) → next_is test tokens ≡ true → Fails e ((step a).read s tokens) → folded_all test step a s tokens ≡ total → Fails e total
  fails stop.NoMemory a s tokens total n f so_far = tt
  fails (stop.Fault d) a s tokens total n f so_far = sym so_far ∙ (rw (folded_is a s tokens, n, f) refl)

  pub stops : (a : A) (s : S) (tokens : List Token) (total : Total) → next_is test tokens ≡ false → folded_all test step a s tokens ≡ total → total ≡ Ok (a, s, tokens)
  stops a s tokens total n so_far = sym so_far ∙ (rw (folded_is a s tokens, n) refl)

  -- ---- the laws

  same_head : (s t : S) (a b : A) (used tokens rest : List Token) → tokens ≡ used ++ rest → (step a).means s used b t → next_is test used ≡ next_is test tokens
  same_head s t a b [] tokens rest e m = absurd (solid a s t b m)
  same_head s t a b (u ∷ used) tokens rest e m = ap (next_is test) (sym e)

  folded_found : (n : ℕ) (a : A) (s : S) (tokens : List Token) (x : A × S × List Token) → folded_read test step n a s tokens ≡ Ok x → Found (folded test step a) s tokens x
  unfolding folded_read
  folded_found zero a s tokens x e = absurd cc
  folded_found (suc n) a s tokens x e = by (next_is test tokens) refl e (folded_found n)
    where
      by : (c : Bool) → next_is test tokens ≡ c → stepped test step c (folded_read test step n) a s tokens ≡ Ok x
          → ((b : A) (t : S) (us : List Token) (y : A × S × List Token) → folded_read test step n b t us ≡ Ok y → Found (folded test step b) t us y) → Found (folded test step a) s tokens x
      by false is e more = subst (Found (folded test step a) s tokens) (from_ok (a, s, tokens) x e) (record { used = []; parts = refl; meant = (0, (refl, refl, refl)) })
      by true is e more =
          let r = after_ok ((step a).read s tokens) (λ y. folded_read test step n y.0 y.1 y.2) x e in
          let f = (gs a).found s tokens r.0 r.1 in
          let b = more r.0.0 r.0.1 r.0.2 x r.2 in
          record {
            used = f.used ++ b.used;
            parts = f.parts ∙ ap (λ (l : List Token). f.used ++ l) b.parts ∙ sym (append_assoc f.used b.used x.2);
            meant = (suc b.meant.0, record { front = f.used; back = b.used; value = r.0.0; between = r.0.1; parts = refl; begins = same_head s r.0.1 a r.0.0 f.used tokens r.0.2 f.parts f.meant ∙ is; first = f.meant; others = b.meant.1 });
          }

  begun : (s t : S) (a b : A) (front back : List Token) → (step a).means s front b t → next_is test front ≡ true → next_is test (front ++ back) ≡ true
  begun s t a b [] back m n = absurd (solid a s t b m)
  begun s t a b (u ∷ front) back m n = n

  folded_only : (n : ℕ) (a b : A) (s t : S) (used rest : List Token) → AreSteps test step n s used a b t → Avoids test rest → folded_all test step a s (used ++ rest) ≡ Ok (b, t, rest)
  folded_only zero a b s t used rest m out = rw (m.0, m.1, m.2) (folded_is a s rest ∙ (rw out refl))
  folded_only (suc n) a b s t used rest m out =
      let opens : next_is test (m.front ++ (m.back ++ rest)) ≡ true = begun s m.between a m.value m.front (m.back ++ rest) m.first m.begins in
      let one : (step a).read s (m.front ++ (m.back ++ rest)) ≡ Ok (m.value, m.between, m.back ++ rest) = (gs a).only s m.between m.front (m.back ++ rest) m.value m.first (avoids_none (m.back ++ rest)) in
      rw (m.parts, append_assoc) (folded_is a s (m.front ++ (m.back ++ rest)) ∙ (rw (opens, one) (folded_only n m.value b m.between t m.back rest m.others out)))

  shut : (a : A) (s : S) (tokens : List Token) (x : A × S × List Token) → folded_all test step a s tokens ≡ Ok x → folded_read test step (suc (length tokens)) a s tokens ≡ Ok x
  unfolding folded_all
  shut a s tokens x e = e

  pub folded_good : (a : A) → Good test (folded test step a)
  folded_good a = record {
    found = λ s tokens x e. folded_found (suc (length tokens)) a s tokens x (shut a s tokens x e);
    only = λ s t used rest b m out. folded_only m.0 a b s t used rest m.1 out;
  }

-- a rule that may go on, and nothing behind it
pub last_good : {S A B : Type 0} (av : Token → Bool) (p : Rule S A) (f : A → B) → Good av p → Good av (p >>= λ a. done (f a))
last_good av p f gp = follow_good av av p (λ a. done (f a)) gp (λ a. done_good av (f a)) (λ a s t used rest b m out. subst (λ l. Avoids av (l ++ rest)) (sym m.0) out)
