-- The laws of items that go on as long as the next token passes a test.
use Rattle.std.proofs.Common.{◌≡◌, ℕ, suc, zero, ◌<◌, Bool, true, false, ◌||◌, List, [], ◌∷◌, ◌++◌, length, Option, Some, None, Result, Ok, Err, inl, inr, refl, sym, ap, subst, ◌∙◌, append_assoc, arith}
use Rattle.std.proofs.lemmas.List.{length-append}
use Rattle.no_lex.specs.declared.token.Token.{Token}
use Rattle.no_read_rules.specs.declared.fault.Stopped.{Stopped}
use Rattle.no_read_rules.specs.Rules.{Rule, after, done, ◌>>=◌, next_is, Found, Avoids, IsSolid}
use Rattle.no_read_rules.specs.Repeated.{with_item, next_item, IsRepeated, repeat_read, repeat_all, repeat}
use Rattle.no_read_rules.proofs.Laws.{from_ok, after_ok, first_solid}
use Rattle.no_read_attributes.specs.Ending.{Ends, more_where, items_where, list_goes_on}
use Rattle.no_read_attributes.proofs.EndLaws.{ends_either, ends_map}

-- with which token one more item, or none, would go on
abbrev step_goes_on : {A : Type 0} → (Token → Bool) → (A → Token → Bool) → Option A → Token → Bool
step_goes_on test g None t = test t
step_goes_on test g (Some a) t = g a t

or_false : (b c : Bool) → b ≡ false → c ≡ false → (b || c) ≡ false
or_false b c x y = rw (x, y) refl

left_false : (b c : Bool) → (b || c) ≡ false → b ≡ false
left_false true c x = x
left_false false c x = refl

right_false : (b c : Bool) → (b || c) ≡ false → c ≡ false
right_false true c x = absurd cc
right_false false c x = x

module _ {S A : Type 0} (test : Token → Bool) (g : A → Token → Bool) (item : Rule S A) (gi : Ends g item) (solid : IsSolid item) (apart : (a : A) (t : Token) → test t ≡ true → g a t ≡ false) where
  abbrev step : Rule S (Option A)
  step = more_where test item

  some_solid : IsSolid (item >>= λ a. done (Some a))
  some_solid = first_solid item (λ a. done (Some a)) solid

  step_ends : Ends (step_goes_on test g) step
  step_ends = ends_either (step_goes_on test g) (item >>= λ a. done (Some a)) None (ends_map g (step_goes_on test g) item (λ a. Some a) gi (λ a t. refl)) some_solid

  -- what a step that gives an item means
  item_means : (s t : S) (used : List Token) (a : A) → step.means s used (Some a) t → (used ≡ []) → ⊥
  item_means s t [] a (inl m) e = some_solid s t (Some a) m.1
  item_means s t (u ∷ us) a (inl m) e = absurd cc
  item_means s t used a (inr m) e = absurd (other a m.1.1)
    where
      other : (a : A) → Some a ≡ None → ⊥
      other a e = cc

  none_means : (s t : S) (used : List Token) → step.means s used None t → used ≡ []
  none_means s t used (inr m) = m.1.0
  none_means s t used (inl m) = absurd (other m.1.first m.1.in_back.1)
    where
      other : (a : A) → None ≡ Some a → ⊥
      other a e = cc

  begins_item : (s t : S) (used : List Token) (a : A) → step.means s used (Some a) t → next_is test used ≡ true
  begins_item s t used a (inl m) = m.0
  begins_item s t used a (inr m) = absurd (other a m.1.1)
    where
      other : (a : A) → Some a ≡ None → ⊥
      other a e = cc

  pub takes : (s t : S) (tokens rest : List Token) (a : A) → step.read s tokens ≡ Ok (Some a, t, rest) → length rest < length tokens
  takes s t tokens rest a e = let f = step_ends.found s tokens (Some a, t, rest) e in go f.used f.parts f.meant
    where
      go : (used : List Token) → tokens ≡ used ++ rest → step.means s used (Some a) t → length rest < length tokens
      go [] parts m = absurd (item_means s t [] a m refl)
      go (u ∷ used) parts m = omega (arith, ap length parts, length-append used rest)

  abbrev More : Type 0
  More = S → List Token → Result (List A × S × List Token) Stopped

  abbrev Agree : List Token → More → More → Type 0
  Agree ts f h = (s : S) (us : List Token) → length us < length ts → f s us ≡ h s us

  by_step : (s : S) (ts : List Token) (f h : More) (r : Result (Option A × S × List Token) Stopped) → step.read s ts ≡ r → Agree ts f h → after r (next_item f) ≡ after r (next_item h)
  by_step s ts f h (Err d) e same = refl
  by_step s ts f h (Ok x) e same = one x.0 x.1 x.2 e
    where
      one : (o : Option A) (t : S) (us : List Token) → step.read s ts ≡ Ok (o, t, us) → next_item f (o, t, us) ≡ next_item h (o, t, us)
      one None t us e = refl
      one (Some a) t us e = ap (λ (r : Result (List A × S × List Token) Stopped). after r (with_item a)) (same t us (takes s t ts us a e))

  fuel : (n m : ℕ) (s : S) (tokens : List Token) → length tokens < n → length tokens < m → repeat_read step n s tokens ≡ repeat_read step m s tokens
  unfolding repeat_read
  fuel zero m s tokens h k = absurd (omega arith)
  fuel (suc n) zero s tokens h k = absurd (omega arith)
  fuel (suc n) (suc m) s tokens h k = by_step s tokens (repeat_read step n) (repeat_read step m) (step.read s tokens) refl (λ t us lt. fuel n m t us (omega arith) (omega arith))

  pub many_is : (s : S) (tokens : List Token) → repeat_all step s tokens ≡ after (step.read s tokens) (next_item (repeat_all step))
  unfolding repeat_read repeat_all
  many_is s tokens = by_step s tokens (repeat_read step (length tokens)) (repeat_all step) (step.read s tokens) refl (λ t us lt. fuel (length tokens) (suc (length us)) t us lt (omega arith))

  -- ---- the laws

  behind_item : (items : List A) (s t : S) (us used rest : List Token) (a : A) → us ≡ used ++ rest → IsRepeated step s used items t → Avoids (g a) us → Avoids (list_goes_on test g items) rest → Avoids (list_goes_on test g (a ∷ items)) rest
  behind_item (b ∷ items) s t us used rest a parts m out more = more
  behind_item [] s t us used rest a parts m out more = either rest (subst (λ (l : List Token). Avoids (g a) l) (parts ∙ ap (λ (l : List Token). l ++ rest) (none_means s t used m)) out) more
    where
      either : (rest : List Token) → Avoids (g a) rest → Avoids test rest → Avoids (λ t. test t || g a t) rest
      either [] x y = refl
      either (r ∷ rest) x y = or_false (test r) (g a r) y x

  many_found : (n : ℕ) (s : S) (tokens : List Token) (x : List A × S × List Token) → repeat_read step n s tokens ≡ Ok x → Found (repeat step) s tokens x × Avoids (list_goes_on test g x.0) x.2
  unfolding repeat_read
  many_found zero s tokens x e = absurd cc
  many_found (suc n) s tokens x e = let r = after_ok (step.read s tokens) (next_item (repeat_read step n)) x e in one r.0.0 r.0.1 r.0.2 r.1 r.2 (many_found n)
    where
      one : (o : Option A) (t : S) (us : List Token) → step.read s tokens ≡ Ok (o, t, us) → next_item (repeat_read step n) (o, t, us) ≡ Ok x
          → ((s : S) (tokens : List Token) (x : List A × S × List Token) → repeat_read step n s tokens ≡ Ok x → Found (repeat step) s tokens x × Avoids (list_goes_on test g x.0) x.2) → Found (repeat step) s tokens x × Avoids (list_goes_on test g x.0) x.2
      one None t us read e more =
          let f = step_ends.found s tokens (None, t, us) read in
          subst (λ (y : List A × S × List Token). Found (repeat step) s tokens y × Avoids (list_goes_on test g y.0) y.2) (from_ok ([], t, us) x e)
          (record { used = f.used; parts = f.parts; meant = f.meant }, step_ends.stops s tokens (None, t, us) read)
      one (Some a) t us read e more =
          let f = step_ends.found s tokens (Some a, t, us) read in
          let r = after_ok (repeat_read step n t us) (with_item a) x e in
          let k = more t us r.0 r.1 in
          let b = k.0 in
          subst (λ (y : List A × S × List Token). Found (repeat step) s tokens y × Avoids (list_goes_on test g y.0) y.2) (from_ok (a ∷ r.0.0, r.0.1, r.0.2) x r.2) (
            record {
              used = f.used ++ b.used;
              parts = f.parts ∙ ap (λ (l : List Token). f.used ++ l) b.parts ∙ sym (append_assoc f.used b.used r.0.2);
              meant = record { front = f.used; back = b.used; between = t; parts = refl; item = f.meant; others = b.meant };
            },
            behind_item r.0.0 t r.0.1 us b.used r.0.2 a b.parts b.meant (step_ends.stops s tokens (Some a, t, us) read) k.1,
          )

  out_of_item : (items : List A) (s t : S) (a : A) (back rest : List Token) → IsRepeated step s back items t → Avoids (list_goes_on test g (a ∷ items)) rest → Avoids (g a) (back ++ rest)
  out_of_item [] s t a back rest m out = subst (λ (l : List Token). Avoids (g a) (l ++ rest)) (sym (none_means s t back m)) (last rest out)
    where
      last : (rest : List Token) → Avoids (λ t. test t || g a t) rest → Avoids (g a) rest
      last [] x = refl
      last (r ∷ rest) x = right_false (test r) (g a r) x
  out_of_item (b ∷ items) s t a back rest m out = subst (λ (l : List Token). Avoids (g a) (l ++ rest)) (sym m.parts) (go m.front (item_means s m.between m.front b m.item) (begins_item s m.between m.front b m.item))
    where
      go : (front : List Token) → (front ≡ [] → ⊥) → next_is test front ≡ true → Avoids (g a) ((front ++ m.back) ++ rest)
      go [] not_empty is = absurd (not_empty refl)
      go (f ∷ front) not_empty is = apart a f is

  out_of_list : (items : List A) (a : A) (rest : List Token) → Avoids (list_goes_on test g (a ∷ items)) rest → Avoids (list_goes_on test g items) rest
  out_of_list [] a rest out = first rest out
    where
      first : (rest : List Token) → Avoids (λ t. test t || g a t) rest → Avoids test rest
      first [] x = refl
      first (r ∷ rest) x = left_false (test r) (g a r) x
  out_of_list (b ∷ items) a rest out = out

  many_only : (s t : S) (items : List A) (used rest : List Token) → IsRepeated step s used items t → Avoids (list_goes_on test g items) rest → repeat_all step s (used ++ rest) ≡ Ok (items, t, rest)
  many_only s t [] used rest m out = many_is s (used ++ rest) ∙ (rw (step_ends.only s t used rest None m out) refl)
  many_only s t (a ∷ items) used rest m out =
      let more : repeat_all step m.between (m.back ++ rest) ≡ Ok (items, t, rest) = many_only m.between t items m.back rest m.others (out_of_list items a rest out) in
      let first : step.read s (m.front ++ (m.back ++ rest)) ≡ Ok (Some a, m.between, m.back ++ rest) =
      step_ends.only s m.between m.front (m.back ++ rest) (Some a) m.item (out_of_item items m.between t a m.back rest m.others out) in
      rw (m.parts, append_assoc, many_is s (m.front ++ (m.back ++ rest)), first, more) refl

  pub many_ends : Ends (list_goes_on test g) (items_where test item)
  unfolding repeat_all
  many_ends = record {
    found = λ s tokens x e. (many_found (suc (length tokens)) s tokens x e).0;
    stops = λ s tokens x e. (many_found (suc (length tokens)) s tokens x e).1;
    only = λ s t used rest items m out. many_only s t items used rest m out;
  }
