-- The laws of lists that repeat a step.
use Rattle.std.proofs.Common.{◌≡◌, ℕ, suc, zero, ◌<◌, Bool, false, List, [], ◌∷◌, ◌++◌, length, Option, Some, None, Result, Ok, Err, refl, sym, ap, subst, ◌∙◌, append_assoc, append-nil, arith}
use Rattle.std.proofs.lemmas.List.{length-append}
use Rattle.no_lex.specs.declared.token.Token.{Token}
use Rattle.no_read_rules.specs.declared.fault.Stopped.{Stopped}
use Rattle.no_read_rules.specs.declared.fault.Stop.{Stop}
use Rattle.no_read_rules.specs.declared.fault.Stop.TheVariants as stop
use Rattle.no_read_rules.specs.Rules.{Rule, after, Fails, Found, Avoids, next_is, Good, IsSolid}
use Rattle.no_read_rules.specs.Repeated.{with_item, next_item, IsRepeated, repeat_read, repeat_all, repeat, with_front}
use Rattle.no_read_rules.proofs.Laws.{from_ok, after_ok}

module _ {S A : Type 0} (av : Token → Bool) (step : Rule S (Option A)) (gs : Good av step) (solid : IsSolid step) where
  pub takes : (s : S) (tokens : List Token) (x : Option A × S × List Token) → step.read s tokens ≡ Ok x → length x.2 < length tokens
  takes s tokens x e = let f = gs.found s tokens x e in go f.used f.parts f.meant
    where
      go : (used : List Token) → tokens ≡ used ++ x.2 → step.means s used x.0 x.1 → length x.2 < length tokens
      go [] parts m = absurd (solid s x.1 x.0 m)
      go (t ∷ used) parts m = omega (arith, ap length parts, length-append used x.2)

  abbrev More : Type 0
  More = S → List Token → Result (List A × S × List Token) Stopped

  abbrev Agree : List Token → More → More → Type 0
  Agree ts f g = (s : S) (us : List Token) → length us < length ts → f s us ≡ g s us

  by_step : (s : S) (ts : List Token) (f g : More) (r : Result (Option A × S × List Token) Stopped) → step.read s ts ≡ r → Agree ts f g → after r (next_item f) ≡ after r (next_item g)
  by_step s ts f g (Err d) e same = refl
  by_step s ts f g (Ok x) e same = item x.0 x.1 x.2 (takes s ts x e)
    where
      item : (o : Option A) (t : S) (us : List Token) → length us < length ts → next_item f (o, t, us) ≡ next_item g (o, t, us)
      item None t us lt = refl
      item (Some a) t us lt = ap (λ (r : Result (List A × S × List Token) Stopped). after r (with_item a)) (same t us lt)

  fuel : (n m : ℕ) (s : S) (tokens : List Token) → length tokens < n → length tokens < m → repeat_read step n s tokens ≡ repeat_read step m s tokens
  unfolding repeat_read
  fuel zero m s tokens h k = absurd (omega arith)
  fuel (suc n) zero s tokens h k = absurd (omega arith)
  fuel (suc n) (suc m) s tokens h k = by_step s tokens (repeat_read step n) (repeat_read step m) (step.read s tokens) refl (λ t us lt. fuel n m t us (omega arith) (omega arith))

  pub repeat_is : (s : S) (tokens : List Token) → repeat_all step s tokens ≡ after (step.read s tokens) (next_item (repeat_all step))
  unfolding repeat_read repeat_all
  repeat_is s tokens = by_step s tokens (repeat_read step (length tokens)) (repeat_all step) (step.read s tokens) refl (λ t us lt. fuel (length tokens) (suc (length us)) t us lt (omega arith))

  -- ---- the steps of a loop

  regroup : (front : List A) (a : A) (r : Result (List A × S × List Token) Stopped) → with_front front (after r (with_item a)) ≡ with_front (front ++ a ∷ []) r
  regroup front a (Ok x) = rw (append_assoc front (a ∷ []) x.0) refl
  regroup front a (Err d) = refl

  pub goes_on : (front : List A) (s t : S) (tokens aft : List Token) (o : Option A) (a : A) (total : Result (List A × S × List Token) Stopped) → step.read s tokens ≡ Ok (o, t, aft) → o ≡ Some a
      → with_front front (repeat_all step s tokens) ≡ total → with_front (front ++ a ∷ []) (repeat_all step t aft) ≡ total
  goes_on front s t tokens aft o a total e is so_far =
      let one : with_front front (repeat_all step s tokens) ≡ with_front (front ++ a ∷ []) (repeat_all step t aft) = rw (repeat_is s tokens, e, is) (regroup front a (repeat_all step t aft)) in
      sym one ∙ so_far

  pub fails : (e : Stop) (front : List A) (s : S) (tokens : List Token) (total : Result (List A × S × List Token) Stopped) → Fails e (step.read s tokens) → with_front front (repeat_all step s tokens) ≡ total → Fails e total
  fails stop.NoMemory front s tokens total f so_far = tt
  fails (stop.Fault d) front s tokens total f so_far = sym so_far ∙ (rw (repeat_is s tokens, f) refl)

  pub stops : (front : List A) (s t : S) (tokens rest : List Token) (o : Option A) (total : Result (List A × S × List Token) Stopped) → step.read s tokens ≡ Ok (o, t, rest) → o ≡ None
      → with_front front (repeat_all step s tokens) ≡ total → total ≡ Ok (front, t, rest)
  stops front s t tokens rest o total e is so_far = sym so_far ∙ (rw (repeat_is s tokens, e, is, append-nil front) refl)

  pub shorter : (s t : S) (tokens rest : List Token) (o : Option A) → step.read s tokens ≡ Ok (o, t, rest) → length rest < length tokens
  shorter s t tokens rest o e = takes s tokens (o, t, rest) e

  same : (r : Result (List A × S × List Token) Stopped) → with_front [] r ≡ r
  same (Ok x) = refl
  same (Err d) = refl

  pub begins : (s : S) (tokens : List Token) → with_front [] (repeat_all step s tokens) ≡ repeat_all step s tokens
  begins s tokens = same (repeat_all step s tokens)

  -- ---- the laws, where no step begins with what a step might go on with
  module _ (apart : (s t : S) (used : List Token) (o : Option A) → step.means s used o t → next_is av used ≡ false) where
    repeat_found : (n : ℕ) (s : S) (tokens : List Token) (x : List A × S × List Token) → repeat_read step n s tokens ≡ Ok x → Found (repeat step) s tokens x
    unfolding repeat_read
    repeat_found zero s tokens x e = absurd cc
    repeat_found (suc n) s tokens x e = let r = after_ok (step.read s tokens) (next_item (repeat_read step n)) x e in item r.0.0 r.0.1 r.0.2 r.1 r.2 (repeat_found n)
      where
        item : (o : Option A) (t : S) (us : List Token) → step.read s tokens ≡ Ok (o, t, us) → next_item (repeat_read step n) (o, t, us) ≡ Ok x
            → ((s : S) (tokens : List Token) (x : List A × S × List Token) → repeat_read step n s tokens ≡ Ok x → Found (repeat step) s tokens x) → Found (repeat step) s tokens x
        item None t us read e more = let f = gs.found s tokens (None, t, us) read in subst (Found (repeat step) s tokens) (from_ok ([], t, us) x e) (record { used = f.used; parts = f.parts; meant = f.meant })
        item (Some a) t us read e more =
            let f = gs.found s tokens (Some a, t, us) read in
            let r = after_ok (repeat_read step n t us) (with_item a) x e in
            let b = more t us r.0 r.1 in
            subst (Found (repeat step) s tokens) (from_ok (a ∷ r.0.0, r.0.1, r.0.2) x r.2) (record {
              used = f.used ++ b.used;
              parts = f.parts ∙ ap (λ (l : List Token). f.used ++ l) b.parts ∙ sym (append_assoc f.used b.used r.0.2);
              meant = record { front = f.used; back = b.used; between = t; parts = refl; item = f.meant; others = b.meant };
            })

    begins_apart : (s t : S) (items : List A) (used rest : List Token) → IsRepeated step s used items t → Avoids av rest → Avoids av (used ++ rest)
    begins_apart s t items [] rest m out = out
    begins_apart s t [] (u ∷ used) rest m out = apart s t (u ∷ used) None m
    begins_apart s t (a ∷ items) (u ∷ used) rest m out = go m.front m.parts m.item
      where
        go : (front : List Token) → u ∷ used ≡ front ++ m.back → step.means s front (Some a) m.between → av u ≡ false
        go [] e i = absurd (solid s m.between (Some a) i)
        go (v ∷ front) e i = ap (next_is av) e ∙ apart s m.between (v ∷ front) (Some a) i

    repeat_only : (s t : S) (items : List A) (used rest : List Token) → IsRepeated step s used items t → Avoids av rest → repeat_all step s (used ++ rest) ≡ Ok (items, t, rest)
    repeat_only s t [] used rest m out = repeat_is s (used ++ rest) ∙ (rw (gs.only s t used rest None m out) refl)
    repeat_only s t (a ∷ items) used rest m out =
        let more : repeat_all step m.between (m.back ++ rest) ≡ Ok (items, t, rest) = repeat_only m.between t items m.back rest m.others out in
        let first : step.read s (m.front ++ (m.back ++ rest)) ≡ Ok (Some a, m.between, m.back ++ rest) = gs.only s m.between m.front (m.back ++ rest) (Some a) m.item (begins_apart m.between t items m.back rest m.others out) in
        rw (m.parts, append_assoc, repeat_is s (m.front ++ (m.back ++ rest)), first, more) refl

    pub repeat_good : Good av (repeat step)
    unfolding repeat_all
    repeat_good = record { found = λ s tokens x e. repeat_found (suc (length tokens)) s tokens x e; only = λ s t used rest items m out. repeat_only s t items used rest m out }
