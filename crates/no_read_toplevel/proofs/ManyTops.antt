-- The laws of items one after the other, where no item begins with what another goes on with.
use Rattle.std.proofs.Common.{◌≡◌, ℕ, suc, zero, ◌<◌, Bool, true, false, ◌||◌, List, [], ◌∷◌, ◌++◌, length, Option, Some, None, Result, Ok, Err, inl, inr, refl, sym, ap, subst, ◌∙◌, append_assoc, append-nil, arith}
use Rattle.std.proofs.lemmas.List.{length-append}
use Rattle.no_lex.specs.declared.token.Token.{Token}
use Rattle.no_read_rules.specs.declared.fault.Stopped.{Stopped}
use Rattle.no_read_rules.specs.declared.fault.Stop.{Stop}
use Rattle.no_read_rules.specs.declared.fault.Stop.TheVariants as stop
use Rattle.no_read_rules.specs.Rules.{Rule, after, next_is, Fails, Found, Avoids, Good, IsSolid}
use Rattle.no_read_rules.specs.Repeated.{with_item, next_item, IsRepeated, repeat_read, repeat_all, repeat, with_front}
use Rattle.no_read_rules.proofs.Laws.{from_ok, after_ok}
use Rattle.no_read_attributes.specs.Ending.{more_where, items_where}

either_false : (b c : Bool) → b ≡ false → c ≡ false → (b || c) ≡ false
either_false b c x y = rw (x, y) refl

left_false : (b c : Bool) → (b || c) ≡ false → b ≡ false
left_false true c x = absurd cc
left_false false c x = refl

right_false : (b c : Bool) → (b || c) ≡ false → c ≡ false
right_false true c x = absurd cc
right_false false c x = x

module _ {S A : Type 0} (test av : Token → Bool) (item : Rule S A) (good : Good av item) (solid : IsSolid item) (apart : (t : Token) → test t ≡ true → av t ≡ false) where
  abbrev step : Rule S (Option A)
  step = more_where test item

  abbrev Total : Type 0
  Total = Result (List A × S × List Token) Stopped

  abbrev More : Type 0
  More = S → List Token → Total

  -- with which tokens the list would go on
  abbrev pub list_avoids : Token → Bool
  list_avoids t = test t || av t

  -- ---- one step

  none_some : (a : A) → None ≡ Some a → ⊥
  none_some a e = cc

  some_item : A × S × List Token → Result (Option A × S × List Token) Stopped
  some_item x = Ok (Some x.0, x.1, x.2)

  chosen : Bool → Result (A × S × List Token) Stopped → S → List Token → Result (Option A × S × List Token) Stopped
  chosen true r s tokens = after r some_item
  chosen false r s tokens = Ok (None, s, tokens)

  step_is : (s : S) (tokens : List Token) → step.read s tokens ≡ chosen (next_is test tokens) (item.read s tokens) s tokens
  unfolding some_item chosen
  step_is s tokens = go (next_is test tokens) refl
    where
      go : (b : Bool) → next_is test tokens ≡ b → step.read s tokens ≡ chosen (next_is test tokens) (item.read s tokens) s tokens
      go true n = rw n refl
      go false n = rw n refl

  -- a step that gives an item began with one
  is_item : (s t : S) (tokens rest : List Token) (a : A) → step.read s tokens ≡ Ok (Some a, t, rest) → (next_is test tokens ≡ true) × (item.read s tokens ≡ Ok (a, t, rest))
  unfolding some_item chosen
  is_item s t tokens rest a e = go (next_is test tokens) (item.read s tokens) refl refl (sym (step_is s tokens) ∙ e)
    where
      go : (b : Bool) (r : Result (A × S × List Token) Stopped) → next_is test tokens ≡ b → item.read s tokens ≡ r → chosen b r s tokens ≡ Ok (Some a, t, rest) → (next_is test tokens ≡ true) × (item.read s tokens ≡ Ok (a, t, rest))
      go true (Ok x) n i f = (n, i ∙ ap (λ (y : Option A × S × List Token). item_in y x) (from_ok (Some x.0, x.1, x.2) (Some a, t, rest) f))
        where
          item_in : Option A × S × List Token → A × S × List Token → Result (A × S × List Token) Stopped
          item_in y x = by y.0
            where
              by : Option A → Result (A × S × List Token) Stopped
              by (Some b) = Ok (b, y.1, y.2)
              by None = Ok x
      go true (Err d) n i f = absurd cc
      go false r n i f = absurd (none_some a (ap (λ (y : Option A × S × List Token). y.0) (from_ok (None, s, tokens) (Some a, t, rest) f)))

  -- and one that gives nothing did not
  is_nothing : (s t : S) (tokens rest : List Token) → step.read s tokens ≡ Ok (None, t, rest) → (next_is test tokens ≡ false) × (s ≡ t) × (tokens ≡ rest)
  unfolding some_item chosen
  is_nothing s t tokens rest e = go (next_is test tokens) (item.read s tokens) refl (sym (step_is s tokens) ∙ e)
    where
      go : (b : Bool) (r : Result (A × S × List Token) Stopped) → next_is test tokens ≡ b → chosen b r s tokens ≡ Ok (None, t, rest) → (next_is test tokens ≡ false) × (s ≡ t) × (tokens ≡ rest)
      go true (Ok x) n f = absurd (none_some x.0 (sym (ap (λ (y : Option A × S × List Token). y.0) (from_ok (Some x.0, x.1, x.2) (None, t, rest) f))))
      go true (Err d) n f = absurd cc
      go false r n f = let same = from_ok (None, s, tokens) (None, t, rest) f in (n, ap (λ (y : Option A × S × List Token). y.1) same, ap (λ (y : Option A × S × List Token). y.2) same)

  reads_item : (s t : S) (tokens rest : List Token) (a : A) → next_is test tokens ≡ true → item.read s tokens ≡ Ok (a, t, rest) → step.read s tokens ≡ Ok (Some a, t, rest)
  unfolding some_item chosen
  reads_item s t tokens rest a n i = step_is s tokens ∙ (rw (n, i) refl)

  reads_nothing : (s : S) (tokens : List Token) → next_is test tokens ≡ false → step.read s tokens ≡ Ok (None, s, tokens)
  unfolding some_item chosen
  reads_nothing s tokens n = step_is s tokens ∙ (rw n refl)

  -- what an item means begins with its first token
  same_head : (s t : S) (a : A) (used tokens rest : List Token) → tokens ≡ used ++ rest → item.means s used a t → next_is test used ≡ next_is test tokens
  same_head s t a [] tokens rest e m = absurd (solid s t a m)
  same_head s t a (u ∷ used) tokens rest e m = ap (next_is test) (sym e)

  takes : (s t : S) (tokens rest : List Token) (a : A) → step.read s tokens ≡ Ok (Some a, t, rest) → length rest < length tokens
  takes s t tokens rest a e = let i = is_item s t tokens rest a e in let f = good.found s tokens (a, t, rest) i.1 in go f.used f.parts f.meant
    where
      go : (used : List Token) → tokens ≡ used ++ rest → item.means s used a t → length rest < length tokens
      go [] parts m = absurd (solid s t a m)
      go (u ∷ used) parts m = omega (arith, ap length parts, length-append used rest)

  -- ---- the list, unrolled once

  by_step : (s : S) (ts : List Token) (f h : More) (r : Result (Option A × S × List Token) Stopped) → step.read s ts ≡ r → ((t : S) (us : List Token) → length us < length ts → f t us ≡ h t us) → after r (next_item f) ≡ after r (next_item h)
  by_step s ts f h (Err d) e same = refl
  by_step s ts f h (Ok x) e same = one x.0 x.1 x.2 e
    where
      one : (o : Option A) (t : S) (us : List Token) → step.read s ts ≡ Ok (o, t, us) → next_item f (o, t, us) ≡ next_item h (o, t, us)
      one None t us e = refl
      one (Some a) t us e = ap (λ (r : Total). after r (with_item a)) (same t us (takes s t ts us a e))

  fuel : (n m : ℕ) (s : S) (tokens : List Token) → length tokens < n → length tokens < m → repeat_read step n s tokens ≡ repeat_read step m s tokens
  unfolding repeat_read
  fuel zero m s tokens h k = absurd (omega arith)
  fuel (suc n) zero s tokens h k = absurd (omega arith)
  fuel (suc n) (suc m) s tokens h k = by_step s tokens (repeat_read step n) (repeat_read step m) (step.read s tokens) refl (λ t us lt. fuel n m t us (omega arith) (omega arith))

  list_is : (s : S) (tokens : List Token) → repeat_all step s tokens ≡ after (step.read s tokens) (next_item (repeat_all step))
  unfolding repeat_read repeat_all
  list_is s tokens = by_step s tokens (repeat_read step (length tokens)) (repeat_all step) (step.read s tokens) refl (λ t us lt. fuel (length tokens) (suc (length us)) t us lt (omega arith))

  -- ---- the laws

  one_item : (s t : S) (a : A) (used : List Token) → next_is test used ≡ true → item.means s used a t → step.means s used (Some a) t
  one_item s t a used n m = inl (n, record { front = used; back = []; first = a; between = t; parts = sym (append-nil used); in_front = m; in_back = (refl, refl, refl) })

  list_found : (n : ℕ) (s : S) (tokens : List Token) (x : List A × S × List Token) → repeat_read step n s tokens ≡ Ok x → Found (repeat step) s tokens x
  unfolding repeat_read
  list_found zero s tokens x e = absurd cc
  list_found (suc n) s tokens x e = let r = after_ok (step.read s tokens) (next_item (repeat_read step n)) x e in one r.0.0 r.0.1 r.0.2 r.1 r.2 (list_found n)
    where
      one : (o : Option A) (t : S) (us : List Token) → step.read s tokens ≡ Ok (o, t, us) → next_item (repeat_read step n) (o, t, us) ≡ Ok x
          → ((s : S) (tokens : List Token) (x : List A × S × List Token) → repeat_read step n s tokens ≡ Ok x → Found (repeat step) s tokens x) → Found (repeat step) s tokens x
      one None t us read e more =
          let i = is_nothing s t tokens us read in
          subst (λ (y : List A × S × List Token). Found (repeat step) s tokens y) (from_ok ([], t, us) x e) (record { used = []; parts = i.2; meant = inr (refl, (refl, refl, sym i.1)) })
      one (Some a) t us read e more =
          let i = is_item s t tokens us a read in
          let f = good.found s tokens (a, t, us) i.1 in
          let r = after_ok (repeat_read step n t us) (with_item a) x e in
          let b = more t us r.0 r.1 in
          subst (λ (y : List A × S × List Token). Found (repeat step) s tokens y) (from_ok (a ∷ r.0.0, r.0.1, r.0.2) x r.2) (record {
            used = f.used ++ b.used;
            parts = f.parts ∙ ap (λ (l : List Token). f.used ++ l) b.parts ∙ sym (append_assoc f.used b.used r.0.2);
            meant = record { front = f.used; back = b.used; between = t; parts = refl; item = one_item s t a f.used (same_head s t a f.used tokens us f.parts f.meant ∙ i.0) f.meant; others = b.meant };
          })

  from_some : (a b : A) → Some a ≡ Some b → a ≡ b
  from_some a b e = cc

  -- what a step means that gives an item, and one that gives nothing
  item_meant : (s t : S) (used : List Token) (a : A) → step.means s used (Some a) t → (next_is test used ≡ true) × item.means s used a t
  item_meant s t used a (inl m) =
      let k = m.1 in
      let at : item.means s k.front k.first t = subst (λ (u : S). item.means s k.front k.first u) (sym k.in_back.2) k.in_front in
      let is : item.means s k.front a t = subst (λ (b : A). item.means s k.front b t) (from_some k.first a (sym k.in_back.1)) at in
      (m.0, subst (λ (l : List Token). item.means s l a t) (sym (k.parts ∙ ap (λ (l : List Token). k.front ++ l) k.in_back.0 ∙ append-nil k.front)) is)
  item_meant s t used a (inr m) = absurd (other a m.1.1)
    where
      other : (a : A) → Some a ≡ None → ⊥
      other a e = cc

  nothing_meant : (s t : S) (used : List Token) → step.means s used None t → (used ≡ []) × (t ≡ s)
  nothing_meant s t used (inr m) = (m.1.0, m.1.2)
  nothing_meant s t used (inl m) = absurd (other m.1.first m.1.in_back.1)
    where
      other : (a : A) → None ≡ Some a → ⊥
      other a e = cc

  begun : (s t : S) (a : A) (front back : List Token) → item.means s front a t → next_is test front ≡ true → next_is test (front ++ back) ≡ true
  begun s t a [] back m n = absurd (solid s t a m)
  begun s t a (u ∷ front) back m n = n

  without_test : (rest : List Token) → Avoids list_avoids rest → Avoids test rest
  without_test [] x = refl
  without_test (r ∷ rest) x = left_false (test r) (av r) x

  without_more : (rest : List Token) → Avoids list_avoids rest → Avoids av rest
  without_more [] x = refl
  without_more (r ∷ rest) x = right_false (test r) (av r) x

  -- what follows an item isn't what it goes on with
  item_avoids : (all : List A) (s t : S) (back rest : List Token) → IsRepeated step s back all t → Avoids list_avoids rest → Avoids av (back ++ rest)
  item_avoids [] s t back rest m out = subst (λ (l : List Token). Avoids av (l ++ rest)) (sym (nothing_meant s t back m).0) (without_more rest out)
  item_avoids (b ∷ all) s t back rest m out =
      let i = item_meant s m.between m.front b m.item in
      subst (λ (l : List Token). Avoids av (l ++ rest)) (sym m.parts) (go m.front i.0 i.1)
    where
      go : (front : List Token) → next_is test front ≡ true → item.means s front b m.between → Avoids av ((front ++ m.back) ++ rest)
      go [] n k = absurd (solid s m.between b k)
      go (f ∷ front) n k = apart f n

  list_only : (s t : S) (all : List A) (used rest : List Token) → IsRepeated step s used all t → Avoids list_avoids rest → repeat_all step s (used ++ rest) ≡ Ok (all, t, rest)
  list_only s t [] used rest m out =
      let k = nothing_meant s t used m in
      rw (k.0, k.1, list_is s rest, reads_nothing s rest (without_test rest out)) refl
  list_only s t (a ∷ all) used rest m out =
      let i = item_meant s m.between m.front a m.item in
      let more : repeat_all step m.between (m.back ++ rest) ≡ Ok (all, t, rest) = list_only m.between t all m.back rest m.others out in
      let first : step.read s (m.front ++ (m.back ++ rest)) ≡ Ok (Some a, m.between, m.back ++ rest) =
      reads_item s m.between (m.front ++ (m.back ++ rest)) (m.back ++ rest) a (begun s m.between a m.front (m.back ++ rest) i.1 i.0)
      (good.only s m.between m.front (m.back ++ rest) a i.1 (item_avoids all m.between t m.back rest m.others out)) in
      rw (m.parts, append_assoc, list_is s (m.front ++ (m.back ++ rest)), first, more) refl

  pub list_good : Good list_avoids (items_where test item)
  unfolding repeat_all
  list_good = record { found = λ s tokens x e. list_found (suc (length tokens)) s tokens x e; only = λ s t used rest all m out. list_only s t all used rest m out }

  -- ---- the steps of a loop

  regroup : (front : List A) (a : A) (r : Total) → with_front front (after r (with_item a)) ≡ with_front (front ++ a ∷ []) r
  regroup front a (Ok x) = rw (append_assoc front (a ∷ []) x.0) refl
  regroup front a (Err d) = refl

  pub list_goes : (front : List A) (s t : S) (tokens aft : List Token) (o : Option A) (a : A) (total : Total) → step.read s tokens ≡ Ok (o, t, aft) → o ≡ Some a
      → with_front front (repeat_all step s tokens) ≡ total → with_front (front ++ a ∷ []) (repeat_all step t aft) ≡ total
  list_goes front s t tokens aft o a total e is so_far =
      let one : with_front front (repeat_all step s tokens) ≡ with_front (front ++ a ∷ []) (repeat_all step t aft) = rw (list_is s tokens, e, is) (regroup front a (repeat_all step t aft)) in
      sym one ∙ so_far

  pub list_fails : (e : Stop) (front : List A) (s : S) (tokens : List Token) (total : Total) → Fails e (step.read s tokens) → with_front front (repeat_all step s tokens) ≡ total → Fails e total
  list_fails stop.NoMemory front s tokens total f so_far = tt
  list_fails (stop.Fault d) front s tokens total f so_far = sym so_far ∙ (rw (list_is s tokens, f) refl)

  pub list_stops : (front : List A) (s t : S) (tokens rest : List Token) (o : Option A) (total : Total) → step.read s tokens ≡ Ok (o, t, rest) → o ≡ None
      → with_front front (repeat_all step s tokens) ≡ total → total ≡ Ok (front, t, rest)
  list_stops front s t tokens rest o total e is so_far = sym so_far ∙ (rw (list_is s tokens, e, is, append-nil front) refl)

  pub list_falls : (s t : S) (tokens rest : List Token) (o : Option A) (a : A) → step.read s tokens ≡ Ok (o, t, rest) → o ≡ Some a → length rest < length tokens
  list_falls s t tokens rest o a e is = takes s t tokens rest a (e ∙ ap (λ (o : Option A). Ok (o, t, rest)) is)

  same : (r : Total) → with_front [] r ≡ r
  same (Ok x) = refl
  same (Err d) = refl

  pub list_begins : (s : S) (tokens : List Token) → with_front [] (repeat_all step s tokens) ≡ repeat_all step s tokens
  list_begins s tokens = same (repeat_all step s tokens)
