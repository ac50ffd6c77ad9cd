-- The queue of definitions that wait for a number.
use Rattle.std.proofs.Common.{◌≡◌, ℕ, suc, zero, ◌<◌, ◌≤◌, ◌+◌, Bool, true, false, not, ◌&&◌, ◌||◌, ◌≢◌, ◌⊎◌, inl, inr, nat_eq, List, [], ◌∷◌, ◌++◌, length, get_or, slice_get, take, set, replicate, Option, Some, None, if◌then◌else◌, refl, sym, ap, subst, ◌∙◌, arith, true≢false}
use Rattle.std.specs.List.{list_any, find}
use Rattle.std.proofs.lemmas.Bool.{cases_lt, cases_eq, eq-eqb, eqb-true}
use Rattle.std.proofs.lemmas.Bool.Decides.{eqb_tells}
use Rattle.std.proofs.lemmas.List.{length-set, length-replicate, get_or-set_same, get_or-set_other, get_or-replicate, get_or_past}
use Rattle.std.proofs.lemmas.List.Folds.{list_any-append, list_any_at}
use Rattle.no_read_types.specs.Graph.{references_at, next_from, is_set, AreSame}
use Rattle.no_read_types.specs.Queue.{IsQueued, IsQueue, IsLeast, Adds}
use Rattle.no_read_types.proofs.FlagLaws.{is_set_within}

-- ---- searches

module _ (p : ℕ → Bool) where
  pub find_here : (xs : List ℕ) (n : ℕ) → list_any p (take n xs) ≡ false → n < length xs → p (get_or xs n 0) ≡ true → find p xs ≡ Some (get_or xs n 0)
  find_here [] n none lt here = absurd (omega arith)
  find_here (x ∷ xs) zero none lt here = ap (λ b. if b then Some x else find p xs) here
  find_here (x ∷ xs) (suc n) none lt here = by (p x) none (find_here xs n)
    where
      by : (b : Bool) → (b || list_any p (take n xs)) ≡ false → (list_any p (take n xs) ≡ false → n < length xs → p (get_or xs n 0) ≡ true → find p xs ≡ Some (get_or xs n 0)) → (if b then Some x else find p xs) ≡ Some (get_or xs n 0)
      by true e more = absurd (true≢false e)
      by false e more = more e (omega arith) here

  pub find_nowhere : (xs : List ℕ) (n : ℕ) → list_any p (take n xs) ≡ false → length xs ≤ n → find p xs ≡ None
  find_nowhere [] n none le = refl
  find_nowhere (x ∷ xs) zero none le = absurd (omega arith)
  find_nowhere (x ∷ xs) (suc n) none le = by (p x) none (find_nowhere xs n)
    where
      by : (b : Bool) → (b || list_any p (take n xs)) ≡ false → (list_any p (take n xs) ≡ false → length xs ≤ n → find p xs ≡ None) → (if b then Some x else find p xs) ≡ None
      by true e more = absurd (true≢false e)
      by false e more = more e (omega arith)

  pub none_more : (xs : List ℕ) (n : ℕ) → list_any p (take n xs) ≡ false → n < length xs → p (get_or xs n 0) ≡ false → list_any p (take (n + 1) xs) ≡ false
  none_more [] n none lt here = absurd (omega arith)
  none_more (x ∷ xs) zero none lt here = rw here refl
  none_more (x ∷ xs) (suc n) none lt here = let z : suc n + 1 ≡ suc (n + 1) = omega arith in rw z (by (p x) none (none_more xs n))
    where
      by : (b : Bool) → (b || list_any p (take n xs)) ≡ false → (list_any p (take n xs) ≡ false → n < length xs → p (get_or xs n 0) ≡ false → list_any p (take (n + 1) xs) ≡ false) → (b || list_any p (take (n + 1) xs)) ≡ false
      by true e more = absurd (true≢false e)
      by false e more = more e (omega arith) here

  find_none_any : (xs : List ℕ) → find p xs ≡ None → list_any p xs ≡ false
  find_none_any [] e = refl
  find_none_any (x ∷ xs) e = by (p x) e (find_none_any xs)
    where
      by : (b : Bool) → (if b then Some x else find p xs) ≡ None → (find p xs ≡ None → list_any p xs ≡ false) → (b || list_any p xs) ≡ false
      by true e more = absurd cc
      by false e more = more e

  any_find_none : (xs : List ℕ) → list_any p xs ≡ false → find p xs ≡ None
  any_find_none [] e = refl
  any_find_none (x ∷ xs) e = by (p x) e (any_find_none xs)
    where
      by : (b : Bool) → (b || list_any p xs) ≡ false → (list_any p xs ≡ false → find p xs ≡ None) → (if b then Some x else find p xs) ≡ None
      by true e more = absurd (true≢false e)
      by false e more = more e

  pub find_passes : (xs : List ℕ) (w : ℕ) → find p xs ≡ Some w → p w ≡ true
  find_passes [] w e = absurd cc
  find_passes (x ∷ xs) w e = by (p x) refl e (find_passes xs w)
    where
      by : (b : Bool) → p x ≡ b → (if b then Some x else find p xs) ≡ Some w → (find p xs ≡ Some w → p w ≡ true) → p w ≡ true
      by true is e more = let same : x ≡ w = cc in subst (λ k. p k ≡ true) same is
      by false is e more = more e

-- ---- fewer that wait

module _ (p q : ℕ → Bool) (fewer : (m : ℕ) → q m ≡ true → p m ≡ true) where
  not_more : (m : ℕ) → p m ≡ false → q m ≡ false
  not_more m e = by (q m) refl
    where
      by : (b : Bool) → q m ≡ b → q m ≡ false
      by true t = absurd (true≢false (sym (fewer m t) ∙ e))
      by false t = t

  fewer_any : (xs : List ℕ) → list_any p xs ≡ false → list_any q xs ≡ false
  fewer_any [] e = refl
  fewer_any (x ∷ xs) e = by (p x) refl e (fewer_any xs)
    where
      by : (b : Bool) → p x ≡ b → (b || list_any p xs) ≡ false → (list_any p xs ≡ false → list_any q xs ≡ false) → (q x || list_any q xs) ≡ false
      by true t e more = absurd (true≢false e)
      by false t e more = rw (not_more x t) (more e)

  find_kept : (xs : List ℕ) (w : ℕ) → find p xs ≡ Some w → q w ≡ true → find q xs ≡ Some w
  find_kept [] w e t = absurd cc
  find_kept (x ∷ xs) w e t = by (p x) refl e (find_kept xs w)
    where
      by : (b : Bool) → p x ≡ b → (if b then Some x else find p xs) ≡ Some w → (find p xs ≡ Some w → q w ≡ true → find q xs ≡ Some w) → (if q x then Some x else find q xs) ≡ Some w
      by true is e more = let same : x ≡ w = cc in rw (ap q same ∙ t) e
      by false is e more = rw (not_more x is) (more e t)

-- ---- what comes next

pub next_is : (waits : ℕ → Bool) (k : ℕ) (graph : List (List ℕ)) (n : ℕ) → n < length graph → waits (k + n) ≡ true → list_any waits (references_at graph n) ≡ false
    → ((m : ℕ) → m < n → waits (k + m) ≡ true → list_any waits (references_at graph m) ≡ false → ⊥) → next_from waits k graph ≡ Some (k + n)
next_is waits k [] n lt w none least = absurd (omega arith)
next_is waits k (all ∷ graph) zero lt w none least = let z : k + 0 ≡ k = omega arith in rw (subst (λ j. waits j ≡ true) z w, none) (ap Some (sym z))
next_is waits k (all ∷ graph) (suc n) lt w none least = by (waits k) (list_any waits all) refl refl (next_is waits (suc k) graph n)
  where
    z : (m : ℕ) → k + suc m ≡ suc k + m
    z m = omega arith

    by : (b c : Bool) → waits k ≡ b → list_any waits all ≡ c
        → (n < length graph → waits (suc k + n) ≡ true → list_any waits (references_at graph n) ≡ false → ((m : ℕ) → m < n → waits (suc k + m) ≡ true → list_any waits (references_at graph m) ≡ false → ⊥) → next_from waits (suc k) graph ≡ Some (suc k + n))
        → (if b && not c then Some k else next_from waits (suc k) graph) ≡ Some (k + suc n)
    by true false v a more = let z0 : k + 0 ≡ k = omega arith in absurd (least zero (omega arith) (subst (λ j. waits j ≡ true) (sym z0) v) a)
    by true true v a more = more (omega arith) (subst (λ j. waits j ≡ true) (z n) w) none (λ m lt v a. least (suc m) (omega arith) (subst (λ j. waits j ≡ true) (sym (z m)) v) a) ∙ ap Some (sym (z n))
    by false c v a more = more (omega arith) (subst (λ j. waits j ≡ true) (z n) w) none (λ m lt v a. least (suc m) (omega arith) (subst (λ j. waits j ≡ true) (sym (z m)) v) a) ∙ ap Some (sym (z n))

pub next_is_none : (waits : ℕ → Bool) (k : ℕ) (graph : List (List ℕ)) → ((m : ℕ) → m < length graph → waits (k + m) ≡ true → list_any waits (references_at graph m) ≡ false → ⊥) → next_from waits k graph ≡ None
next_is_none waits k [] least = refl
next_is_none waits k (all ∷ graph) least = by (waits k) (list_any waits all) refl refl (next_is_none waits (suc k) graph (λ m lt v a. let z : k + suc m ≡ suc k + m = omega arith in least (suc m) (omega arith) (subst (λ j. waits j ≡ true) (sym z) v) a))
  where
    by : (b c : Bool) → waits k ≡ b → list_any waits all ≡ c → next_from waits (suc k) graph ≡ None → (if b && not c then Some k else next_from waits (suc k) graph) ≡ None
    by true false v a more = let z0 : k + 0 ≡ k = omega arith in absurd (least zero (omega arith) (subst (λ j. waits j ≡ true) (sym z0) v) a)
    by true true v a more = more
    by false c v a more = more

-- ---- the queue

slice_past : {A : Type 0} (xs : List A) (i : ℕ) → length xs ≤ i → slice_get xs i ≡ None
slice_past [] i le = refl
slice_past (x ∷ xs) zero le = absurd (omega arith)
slice_past (x ∷ xs) (suc i) le = slice_past xs i (omega arith)

at_set_same : (lists : List (List ℕ)) (w : ℕ) (xs : List ℕ) → w < length lists → references_at (set lists w xs) w ≡ xs
at_set_same [] w xs lt = absurd (omega arith)
at_set_same (l ∷ lists) zero xs lt = refl
at_set_same (l ∷ lists) (suc w) xs lt = at_set_same lists w xs (omega arith)

at_set_other : (lists : List (List ℕ)) (w v : ℕ) (xs : List ℕ) → (v ≡ w → ⊥) → references_at (set lists w xs) v ≡ references_at lists v
at_set_other [] w v xs differs = refl
at_set_other (l ∷ lists) zero zero xs differs = absurd (differs refl)
at_set_other (l ∷ lists) zero (suc v) xs differs = refl
at_set_other (l ∷ lists) (suc w) zero xs differs = refl
at_set_other (l ∷ lists) (suc w) (suc v) xs differs = at_set_other lists w v xs (λ e. differs (ap suc e))

or_left : (b c : Bool) → b ≡ true → (b || c) ≡ true
or_left b c e = rw e refl

or_right : (b c : Bool) → c ≡ true → (b || c) ≡ true
or_right true c e = refl
or_right false c e = e

split_or : (b c : Bool) → (b || c) ≡ true → (b ≡ true) ⊎ (c ≡ true)
split_or true c e = inl refl
split_or false c e = inr e

module _ (graph : List (List ℕ)) (waits : List Bool) (long : length waits ≡ length graph) where
  module _ (ready : ℕ → Bool) (watchers : List (List ℕ)) (places : List ℕ) where
    free_is_ready : IsQueue graph waits ready watchers places [] → (m : ℕ) → is_set waits m ≡ true → list_any (is_set waits) (references_at graph m) ≡ false → ready m ≡ true
    free_is_ready is m w none = by (is.queued m w)
      where
        by : (list_any (nat_eq m) [] ≡ true) ⊎ IsQueued ready watchers m (find (is_set waits) (references_at graph m)) → ready m ≡ true
        by (inl e) = absurd (true≢false (sym e))
        by (inr q) = subst (λ o. IsQueued ready watchers m o) (any_find_none (is_set waits) (references_at graph m) none) q

    -- the least that is ready comes next
    pub least_is_next : (rest : ℕ → Bool) (n : ℕ) → IsQueue graph waits ready watchers places [] → IsLeast ready rest n → next_from (is_set waits) 0 graph ≡ Some n
    least_is_next rest n is least =
        let s = is.sound n least.member in
        let lt = is_set_within waits n s.0 in
        let z : (m : ℕ) → 0 + m ≡ m = λ m. omega arith in
        next_is (is_set waits) 0 graph n (omega arith) (subst (λ j. is_set waits j ≡ true) (sym (z n)) s.0) (find_none_any (is_set waits) (references_at graph n) s.1)
        (λ m lt w none. before m lt (least.least m (free_is_ready is m (subst (λ j. is_set waits j ≡ true) (z m) w) none))) ∙ ap Some (z n)
      where
        before : (m : ℕ) → m < n → n ≤ m → ⊥
        before m lt le = absurd (omega arith)

    pub none_is_next : IsQueue graph waits ready watchers places [] → ((m : ℕ) → ready m ≡ false) → next_from (is_set waits) 0 graph ≡ None
    none_is_next is none = next_is_none (is_set waits) 0 graph (λ m lt w free. let z : 0 + m ≡ m = omega arith in true≢false (sym (free_is_ready is m (subst (λ j. is_set waits j ≡ true) z w) free) ∙ none m))

    -- once the least has its number, those that watched it are left
    pub numbered_queue : (rest : ℕ → Bool) (n : ℕ) → IsQueue graph waits ready watchers places [] → IsLeast ready rest n → IsQueue graph (set waits n false) rest (set watchers n []) places (references_at watchers n)
    numbered_queue rest n is least = record {
      long = length-set watchers n [] ∙ is.long;
      as_long = is.as_long;
      clear = λ m. fewer_any (is_set waits) (is_set (set waits n false)) fewer (take (get_or places m 0) (references_at graph m)) (is.clear m);
      sound = λ m r. sound m (split (ready m) (nat_eq m n) (sym (least.rest m) ∙ r));
      queued = λ m w. queued m w (still m w) (find (is_set waits) (references_at graph m)) refl;
    }
      where
        fewer : (m : ℕ) → is_set (set waits n false) m ≡ true → is_set waits m ≡ true
        fewer m e = by (cases_eq m n)
          where
            by : (m ≡ n) ⊎ (m ≡ n → ⊥) → is_set waits m ≡ true
            by (inl is) = absurd (true≢false (sym (subst (λ k. is_set (set waits k false) m ≡ true) (sym is) e) ∙ gone))
              where
                gone : is_set (set waits m false) m ≡ false
                gone = by_within (cases_lt m (length waits))
                  where
                    by_within : (m < length waits) ⊎ (length waits ≤ m) → is_set (set waits m false) m ≡ false
                    by_within (inl lt) = get_or-set_same waits m false false lt
                    by_within (inr ge) = let l = length-set waits m false in get_or_past (set waits m false) m false (omega arith)
            by (inr differs) = sym (get_or-set_other waits n m false false differs) ∙ e

        not_n : (m : ℕ) → is_set (set waits n false) m ≡ true → m ≡ n → ⊥
        not_n m e is = true≢false (sym (subst (λ k. is_set (set waits n false) k ≡ true) is e) ∙ get_or-set_same waits n false false (is_set_within waits n (let s = is_sound in s)))
          where
            is_sound : is_set waits n ≡ true
            is_sound = subst (λ k. is_set waits k ≡ true) is (fewer m e)

        still : (m : ℕ) → is_set (set waits n false) m ≡ true → is_set waits m ≡ true
        still = fewer

        split : (b c : Bool) → (b && not c) ≡ true → (b ≡ true) × (c ≡ false)
        split true true e = absurd (true≢false (sym e))
        split true false e = (refl, refl)
        split false c e = absurd (true≢false (sym e))

        kept_waits : (m : ℕ) → nat_eq m n ≡ false → is_set waits m ≡ true → is_set (set waits n false) m ≡ true
        kept_waits m e w = get_or-set_other waits n m false false (differs (eqb_tells m n)) ∙ w
          where
            differs : ((nat_eq m n ≡ true) × (m ≡ n)) ⊎ ((nat_eq m n ≡ false) × (m ≢ n)) → m ≡ n → ⊥
            differs (inl t) = absurd (true≢false (sym t.0 ∙ e))
            differs (inr t) = t.1

        sound : (m : ℕ) → (ready m ≡ true) × (nat_eq m n ≡ false) → (is_set (set waits n false) m ≡ true) × (find (is_set (set waits n false)) (references_at graph m) ≡ None)
        sound m r = let s = is.sound m r.0 in (kept_waits m r.1 s.0, any_find_none (is_set (set waits n false)) (references_at graph m) (fewer_any (is_set waits) (is_set (set waits n false)) fewer (references_at graph m) (find_none_any (is_set waits) (references_at graph m) s.1)))

        Goal : ℕ → Type 0
        Goal m = (list_any (nat_eq m) (references_at watchers n) ≡ true) ⊎ IsQueued rest (set watchers n []) m (find (is_set (set waits n false)) (references_at graph m))

        was : (m : ℕ) → is_set waits m ≡ true → (o : Option ℕ) → find (is_set waits) (references_at graph m) ≡ o → IsQueued ready watchers m o
        was m w o e = by (is.queued m w)
          where
            by : (list_any (nat_eq m) [] ≡ true) ⊎ IsQueued ready watchers m (find (is_set waits) (references_at graph m)) → IsQueued ready watchers m o
            by (inl e) = absurd (true≢false (sym e))
            by (inr q) = subst (λ o. IsQueued ready watchers m o) e q

        queued : (m : ℕ) → is_set (set waits n false) m ≡ true → is_set waits m ≡ true → (o : Option ℕ) → find (is_set waits) (references_at graph m) ≡ o → Goal m
        queued m w v None e =
            let none : find (is_set (set waits n false)) (references_at graph m) ≡ None = any_find_none (is_set (set waits n false)) (references_at graph m) (fewer_any (is_set waits) (is_set (set waits n false)) fewer (references_at graph m) (find_none_any (is_set waits) (references_at graph m) e)) in
            inr (subst (λ o. IsQueued rest (set watchers n []) m o) (sym none) (least.rest m ∙ (rw (was m v None e, other (eqb_tells m n)) refl)))
          where
            other : ((nat_eq m n ≡ true) × (m ≡ n)) ⊎ ((nat_eq m n ≡ false) × (m ≢ n)) → nat_eq m n ≡ false
            other (inl t) = absurd (not_n m w t.1)
            other (inr t) = t.0
        queued m w v (Some u) e = by (cases_eq u n)
          where
            by : (u ≡ n) ⊎ (u ≡ n → ⊥) → Goal m
            by (inl same) = inl (subst (λ k. list_any (nat_eq m) (references_at watchers k) ≡ true) same (was m v (Some u) e))
            by (inr differs) =
                let waits_on : is_set (set waits n false) u ≡ true = get_or-set_other waits n u false false differs ∙ find_passes (is_set waits) (references_at graph m) u e in
                let found : find (is_set (set waits n false)) (references_at graph m) ≡ Some u = find_kept (is_set waits) (is_set (set waits n false)) fewer (references_at graph m) u e waits_on in
                inr (subst (λ o. IsQueued rest (set watchers n []) m o) (sym found) (ap (list_any (nat_eq m)) (at_set_other watchers n u [] differs) ∙ was m v (Some u) e))

    -- ---- one more is queued

    module _ (n : ℕ) (left : List ℕ) (is : IsQueue graph waits ready watchers places (n ∷ left)) where
      pub skipped_queue : is_set waits n ≡ false → IsQueue graph waits ready watchers places left
      skipped_queue absent = record { long = is.long; as_long = is.as_long; clear = is.clear; sound = is.sound; queued = λ m w. by m w (is.queued m w) }
        where
          by : (m : ℕ) → is_set waits m ≡ true → (list_any (nat_eq m) (n ∷ left) ≡ true) ⊎ IsQueued ready watchers m (find (is_set waits) (references_at graph m)) → (list_any (nat_eq m) left ≡ true) ⊎ IsQueued ready watchers m (find (is_set waits) (references_at graph m))
          by m w (inr q) = inr q
          by m w (inl e) = here (split_or (nat_eq m n) (list_any (nat_eq m) left) e)
            where
              here : (nat_eq m n ≡ true) ⊎ (list_any (nat_eq m) left ≡ true) → (list_any (nat_eq m) left ≡ true) ⊎ IsQueued ready watchers m (find (is_set waits) (references_at graph m))
              here (inl t) = absurd (true≢false (sym w ∙ ap (is_set waits) (eqb-true m n t) ∙ absent))
              here (inr t) = inl t

      now_clear : (place : ℕ) → list_any (is_set waits) (take place (references_at graph n)) ≡ false → n < length graph → (m : ℕ) → list_any (is_set waits) (take (get_or (set places n place) m 0) (references_at graph m)) ≡ false
      now_clear place e lt m = by (cases_eq m n)
        where
          by : (m ≡ n) ⊎ (m ≡ n → ⊥) → list_any (is_set waits) (take (get_or (set places n place) m 0) (references_at graph m)) ≡ false
          by (inl same) = subst (λ k. list_any (is_set waits) (take (get_or (set places n place) k 0) (references_at graph k)) ≡ false) (sym same) (ap (λ j. list_any (is_set waits) (take j (references_at graph n))) (get_or-set_same places n place 0 (let l = is.as_long in omega arith)) ∙ e)
          by (inr differs) = ap (λ j. list_any (is_set waits) (take j (references_at graph m))) (get_or-set_other places n m place 0 differs) ∙ is.clear m

      pub ready_queue : (more : ℕ → Bool) (place : ℕ) → Adds ready more n → is_set waits n ≡ true → list_any (is_set waits) (take place (references_at graph n)) ≡ false → find (is_set waits) (references_at graph n) ≡ None
          → IsQueue graph waits more watchers (set places n place) left
      ready_queue more place adds here e none = record {
        long = is.long;
        as_long = length-set places n place ∙ is.as_long;
        clear = now_clear place e (let lt = is_set_within waits n here in omega arith);
        sound = λ m r. sound m (split_or (nat_eq m n) (ready m) (sym (adds m) ∙ r));
        queued = λ m w. by m (is.queued m w);
      }
        where
          sound : (m : ℕ) → (nat_eq m n ≡ true) ⊎ (ready m ≡ true) → (is_set waits m ≡ true) × (find (is_set waits) (references_at graph m) ≡ None)
          sound m (inl t) = subst (λ k. (is_set waits k ≡ true) × (find (is_set waits) (references_at graph k) ≡ None)) (sym (eqb-true m n t)) (here, none)
          sound m (inr t) = is.sound m t

          grows : (m : ℕ) (o : Option ℕ) → IsQueued ready watchers m o → IsQueued more watchers m o
          grows m None q = adds m ∙ or_right (nat_eq m n) (ready m) q
          grows m (Some w) q = q

          by : (m : ℕ) → (list_any (nat_eq m) (n ∷ left) ≡ true) ⊎ IsQueued ready watchers m (find (is_set waits) (references_at graph m)) → (list_any (nat_eq m) left ≡ true) ⊎ IsQueued more watchers m (find (is_set waits) (references_at graph m))
          by m (inr q) = inr (grows m (find (is_set waits) (references_at graph m)) q)
          by m (inl e) = first (split_or (nat_eq m n) (list_any (nat_eq m) left) e)
            where
              first : (nat_eq m n ≡ true) ⊎ (list_any (nat_eq m) left ≡ true) → (list_any (nat_eq m) left ≡ true) ⊎ IsQueued more watchers m (find (is_set waits) (references_at graph m))
              first (inr t) = inl t
              first (inl t) = inr (subst (λ o. IsQueued more watchers m o) (sym (ap (λ k. find (is_set waits) (references_at graph k)) (eqb-true m n t) ∙ none)) (adds m ∙ or_left (nat_eq m n) (ready m) t))

      pub watched_queue : (w place : ℕ) → is_set waits n ≡ true → list_any (is_set waits) (take place (references_at graph n)) ≡ false → find (is_set waits) (references_at graph n) ≡ Some w
          → IsQueue graph waits ready (set watchers w (references_at watchers w ++ n ∷ [])) (set places n place) left
      watched_queue w place here e found = record {
        long = length-set watchers w (references_at watchers w ++ n ∷ []) ∙ is.long;
        as_long = length-set places n place ∙ is.as_long;
        clear = now_clear place e (let lt = is_set_within waits n here in omega arith);
        sound = is.sound;
        queued = λ m v. by m (is.queued m v);
      }
        where
          within : w < length watchers
          within = let lt = is_set_within waits w (find_passes (is_set waits) (references_at graph n) w found) in let l = is.long in omega arith

          more : List (List ℕ)
          more = set watchers w (references_at watchers w ++ n ∷ [])

          grows : (m : ℕ) (o : Option ℕ) → IsQueued ready watchers m o → IsQueued ready more m o
          grows m None q = q
          grows m (Some v) q = at_v (cases_eq v w)
            where
              at_v : (v ≡ w) ⊎ (v ≡ w → ⊥) → list_any (nat_eq m) (references_at more v) ≡ true
              at_v (inl same) = subst (λ k. list_any (nat_eq m) (references_at more k) ≡ true) (sym same) (ap (list_any (nat_eq m)) (at_set_same watchers w (references_at watchers w ++ n ∷ []) within) ∙ list_any-append (nat_eq m) (references_at watchers w) (n ∷ [])
                  ∙ or_left (list_any (nat_eq m) (references_at watchers w)) (list_any (nat_eq m) (n ∷ [])) (subst (λ k. list_any (nat_eq m) (references_at watchers k) ≡ true) same q))
              at_v (inr differs) = ap (list_any (nat_eq m)) (at_set_other watchers w v (references_at watchers w ++ n ∷ []) differs) ∙ q

          by : (m : ℕ) → (list_any (nat_eq m) (n ∷ left) ≡ true) ⊎ IsQueued ready watchers m (find (is_set waits) (references_at graph m)) → (list_any (nat_eq m) left ≡ true) ⊎ IsQueued ready more m (find (is_set waits) (references_at graph m))
          by m (inr q) = inr (grows m (find (is_set waits) (references_at graph m)) q)
          by m (inl e) = first (split_or (nat_eq m n) (list_any (nat_eq m) left) e)
            where
              first : (nat_eq m n ≡ true) ⊎ (list_any (nat_eq m) left ≡ true) → (list_any (nat_eq m) left ≡ true) ⊎ IsQueued ready more m (find (is_set waits) (references_at graph m))
              first (inr t) = inl t
              first (inl t) = inr (subst (λ o. IsQueued ready more m o) (sym (ap (λ k. find (is_set waits) (references_at graph k)) (eqb-true m n t) ∙ found))
                  (ap (list_any (nat_eq m)) (at_set_same watchers w (references_at watchers w ++ n ∷ []) within) ∙ list_any-append (nat_eq m) (references_at watchers w) (n ∷ [])
                  ∙ or_right (list_any (nat_eq m) (references_at watchers w)) (list_any (nat_eq m) (n ∷ [])) (or_left (nat_eq m n) (list_any (nat_eq m) []) t)))

-- ---- the start

pub queue_starts : (graph : List (List ℕ)) (waits : List Bool) (ready : ℕ → Bool) (watchers : List (List ℕ)) (places numbers : List ℕ)
    → length waits ≡ length graph → ((n : ℕ) → ready n ≡ false) → watchers ≡ replicate (length graph) [] → places ≡ replicate (length graph) 0 → length numbers ≡ length graph → AreSame numbers
    → IsQueue graph waits ready watchers places numbers
queue_starts graph waits ready watchers places numbers l none ew ep long same = record {
  long = ap length ew ∙ length-replicate {A = List ℕ} (length graph) [];
  as_long = ap length ep ∙ length-replicate {A = ℕ} (length graph) 0;
  clear = λ n. ap (λ (k : ℕ). list_any (is_set waits) (take k (references_at graph n))) (at_zero n);
  sound = λ n r. absurd (true≢false (sym r ∙ none n));
  queued = λ n w. let lt = is_set_within waits n w in inl (list_any_at (nat_eq n) numbers n n (omega arith) (eq-eqb n (get_or numbers n n) (sym (same n))));
}
  where
    at_zero : (n : ℕ) → get_or places n 0 ≡ 0
    at_zero n = ap (λ (ps : List ℕ). get_or ps n 0) ep ∙ by (cases_lt n (length graph))
      where
        by : (n < length graph) ⊎ (length graph ≤ n) → get_or {A = ℕ} (replicate {A = ℕ} (length graph) 0) n 0 ≡ 0
        by (inl lt) = get_or-replicate {A = ℕ} (length graph) n 0 0 lt
        by (inr ge) = let r = length-replicate {A = ℕ} (length graph) 0 in get_or_past {X = ℕ} (replicate {A = ℕ} (length graph) 0) n 0 (omega arith)
