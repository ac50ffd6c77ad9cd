-- The order of numbers, kept as flags and numbers by place.
use Rattle.std.proofs.Common.{◌≡◌, ℕ, suc, zero, ◌<◌, ◌≤◌, ◌+◌, Bool, true, false, not, ◌&&◌, ◌||◌, ◌≢◌, ◌⊎◌, inl, inr, nat_eq, nat_lt, List, [], ◌∷◌, ◌++◌, length, get_or, set, replicate, Some, None, if◌then◌else◌, refl, sym, ap, subst, ◌∙◌, arith, true≢false}
use Rattle.std.specs.List.{list_any}
use Rattle.std.proofs.lemmas.Bool.{cases_lt, cases_eq, ltb-false, ltb-true}
use Rattle.std.proofs.lemmas.Bool.Decides.{eqb_tells}
use Rattle.std.proofs.lemmas.List.{length-set, length-append, length-replicate, get_or-replicate, get_or-set_same, get_or-set_other, get_or_push, get_or_past, get_or_append_left}
use Rattle.std.proofs.lemmas.List.Folds.{list_any-append}
use Rattle.no_read_types.specs.Graph.{is_open, next_from, go_on, order_from, order_of, number_from, number_of, is_set, count_set, IsNumbering, AreSame}
use Rattle.no_read_types.proofs.FlagLaws.{set_falls, count_replicate, is_set_within}

pub same_push : (xs : List ℕ) (x : ℕ) → AreSame xs → x ≡ length xs → AreSame (xs ++ x ∷ [])
same_push xs x same e n = by (cases_lt n (length xs)) (cases_eq n (length xs))
  where
    by : (n < length xs) ⊎ (length xs ≤ n) → (n ≡ length xs) ⊎ (n ≡ length xs → ⊥) → get_or (xs ++ x ∷ []) n n ≡ n
    by (inl lt) c = get_or_append_left xs (x ∷ []) n n lt ∙ same n
    by (inr ge) (inl is) = get_or_push xs x n n (sym is) ∙ e ∙ sym is
    by (inr ge) (inr differs) = get_or_past (xs ++ x ∷ []) n n (past (length-append xs (x ∷ [])) differs)
      where
        past : length (xs ++ x ∷ []) ≡ length xs + 1 → n ≢ length xs → length (xs ++ x ∷ []) ≤ n
        past l d = omega arith

-- ---- what comes next

pub next_waits : (waits : ℕ → Bool) (k : ℕ) (graph : List (List ℕ)) (n : ℕ) → next_from waits k graph ≡ Some n → waits n ≡ true
next_waits waits k [] n e = absurd cc
next_waits waits k (all ∷ graph) n e = by (waits k) (list_any waits all) refl e (next_waits waits (suc k) graph n)
  where
    by : (b c : Bool) → waits k ≡ b → (if b && not c then Some k else next_from waits (suc k) graph) ≡ Some n → (next_from waits (suc k) graph ≡ Some n → waits n ≡ true) → waits n ≡ true
    by true false w e more = let is : k ≡ n = cc in subst (λ j. waits j ≡ true) is w
    by true true w e more = more e
    by false c w e more = more e

-- where nothing comes next, what waits refers to something that waits
pub stuck_waits : (waits : ℕ → Bool) (k : ℕ) (graph : List (List ℕ)) → next_from waits k graph ≡ None → (n : ℕ) → n < length graph → waits (k + n) ≡ true → list_any waits (get_or graph n []) ≡ true
stuck_waits waits k [] e n lt w = absurd (omega arith)
stuck_waits waits k (all ∷ graph) e n lt w = by (waits k) (list_any waits all) refl refl e n lt w (stuck_waits waits (suc k) graph)
  where
    by : (b c : Bool) → waits k ≡ b → list_any waits all ≡ c → (if b && not c then Some k else next_from waits (suc k) graph) ≡ None → (n : ℕ) → n < length (all ∷ graph) → waits (k + n) ≡ true
        → (next_from waits (suc k) graph ≡ None → (n : ℕ) → n < length graph → waits (suc k + n) ≡ true → list_any waits (get_or graph n []) ≡ true) → list_any waits (get_or (all ∷ graph) n []) ≡ true
    by true false v a e n lt w more = absurd cc
    by true true v a e zero lt w more = a
    by false c v a e zero lt w more = let z : k + 0 ≡ k = omega arith in absurd (true≢false (sym (subst (λ j. waits j ≡ true) z w) ∙ v))
    by true true v a e (suc n) lt w more = let z : k + suc n ≡ suc k + n = omega arith in more e n (omega arith) (subst (λ j. waits j ≡ true) z w)
    by false c v a e (suc n) lt w more = let z : k + suc n ≡ suc k + n = omega arith in more e n (omega arith) (subst (λ j. waits j ≡ true) z w)

-- ---- numbers

number_pushed : (k : ℕ) (order : List ℕ) (n m : ℕ) → number_from k (order ++ n ∷ []) m ≡ (if list_any (nat_eq m) order then number_from k order m else (if nat_eq m n then k + length order else m))
number_pushed k [] n m = let z : k + 0 ≡ k = omega arith in rw z refl
number_pushed k (o ∷ order) n m = by (nat_eq m o) (number_pushed (suc k) order n m)
  where
    by : (b : Bool) → number_from (suc k) (order ++ n ∷ []) m ≡ (if list_any (nat_eq m) order then number_from (suc k) order m else (if nat_eq m n then suc k + length order else m)) → (if b then k else number_from (suc k) (order ++ n ∷ []) m) ≡ (if b || list_any (nat_eq m) order then (if b then k else number_from (suc k) order m) else (if nat_eq m n then k + length (o ∷ order) else m))
    by true more = refl
    by false more = let z : k + length (o ∷ order) ≡ suc k + length order = omega arith in rw z more

number_absent : (k : ℕ) (order : List ℕ) (m : ℕ) → list_any (nat_eq m) order ≡ false → number_from k order m ≡ m
number_absent k [] m e = refl
number_absent k (o ∷ order) m e = by (nat_eq m o) refl e (number_absent (suc k) order m)
  where
    by : (b : Bool) → nat_eq m o ≡ b → (b || list_any (nat_eq m) order) ≡ false → (list_any (nat_eq m) order ≡ false → number_from (suc k) order m ≡ m) → (if b then k else number_from (suc k) order m) ≡ m
    by true is e more = absurd (true≢false e)
    by false is e more = more e

-- ---- the invariant

module _ (graph : List (List ℕ)) where
  starts_waiting : (n m : ℕ) → is_set (replicate n true) m ≡ (nat_lt m n && true)
  starts_waiting n m = by (nat_lt m n) refl
    where
      by : (b : Bool) → nat_lt m n ≡ b → get_or (replicate n true) m false ≡ (b && true)
      by true e = get_or-replicate n m true false (ltb-true m n e)
      by false e = let h = ltb-false m n e in let l = length-replicate {A = Bool} n true in get_or_past (replicate n true) m false (omega arith)

  pub numbering_starts : (numbers : List ℕ) (waits : List Bool) → waits ≡ replicate (length graph) true → length numbers ≡ length graph → AreSame numbers → IsNumbering graph [] numbers waits
  numbering_starts numbers waits e l same = rw e (record {
    long = length-replicate (length graph) true;
    as_long = l;
    waiting = λ n. starts_waiting (length graph) n;
    numbered = same;
    count = let c = count_replicate (length graph) in omega arith;
  })

  module _ (order numbers : List ℕ) (waits : List Bool) (n : ℕ) (is : IsNumbering graph order numbers waits) (here : is_set waits n ≡ true) where
    opened : is_open graph order n ≡ true
    opened = sym (is.waiting n) ∙ here

    absent : list_any (nat_eq n) order ≡ false
    absent = by (nat_lt n (length graph)) (list_any (nat_eq n) order) opened
      where
        by : (b c : Bool) → (b && not c) ≡ true → c ≡ false
        by true false e = refl
        by true true e = absurd (true≢false (sym e))
        by false c e = absurd (true≢false (sym e))

    pub within : n < length graph
    within = let h = is_set_within waits n here in let l = is.long in omega arith

    still_waiting : (m : ℕ) → is_set (set waits n false) m ≡ is_open graph (order ++ n ∷ []) m
    still_waiting m = by (eqb_tells m n)
      where
        by : ((nat_eq m n ≡ true) × (m ≡ n)) ⊎ ((nat_eq m n ≡ false) × (m ≢ n)) → is_set (set waits n false) m ≡ is_open graph (order ++ n ∷ []) m
        by (inl (t, e)) = rw (e) (get_or-set_same waits n false false (is_set_within waits n here) ∙ sym (closed (nat_lt n (length graph)) (list_any (nat_eq n) order) (list_any-append (nat_eq n) order (n ∷ [])) (subst (λ j. nat_eq j n ≡ true) e t)))
          where
            closed : (b c : Bool) → list_any (nat_eq n) (order ++ n ∷ []) ≡ (c || (nat_eq n n || false)) → nat_eq n n ≡ true → (b && not (list_any (nat_eq n) (order ++ n ∷ []))) ≡ false
            closed true true e t = rw e refl
            closed true false e t = rw (e, t) refl
            closed false c e t = refl
        by (inr (t, differs)) = get_or-set_other waits n m false false differs ∙ is.waiting m ∙ sym (same (nat_lt m (length graph)) (list_any (nat_eq m) order) (list_any-append (nat_eq m) order (n ∷ [])))
          where
            same : (b c : Bool) → list_any (nat_eq m) (order ++ n ∷ []) ≡ (c || (nat_eq m n || false)) → (b && not (list_any (nat_eq m) (order ++ n ∷ []))) ≡ (b && not c)
            same b true e = rw e refl
            same b false e = rw (e, t) refl

    now_numbered : (k m : ℕ) → k ≡ length order → get_or (set numbers n k) m m ≡ number_of (order ++ n ∷ []) m
    now_numbered k m ek = by (eqb_tells m n)
      where
        by : ((nat_eq m n ≡ true) × (m ≡ n)) ⊎ ((nat_eq m n ≡ false) × (m ≢ n)) → get_or (set numbers n k) m m ≡ number_of (order ++ n ∷ []) m
        by (inl (t, e)) = rw e (get_or-set_same numbers n k n (let w = within in let l = is.as_long in omega arith) ∙ ek ∙ sym (number_pushed 0 order n n ∙ (let z : 0 + length order ≡ length order = omega arith in rw (absent, subst (λ j. nat_eq j n ≡ true) e t) z)))
        by (inr (t, differs)) = get_or-set_other numbers n m k m differs ∙ is.numbered m ∙ sym (number_pushed 0 order n m ∙ kept (list_any (nat_eq m) order) refl)
          where
            kept : (b : Bool) → list_any (nat_eq m) order ≡ b → (if b then number_from 0 order m else (if nat_eq m n then 0 + length order else m)) ≡ number_from 0 order m
            kept true e = refl
            kept false e = rw t (sym (number_absent 0 order m e))

    pub numbering_goes : (k : ℕ) → k ≡ length order → IsNumbering graph (order ++ n ∷ []) (set numbers n k) (set waits n false)
    numbering_goes k ek = record {
      long = length-set waits n false ∙ is.long;
      as_long = length-set numbers n k ∙ is.as_long;
      waiting = still_waiting;
      numbered = λ m. now_numbered k m ek;
      count = let c = is.count in let f = set_falls waits n here in let l = length-append order (n ∷ []) in omega arith;
    }

  same_waits : (order numbers : List ℕ) (waits : List Bool) → IsNumbering graph order numbers waits → is_set waits ≡ is_open graph order
  same_waits order numbers waits is = λ i n. is.waiting n i

  pub order_goes : (order numbers : List ℕ) (waits : List Bool) (n : ℕ) (total : List ℕ) → IsNumbering graph order numbers waits → Some n ≡ next_from (is_set waits) 0 graph
      → order_from graph (count_set waits) order ≡ total → order_from graph (count_set (set waits n false)) (order ++ n ∷ []) ≡ total
  unfolding order_from
  order_goes order numbers waits n total is e so_far =
      let f : suc (count_set (set waits n false)) ≡ count_set waits = set_falls waits n (next_waits (is_set waits) 0 graph n (sym e)) in
      let here : next_from (is_open graph order) 0 graph ≡ Some n = ap (λ (w : ℕ → Bool). next_from w 0 graph) (sym (same_waits order numbers waits is)) ∙ sym e in
      ap (go_on (order_from graph (count_set (set waits n false))) order) (sym here) ∙ ap (λ k. order_from graph k order) f ∙ so_far

  pub order_stops : (order numbers : List ℕ) (waits : List Bool) (k : ℕ) → IsNumbering graph order numbers waits → None ≡ next_from (is_set waits) 0 graph → order_from graph k order ≡ order
  unfolding order_from
  order_stops order numbers waits zero is e = refl
  order_stops order numbers waits (suc k) is e = ap (go_on (order_from graph k) order) (ap (λ (w : ℕ → Bool). next_from w 0 graph) (sym (same_waits order numbers waits is)) ∙ sym e)

  pub order_starts : (k : ℕ) → k ≡ length graph → order_from graph k [] ≡ order_of graph
  unfolding order_of
  order_starts k e = ap (λ n. order_from graph n []) e
