-- Paths of references, and searches for them.
use Rattle.std.proofs.Common.{◌≡◌, ℕ, suc, zero, ◌<◌, ◌≤◌, ◌+◌, Bool, true, false, ◌&&◌, ◌||◌, ◌≢◌, ◌⊎◌, inl, inr, nat_eq, nat_lt, List, [], ◌∷◌, ◌++◌, length, get_or, set, replicate, Some, None, if◌then◌else◌, refl, sym, ap, subst, ◌∙◌, arith, true≢false}
use Rattle.std.specs.List.{list_any, find}
use Rattle.std.proofs.lemmas.Bool.{cases_lt, cases_eq, lt-ltb, ltb-true, eq-eqb, eqb-true}
use Rattle.std.proofs.lemmas.Bool.Decides.{eqb_tells}
use Rattle.std.proofs.lemmas.List.{length-set, length-replicate, get_or-replicate, get_or-set_same, get_or-set_other, get_or_past}
use Rattle.std.proofs.lemmas.List.Folds.{list_any-append}
use Rattle.no_read_types.specs.Graph.{references_at, refers, IsPath, Reaches, OnCircle, next_from, is_set, is_clear, count_clear, marked, fresh, Tells, IsSearch, IsWalk}
use Rattle.no_read_types.proofs.FlagLaws.{clear_falls, clear_within, is_set_within}
use Rattle.no_read_types.proofs.OrderLaws.{stuck_waits}

-- ---- paths

path_more : (graph : List (List ℕ)) (a : ℕ) (via : List ℕ) (b c : ℕ) → IsPath graph a via b → refers graph b c ≡ true → IsPath graph a (via ++ b ∷ []) c
path_more graph a [] b c p e = (p, e)
path_more graph a (v ∷ via) b c p e = (p.0, path_more graph v via b c p.1 e)

pub reaches_more : (graph : List (List ℕ)) (a b c : ℕ) → Reaches graph a b → refers graph b c ≡ true → Reaches graph a c
reaches_more graph a b c r e = (r.0 ++ b ∷ [], path_more graph a r.0 b c r.1 e)

split_or : (b c : Bool) → (b || c) ≡ true → (b ≡ true) ⊎ (c ≡ true)
split_or true c e = inl refl
split_or false c e = inr e

both : (b c : Bool) → (b && c) ≡ true → (b ≡ true) × (c ≡ true)
both true c e = (refl, e)
both false c e = absurd (true≢false (sym e))

and_true : (b c : Bool) → b ≡ true → c ≡ true → (b && c) ≡ true
and_true b c e f = rw (e, f) refl

or_left : (b c : Bool) → b ≡ true → (b || c) ≡ true
or_left b c e = rw e refl

or_right : (b c : Bool) → c ≡ true → (b || c) ≡ true
or_right true c e = refl
or_right false c e = e

-- what is referred to lies in the graph, and among the references
refers_parts : (graph : List (List ℕ)) (a b : ℕ) → refers graph a b ≡ true → (b < length graph) × (list_any (nat_eq b) (references_at graph a) ≡ true)
refers_parts graph a b e = let p = both (nat_lt b (length graph)) (list_any (nat_eq b) (references_at graph a)) e in (ltb-true b (length graph) p.0, p.1)

refers_is : (graph : List (List ℕ)) (a b : ℕ) → b < length graph → list_any (nat_eq b) (references_at graph a) ≡ true → refers graph a b ≡ true
refers_is graph a b lt e = and_true (nat_lt b (length graph)) (list_any (nat_eq b) (references_at graph a)) (lt-ltb b (length graph) lt) e

-- ---- marks

set_or_was : (flags : List Bool) (n m : ℕ) → is_set (set flags n true) m ≡ true → (m ≡ n) ⊎ (is_set flags m ≡ true)
set_or_was flags n m e = by (cases_eq m n)
  where
    by : (m ≡ n) ⊎ (m ≡ n → ⊥) → (m ≡ n) ⊎ (is_set flags m ≡ true)
    by (inl is) = inl is
    by (inr differs) = inr (sym (get_or-set_other flags n m true false differs) ∙ e)

stays_set : (flags : List Bool) (n m : ℕ) → is_set flags m ≡ true → is_set (set flags n true) m ≡ true
stays_set flags n m e = by (cases_eq m n)
  where
    by : (m ≡ n) ⊎ (m ≡ n → ⊥) → is_set (set flags n true) m ≡ true
    by (inl is) = let w : m < length flags = is_set_within flags m e in subst (λ k. is_set (set flags k true) m ≡ true) is (get_or-set_same flags m true false w)
    by (inr differs) = get_or-set_other flags n m true false differs ∙ e

now_set : (flags : List Bool) (n : ℕ) → n < length flags → is_set (set flags n true) n ≡ true
now_set flags n lt = get_or-set_same flags n true false lt

clear_or_set : (flags : List Bool) (n : ℕ) → n < length flags → is_clear flags n ≡ false → is_set flags n ≡ true
clear_or_set [] n lt e = absurd (omega arith)
clear_or_set (true ∷ flags) zero lt e = refl
clear_or_set (false ∷ flags) zero lt e = absurd (true≢false e)
clear_or_set (f ∷ flags) (suc n) lt e = clear_or_set flags n (omega arith) e

pub marked_long : (flags : List Bool) (ns : List ℕ) → length (marked flags ns) ≡ length flags
marked_long flags [] = refl
marked_long flags (n ∷ ns) = by (is_clear flags n) (marked_long (set flags n true) ns) (marked_long flags ns)
  where
    by : (b : Bool) → length (marked (set flags n true) ns) ≡ length (set flags n true) → length (marked flags ns) ≡ length flags → length (if b then marked (set flags n true) ns else marked flags ns) ≡ length flags
    by true p q = p ∙ length-set flags n true
    by false p q = q

marked_stays : (flags : List Bool) (ns : List ℕ) (m : ℕ) → is_set flags m ≡ true → is_set (marked flags ns) m ≡ true
marked_stays flags [] m e = e
marked_stays flags (n ∷ ns) m e = by (is_clear flags n) (marked_stays (set flags n true) ns m (stays_set flags n m e)) (marked_stays flags ns m e)
  where
    by : (b : Bool) → is_set (marked (set flags n true) ns) m ≡ true → is_set (marked flags ns) m ≡ true → is_set (if b then marked (set flags n true) ns else marked flags ns) m ≡ true
    by true p q = p
    by false p q = q

-- each of them is set
marked_all : (flags : List Bool) (ns : List ℕ) (m : ℕ) → m < length flags → list_any (nat_eq m) ns ≡ true → is_set (marked flags ns) m ≡ true
marked_all flags [] m lt e = absurd (true≢false (sym e))
marked_all flags (n ∷ ns) m lt e =
    by (is_clear flags n) refl (split_or (nat_eq m n) (list_any (nat_eq m) ns) e)
    (marked_stays (set flags n true) ns n) (marked_stays flags ns n)
    (marked_all (set flags n true) ns m (let l = length-set flags n true in omega arith)) (marked_all flags ns m lt)
  where
    by : (b : Bool) → is_clear flags n ≡ b → (nat_eq m n ≡ true) ⊎ (list_any (nat_eq m) ns ≡ true)
        → (is_set (set flags n true) n ≡ true → is_set (marked (set flags n true) ns) n ≡ true) → (is_set flags n ≡ true → is_set (marked flags ns) n ≡ true)
        → (list_any (nat_eq m) ns ≡ true → is_set (marked (set flags n true) ns) m ≡ true) → (list_any (nat_eq m) ns ≡ true → is_set (marked flags ns) m ≡ true)
        → is_set (if b then marked (set flags n true) ns else marked flags ns) m ≡ true
    by true c (inl is) p q r s = let e : m ≡ n = eqb-true m n is in subst (λ k. is_set (marked (set flags n true) ns) k ≡ true) (sym e) (p (now_set flags n (let w : m < length flags = lt in omega arith)))
    by false c (inl is) p q r s = let e : m ≡ n = eqb-true m n is in subst (λ k. is_set (marked flags ns) k ≡ true) (sym e) (q (clear_or_set flags n (let w : m < length flags = lt in omega arith) c))
    by true c (inr more) p q r s = r more
    by false c (inr more) p q r s = s more

-- what is set was set, or is one of them that wasn't
marked_only : (flags : List Bool) (ns : List ℕ) (m : ℕ) → is_set (marked flags ns) m ≡ true → (is_set flags m ≡ true) ⊎ (list_any (nat_eq m) (fresh flags ns) ≡ true)
marked_only flags [] m e = inl e
marked_only flags (n ∷ ns) m e = by (is_clear flags n) e (marked_only (set flags n true) ns m) (marked_only flags ns m)
  where
    new : (is_set (set flags n true) m ≡ true) ⊎ (list_any (nat_eq m) (fresh (set flags n true) ns) ≡ true) → (is_set flags m ≡ true) ⊎ (list_any (nat_eq m) (n ∷ fresh (set flags n true) ns) ≡ true)
    new (inr f) = inr (or_right (nat_eq m n) (list_any (nat_eq m) (fresh (set flags n true) ns)) f)
    new (inl s) = was (set_or_was flags n m s)
      where
        was : (m ≡ n) ⊎ (is_set flags m ≡ true) → (is_set flags m ≡ true) ⊎ (list_any (nat_eq m) (n ∷ fresh (set flags n true) ns) ≡ true)
        was (inl is) = inr (or_left (nat_eq m n) (list_any (nat_eq m) (fresh (set flags n true) ns)) (eq-eqb m n is))
        was (inr w) = inl w

    by : (b : Bool) → is_set (if b then marked (set flags n true) ns else marked flags ns) m ≡ true
        → (is_set (marked (set flags n true) ns) m ≡ true → (is_set (set flags n true) m ≡ true) ⊎ (list_any (nat_eq m) (fresh (set flags n true) ns) ≡ true))
        → (is_set (marked flags ns) m ≡ true → (is_set flags m ≡ true) ⊎ (list_any (nat_eq m) (fresh flags ns) ≡ true))
        → (is_set flags m ≡ true) ⊎ (list_any (nat_eq m) (if b then n ∷ fresh (set flags n true) ns else fresh flags ns) ≡ true)
    by true e p q = new (p e)
    by false e p q = q e

-- those that weren't set are among them, and lie within
fresh_from : (flags : List Bool) (ns : List ℕ) (m : ℕ) → list_any (nat_eq m) (fresh flags ns) ≡ true → (list_any (nat_eq m) ns ≡ true) × (m < length flags)
fresh_from flags [] m e = absurd (true≢false (sym e))
fresh_from flags (n ∷ ns) m e = by (is_clear flags n) refl e (fresh_from (set flags n true) ns m) (fresh_from flags ns m)
  where
    by : (b : Bool) → is_clear flags n ≡ b → list_any (nat_eq m) (if b then n ∷ fresh (set flags n true) ns else fresh flags ns) ≡ true
        → (list_any (nat_eq m) (fresh (set flags n true) ns) ≡ true → (list_any (nat_eq m) ns ≡ true) × (m < length (set flags n true)))
        → (list_any (nat_eq m) (fresh flags ns) ≡ true → (list_any (nat_eq m) ns ≡ true) × (m < length flags))
        → (list_any (nat_eq m) (n ∷ ns) ≡ true) × (m < length flags)
    by false c e p q = let r = q e in (or_right (nat_eq m n) (list_any (nat_eq m) ns) r.0, r.1)
    by true c e p q = either (split_or (nat_eq m n) (list_any (nat_eq m) (fresh (set flags n true) ns)) e)
      where
        either : (nat_eq m n ≡ true) ⊎ (list_any (nat_eq m) (fresh (set flags n true) ns) ≡ true) → (list_any (nat_eq m) (n ∷ ns) ≡ true) × (m < length flags)
        either (inl is) = (or_left (nat_eq m n) (list_any (nat_eq m) ns) is, (let i : m ≡ n = eqb-true m n is in let w = clear_within flags n c in omega arith))
        either (inr f) = let r = p f in (or_right (nat_eq m n) (list_any (nat_eq m) ns) r.0, (let l = length-set flags n true in let w = r.1 in omega arith))

-- each of those is one flag less to set
pub fresh_count : (flags : List Bool) (ns : List ℕ) → count_clear (marked flags ns) + length (fresh flags ns) ≡ count_clear flags
fresh_count flags [] = omega arith
fresh_count flags (n ∷ ns) = by (is_clear flags n) refl (fresh_count (set flags n true) ns) (fresh_count flags ns)
  where
    by : (b : Bool) → is_clear flags n ≡ b → count_clear (marked (set flags n true) ns) + length (fresh (set flags n true) ns) ≡ count_clear (set flags n true) → count_clear (marked flags ns) + length (fresh flags ns) ≡ count_clear flags
        → count_clear (if b then marked (set flags n true) ns else marked flags ns) + length (if b then n ∷ fresh (set flags n true) ns else fresh flags ns) ≡ count_clear flags
    by true c p q = let f = clear_falls flags n c in omega arith
    by false c p q = q

-- ---- a search

module _ (graph : List (List ℕ)) (start : ℕ) where
  pub search_starts : (flags : List Bool) → flags ≡ replicate (length graph) false → IsSearch graph start (marked flags (references_at graph start)) (fresh flags (references_at graph start))
  search_starts flags e = record { long = marked_long flags (references_at graph start) ∙ long; sound = λ n s. sound n (marked_only flags (references_at graph start) n s); waits = waits; first = first; closed = closed }
    where
      long : length flags ≡ length graph
      long = ap length e ∙ length-replicate (length graph) false

      clear : (n : ℕ) → is_set flags n ≡ false
      clear n = ap (λ f. is_set f n) e ∙ by (cases_lt n (length graph))
        where
          by : (n < length graph) ⊎ (length graph ≤ n) → get_or (replicate (length graph) false) n false ≡ false
          by (inl lt) = get_or-replicate (length graph) n false false lt
          by (inr ge) = let l = length-replicate {A = Bool} (length graph) false in get_or_past (replicate (length graph) false) n false (omega arith)

      from_fresh : (n : ℕ) → list_any (nat_eq n) (fresh flags (references_at graph start)) ≡ true → refers graph start n ≡ true
      from_fresh n f = let p = fresh_from flags (references_at graph start) n f in refers_is graph start n (let w = p.1 in let l = long in omega arith) p.0

      sound : (n : ℕ) → (is_set flags n ≡ true) ⊎ (list_any (nat_eq n) (fresh flags (references_at graph start)) ≡ true) → Reaches graph start n
      sound n (inl s) = absurd (true≢false (sym s ∙ clear n))
      sound n (inr f) = ([], from_fresh n f)

      first : (n : ℕ) → refers graph start n ≡ true → is_set (marked flags (references_at graph start)) n ≡ true
      first n r = let p = refers_parts graph start n r in marked_all flags (references_at graph start) n (let w = p.0 in let l = long in omega arith) p.1

      waits : (n : ℕ) → list_any (nat_eq n) (fresh flags (references_at graph start)) ≡ true → is_set (marked flags (references_at graph start)) n ≡ true
      waits n f = first n (from_fresh n f)

      closed : (a b : ℕ) → is_set (marked flags (references_at graph start)) a ≡ true → list_any (nat_eq a) (fresh flags (references_at graph start)) ≡ false → refers graph a b ≡ true → is_set (marked flags (references_at graph start)) b ≡ true
      closed a b s t r = by (marked_only flags (references_at graph start) a s)
        where
          by : (is_set flags a ≡ true) ⊎ (list_any (nat_eq a) (fresh flags (references_at graph start)) ≡ true) → is_set (marked flags (references_at graph start)) b ≡ true
          by (inl w) = absurd (true≢false (sym w ∙ clear a))
          by (inr f) = absurd (true≢false (sym f ∙ t))

  pub search_goes : (seen : List Bool) (todo front : List ℕ) (n : ℕ) → todo ≡ front ++ n ∷ [] → IsSearch graph start seen todo → IsSearch graph start (marked seen (references_at graph n)) (front ++ fresh seen (references_at graph n))
  search_goes seen todo front n parts is = record {
    long = marked_long seen refs ∙ is.long;
    sound = λ m s. sound m (marked_only seen refs m s);
    waits = λ m t. waits m (split_or (list_any (nat_eq m) front) (list_any (nat_eq m) (fresh seen refs)) (sym (list_any-append (nat_eq m) front (fresh seen refs)) ∙ t));
    first = λ m r. marked_stays seen refs m (is.first m r);
    closed = λ a b s t r. closed a b (marked_only seen refs a s) (sym (list_any-append (nat_eq a) front (fresh seen refs)) ∙ t) r;
  }
    where
      refs : List ℕ
      refs = references_at graph n

      in_todo : (m : ℕ) → list_any (nat_eq m) todo ≡ (list_any (nat_eq m) front || (nat_eq m n || false))
      in_todo m = ap (list_any (nat_eq m)) parts ∙ list_any-append (nat_eq m) front (n ∷ [])

      here : is_set seen n ≡ true
      here = is.waits n (in_todo n ∙ or_right (list_any (nat_eq n) front) (nat_eq n n || false) (or_left (nat_eq n n) false (eq-eqb n n refl)))

      from_fresh : (m : ℕ) → list_any (nat_eq m) (fresh seen refs) ≡ true → refers graph n m ≡ true
      from_fresh m f = let p = fresh_from seen refs m f in refers_is graph n m (let w = p.1 in let l = is.long in omega arith) p.0

      sound : (m : ℕ) → (is_set seen m ≡ true) ⊎ (list_any (nat_eq m) (fresh seen refs) ≡ true) → Reaches graph start m
      sound m (inl s) = is.sound m s
      sound m (inr f) = reaches_more graph start n m (is.sound n here) (from_fresh m f)

      marks : (m : ℕ) → refers graph n m ≡ true → is_set (marked seen refs) m ≡ true
      marks m r = let p = refers_parts graph n m r in marked_all seen refs m (let w = p.0 in let l = is.long in omega arith) p.1

      waits : (m : ℕ) → (list_any (nat_eq m) front ≡ true) ⊎ (list_any (nat_eq m) (fresh seen refs) ≡ true) → is_set (marked seen refs) m ≡ true
      waits m (inl f) = marked_stays seen refs m (is.waits m (in_todo m ∙ or_left (list_any (nat_eq m) front) (nat_eq m n || false) f))
      waits m (inr f) = marks m (from_fresh m f)

      closed : (a b : ℕ) → (is_set seen a ≡ true) ⊎ (list_any (nat_eq a) (fresh seen refs) ≡ true) → (list_any (nat_eq a) front || list_any (nat_eq a) (fresh seen refs)) ≡ false → refers graph a b ≡ true → is_set (marked seen refs) b ≡ true
      closed a b (inr f) t r = absurd (true≢false (sym (or_right (list_any (nat_eq a) front) (list_any (nat_eq a) (fresh seen refs)) f) ∙ t))
      closed a b (inl s) t r = by (eqb_tells a n)
        where
          front_clear : (c d : Bool) → (c || d) ≡ false → c ≡ false
          front_clear true d e = absurd (true≢false e)
          front_clear false d e = refl

          by : ((nat_eq a n ≡ true) × (a ≡ n)) ⊎ ((nat_eq a n ≡ false) × (a ≢ n)) → is_set (marked seen refs) b ≡ true
          by (inl (e, same)) = marks b (subst (λ k. refers graph k b ≡ true) same r)
          by (inr (e, differs)) = marked_stays seen refs b (is.closed a b s (in_todo a ∙ (rw (front_clear (list_any (nat_eq a) front) (list_any (nat_eq a) (fresh seen refs)) t, e) refl)) r)

  seen_on : (seen : List Bool) → IsSearch graph start seen [] → (a : ℕ) (via : List ℕ) (b : ℕ) → is_set seen a ≡ true → IsPath graph a via b → is_set seen b ≡ true
  seen_on seen is a [] b s p = is.closed a b s refl p
  seen_on seen is a (c ∷ via) b s p = seen_on seen is c via b (is.closed a c s refl p.0) p.1

  pub search_ends : (seen : List Bool) (b : Bool) → IsSearch graph start seen [] → b ≡ is_set seen start → Tells b (OnCircle graph start)
  search_ends seen true is e = is.sound start (sym e)
  search_ends seen false is e = λ circle. true≢false (sym (back circle.0 circle.1) ∙ sym e)
    where
      back : (via : List ℕ) → IsPath graph start via start → is_set seen start ≡ true
      back [] p = is.first start p
      back (c ∷ via) p = seen_on seen is c via start (is.first c p.0) p.1

-- ---- a walk

find_none : (p : ℕ → Bool) (ns : List ℕ) → find p ns ≡ None → list_any p ns ≡ true → ⊥
find_none p [] e h = true≢false (sym h)
find_none p (n ∷ ns) e h = by (p n) e h (find_none p ns)
  where
    by : (b : Bool) → (if b then Some n else find p ns) ≡ None → (b || list_any p ns) ≡ true → (find p ns ≡ None → list_any p ns ≡ true → ⊥) → ⊥
    by true e h more = cc
    by false e h more = more e h

find_some : (p : ℕ → Bool) (ns : List ℕ) (n : ℕ) → find p ns ≡ Some n → (p n ≡ true) × (list_any (nat_eq n) ns ≡ true)
find_some p [] n e = absurd cc
find_some p (m ∷ ns) n e = by (p m) refl e (find_some p ns n)
  where
    by : (b : Bool) → p m ≡ b → (if b then Some m else find p ns) ≡ Some n → (find p ns ≡ Some n → (p n ≡ true) × (list_any (nat_eq n) ns ≡ true)) → (p n ≡ true) × (list_any (nat_eq n) (m ∷ ns) ≡ true)
    by true is e more = let same : m ≡ n = cc in (subst (λ k. p k ≡ true) same is, or_left (nat_eq n m) (list_any (nat_eq n) ns) (eq-eqb n m (sym same)))
    by false is e more = let r = more e in (r.0, or_right (nat_eq n m) (list_any (nat_eq n) ns) r.1)

same_references : (graph : List (List ℕ)) (n : ℕ) → get_or graph n [] ≡ references_at graph n
same_references [] n = refl
same_references (r ∷ graph) zero = refl
same_references (r ∷ graph) (suc n) = same_references graph n

module _ (graph : List (List ℕ)) (waits : List Bool) (long : length waits ≡ length graph) (stuck : next_from (is_set waits) 0 graph ≡ None) where
  refers_on : (n : ℕ) → is_set waits n ≡ true → list_any (is_set waits) (references_at graph n) ≡ true
  refers_on n w =
      let lt = is_set_within waits n w in
      let z : 0 + n ≡ n = omega arith in
      ap (list_any (is_set waits)) (sym (same_references graph n)) ∙ stuck_waits (is_set waits) 0 graph stuck n (omega arith) (subst (λ k. is_set waits k ≡ true) (sym z) w)

  pub walk_never_ends : (n : ℕ) → is_set waits n ≡ true → None ≡ find (is_set waits) (references_at graph n) → ⊥
  walk_never_ends n w e = find_none (is_set waits) (references_at graph n) (sym e) (refers_on n w)

  pub walk_starts : (visited : List Bool) (n : ℕ) → is_set waits n ≡ true → visited ≡ replicate (length graph) false → IsWalk graph waits visited n
  walk_starts visited n w e = record { here = w; long = ap length e ∙ length-replicate (length graph) false; behind = λ m s. absurd (true≢false (sym s ∙ clear m)) }
    where
      clear : (m : ℕ) → is_set visited m ≡ false
      clear m = ap (λ f. is_set f m) e ∙ by (cases_lt m (length graph))
        where
          by : (m < length graph) ⊎ (length graph ≤ m) → get_or (replicate (length graph) false) m false ≡ false
          by (inl lt) = get_or-replicate (length graph) m false false lt
          by (inr ge) = let l = length-replicate {A = Bool} (length graph) false in get_or_past (replicate (length graph) false) m false (omega arith)

  pub walk_within : (visited : List Bool) (n : ℕ) → IsWalk graph waits visited n → n < length visited
  walk_within visited n is = let lt = is_set_within waits n is.here in let l = is.long in omega arith

  pub walk_goes : (visited : List Bool) (n next : ℕ) → IsWalk graph waits visited n → Some next ≡ find (is_set waits) (references_at graph n) → IsWalk graph waits (set visited n true) next
  walk_goes visited n next is e = record { here = found.0; long = length-set visited n true ∙ is.long; behind = λ m s. by m (set_or_was visited n m s) }
    where
      found : (is_set waits next ≡ true) × (list_any (nat_eq next) (references_at graph n) ≡ true)
      found = find_some (is_set waits) (references_at graph n) next (sym e)

      edge : refers graph n next ≡ true
      edge = refers_is graph n next (let lt = is_set_within waits next found.0 in omega arith) found.1

      by : (m : ℕ) → (m ≡ n) ⊎ (is_set visited m ≡ true) → Reaches graph m next
      by m (inl same) = subst (λ k. Reaches graph k next) (sym same) ([], edge)
      by m (inr s) = reaches_more graph m n next (is.behind m s) edge

-- ---- tests

pub tells_not : (b : Bool) (P : Type 0) → b ≡ false → Tells b P → P → ⊥
tells_not true P e t = absurd (true≢false e)
tells_not false P e t = t

pub below_one_more : (P : ℕ → Type 0) (n : ℕ) → ((m : ℕ) → m < n → P m → ⊥) → (P n → ⊥) → (m : ℕ) → m < n + 1 → P m → ⊥
below_one_more P n below here m lt p = by (cases_eq m n)
  where
    by : (m ≡ n) ⊎ (m ≡ n → ⊥) → ⊥
    by (inl is) = here (subst P is p)
    by (inr differs) = below m (below_n differs) p
      where
        below_n : m ≢ n → m < n
        below_n d = omega arith
