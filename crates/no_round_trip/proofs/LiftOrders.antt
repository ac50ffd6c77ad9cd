-- The order of numbers: what it has, and that definitions which refer to lower ones alone keep their own order.
use Rattle.std.proofs.Common.{◌≡◌, ℕ, suc, zero, ◌<◌, ◌≤◌, ◌+◌, Bool, true, false, not, ◌&&◌, ◌||◌, ◌≢◌, ◌⊎◌, inl, inr, nat_eq, nat_lt, List, [], ◌∷◌, ◌++◌, length, get_or, set, replicate, map, Option, Some, None, if◌then◌else◌, refl, sym, ap, subst, ◌∙◌, arith, true≢false, append_assoc, append-nil}
use Rattle.std.specs.List.{list_any}
use Rattle.std.proofs.lemmas.Bool.{cases_lt, cases_eq, ltb-false, ltb-true, lt-ltb, le-ltb}
use Rattle.std.proofs.lemmas.Bool.Decides.{eqb_tells}
use Rattle.std.proofs.lemmas.List.{length-append, get_or_past}
use Rattle.no_read_types.specs.Graph.{is_open, next_from, go_on, order_from, order_of, number_from, number_of, is_set, count_set, IsNumbering, AreSame}
use Rattle.no_read_types.proofs.OrderLaws.{next_waits, numbering_starts, numbering_goes}

-- ---- what comes next refers to none that waits

pub record IsNext (waits : ℕ → Bool) (k : ℕ) (graph : List (List ℕ)) (n : ℕ) : Type 0 where
  pub place : ℕ
  pub is : n ≡ k + place
  pub below : place < length graph
  pub none : list_any waits (get_or graph place []) ≡ false

pub next_is : (waits : ℕ → Bool) (k : ℕ) (graph : List (List ℕ)) (n : ℕ) → next_from waits k graph ≡ Some n → IsNext waits k graph n
next_is waits k [] n e = absurd cc
next_is waits k (all ∷ graph) n e = by (waits k) (list_any waits all) refl e (next_is waits (suc k) graph n)
  where
    later : IsNext waits (suc k) graph n → IsNext waits k (all ∷ graph) n
    later x = record { place = suc x.place; is = let i = x.is in omega arith; below = let b = x.below in omega arith; none = x.none }

    by : (b c : Bool) → list_any waits all ≡ c → (if b && not c then Some k else next_from waits (suc k) graph) ≡ Some n → (next_from waits (suc k) graph ≡ Some n → IsNext waits (suc k) graph n) → IsNext waits k (all ∷ graph) n
    by true false a e more = let is : k ≡ n = cc in record { place = 0; is = omega arith; below = omega arith; none = a }
    by true true a e more = later (more e)
    by false c a e more = later (more e)

-- ---- orders

-- each of these, behind those that are numbered, is open and refers to none that is open
abbrev pub IsOrder : List (List ℕ) → List ℕ → List ℕ → Type 0
IsOrder graph done [] = Unit {0}
IsOrder graph done (n ∷ rest) = (is_open graph done n ≡ true) × (list_any (is_open graph done) (get_or graph n []) ≡ false) × IsOrder graph (done ++ n ∷ []) rest

-- what is found from a numbering on
pub record Found (graph : List (List ℕ)) (order total : List ℕ) : Type 0 where
  pub rest : List ℕ
  pub parts : total ≡ order ++ rest
  pub is : IsOrder graph order rest
  pub numbers : List ℕ
  pub waits : List Bool
  pub numbering : IsNumbering graph total numbers waits

module _ (graph : List (List ℕ)) where
  waits_are : (order numbers : List ℕ) (waits : List Bool) → IsNumbering graph order numbers waits → is_set waits ≡ is_open graph order
  waits_are order numbers waits is = λ i n. is.waiting n i

  stops : (order numbers : List ℕ) (waits : List Bool) → IsNumbering graph order numbers waits → Found graph order order
  stops order numbers waits is = record { rest = []; parts = sym (append-nil order); is = tt; numbers = numbers; waits = waits; numbering = is }

  pub found_from : (steps : ℕ) (order numbers : List ℕ) (waits : List Bool) → IsNumbering graph order numbers waits → Found graph order (order_from graph steps order)
  unfolding order_from
  found_from zero order numbers waits is = stops order numbers waits is
  found_from (suc steps) order numbers waits is = by (next_from (is_open graph order) 0 graph) refl (λ o n w. found_from steps o n w)
    where
      by : (next : Option ℕ) → next_from (is_open graph order) 0 graph ≡ next → ((o n : List ℕ) (w : List Bool) → IsNumbering graph o n w → Found graph o (order_from graph steps o)) → Found graph order (go_on (order_from graph steps) order next)
      by None e again = stops order numbers waits is
      by (Some n) e again =
          let opened : is_open graph order n ≡ true = next_waits (is_open graph order) 0 graph n e in
          let x = next_is (is_open graph order) 0 graph n e in
          let same : x.place ≡ n = (let i = x.is in omega arith) in
          let here : is_set waits n ≡ true = is.waiting n ∙ opened in
          let more = again (order ++ n ∷ []) (set numbers n (length order)) (set waits n false) (numbering_goes graph order numbers waits n is here (length order) refl) in
          record {
            rest = n ∷ more.rest;
            parts = more.parts ∙ append_assoc order (n ∷ []) more.rest;
            is = (opened, subst (λ k. list_any (is_open graph order) (get_or graph k []) ≡ false) same x.none, more.is);
            numbers = more.numbers;
            waits = more.waits;
            numbering = more.numbering;
          }

-- ---- counting up

abbrev pub counting : ℕ → ℕ → List ℕ
counting k zero = []
counting k (suc n) = k ∷ counting (suc k) n

pub counting_long : (k n : ℕ) → length (counting k n) ≡ n
counting_long k zero = refl
counting_long k (suc n) = ap suc (counting_long (suc k) n)

counting_more : (k n : ℕ) → counting k (suc n) ≡ counting k n ++ (k + n) ∷ []
counting_more k zero = let z : k ≡ k + 0 = omega arith in ap (λ x. x ∷ []) z
counting_more k (suc n) = let z : suc k + n ≡ k + suc n = omega arith in ap (λ l. k ∷ l) (counting_more (suc k) n ∙ ap (λ x. counting (suc k) n ++ x ∷ []) z)

counting_at : (k n i d : ℕ) → i < n → get_or (counting k n) i d ≡ k + i
counting_at k zero i d h = absurd (omega arith)
counting_at k (suc n) zero d h = omega arith
counting_at k (suc n) (suc i) d h = let e : suc k + i ≡ k + suc i = omega arith in counting_at (suc k) n i d (omega arith) ∙ e

counting_same : (n : ℕ) → AreSame (counting 0 n)
counting_same n i = by (cases_lt i n)
  where
    by : (i < n) ⊎ (n ≤ i) → get_or (counting 0 n) i i ≡ i
    by (inl lt) = let z : 0 + i ≡ i = omega arith in counting_at 0 n i i lt ∙ z
    by (inr ge) = get_or_past (counting 0 n) i i (let l = counting_long 0 n in omega arith)

-- counting up, each number is its own place
pub counting_number : (k n r : ℕ) → number_from k (counting k n) r ≡ r
counting_number k zero r = refl
counting_number k (suc n) r = by (eqb_tells r k) (counting_number (suc k) n r)
  where
    by : ((nat_eq r k ≡ true) × (r ≡ k)) ⊎ ((nat_eq r k ≡ false) × (r ≢ k)) → number_from (suc k) (counting (suc k) n) r ≡ r → (if nat_eq r k then k else number_from (suc k) (counting (suc k) n) r) ≡ r
    by (inl (t, e)) more = rw t (sym e)
    by (inr (t, differs)) more = rw t more

counting_has : (k n r : ℕ) → list_any (nat_eq r) (counting k n) ≡ (not (nat_lt r k) && nat_lt r (k + n))
counting_has k zero r = by (cases_lt r k)
  where
    by : (r < k) ⊎ (k ≤ r) → false ≡ (not (nat_lt r k) && nat_lt r (k + 0))
    by (inl lt) = rw (lt-ltb r k lt) refl
    by (inr ge) = let z : k + 0 ≤ r = omega arith in rw (le-ltb r k ge, le-ltb r (k + 0) z) refl
counting_has k (suc n) r = by (eqb_tells r k) (cases_lt r k) (counting_has (suc k) n r)
  where
    by : ((nat_eq r k ≡ true) × (r ≡ k)) ⊎ ((nat_eq r k ≡ false) × (r ≢ k)) → (r < k) ⊎ (k ≤ r) → list_any (nat_eq r) (counting (suc k) n) ≡ (not (nat_lt r (suc k)) && nat_lt r (suc k + n))
        → (nat_eq r k || list_any (nat_eq r) (counting (suc k) n)) ≡ (not (nat_lt r k) && nat_lt r (k + suc n))
    by (inl (t, e)) c more = rw (t, le-ltb r k (omega arith), lt-ltb r (k + suc n) (omega arith)) refl
    by (inr (t, differs)) (inl lt) more = rw (t, lt-ltb r k lt) (more ∙ rw (lt-ltb r (suc k) (omega arith)) refl)
    by (inr (t, differs)) (inr ge) more = let z : suc k + n ≡ k + suc n = omega arith in rw (t, le-ltb r k ge) (more ∙ rw (le-ltb r (suc k) (omega arith), z) refl)

-- ---- the whole order

count_none : (flags : List Bool) (n : ℕ) → count_set flags ≡ 0 → is_set flags n ≡ false
count_none [] n e = refl
count_none (true ∷ flags) n e = absurd (omega arith)
count_none (false ∷ flags) zero e = refl
count_none (false ∷ flags) (suc n) e = count_none flags n e

pub record Whole (graph : List (List ℕ)) (order : List ℕ) : Type 0 where
  pub is : IsOrder graph [] order
  pub has : length order ≡ length graph → (n : ℕ) → n < length graph → list_any (nat_eq n) order ≡ true

pub whole_order : (graph : List (List ℕ)) → Whole graph (order_of graph)
unfolding order_of
whole_order graph =
    let n = length graph in
    let x = found_from graph n [] (counting 0 n) (replicate n true) (numbering_starts graph (counting 0 n) (replicate n true) refl (counting_long 0 n) (counting_same n)) in
    let all : order_from graph n [] ≡ x.rest = x.parts in
    record {
      is = subst (λ o. IsOrder graph [] o) (sym all) x.is;
      has = λ long k lt. told k lt (nat_lt k n) (list_any (nat_eq k) (order_from graph n [])) (lt-ltb k n lt)
          (sym (x.numbering.waiting k) ∙ count_none x.waits k (let c = x.numbering.count in omega arith));
    }
  where
    told : (k : ℕ) → k < length graph → (b c : Bool) → b ≡ true → (b && not c) ≡ false → c ≡ true
    told k lt true true t e = refl
    told k lt true false t e = absurd (true≢false e)
    told k lt false c t e = absurd (true≢false (sym t))

-- ---- what an order has

abbrev pub Below : ℕ → List ℕ → Type 0
Below total [] = Unit {0}
Below total (n ∷ order) = (n < total) × Below total order

open_parts : (b c : Bool) → (b && not c) ≡ true → (b ≡ true) × (c ≡ false)
open_parts true false e = (refl, refl)
open_parts true true e = absurd (true≢false (sym e))
open_parts false c e = absurd (true≢false (sym e))

pub order_below : (graph : List (List ℕ)) (done order : List ℕ) → IsOrder graph done order → Below (length graph) order
order_below graph done [] is = tt
order_below graph done (n ∷ order) is = (ltb-true n (length graph) (open_parts (nat_lt n (length graph)) (list_any (nat_eq n) done) is.0).0, order_below graph (done ++ n ∷ []) order is.2)

-- none of these is among those before it
abbrev pub Apart : List ℕ → List ℕ → Type 0
Apart done [] = Unit {0}
Apart done (n ∷ order) = (list_any (nat_eq n) done ≡ false) × Apart (done ++ n ∷ []) order

pub order_apart : (graph : List (List ℕ)) (done order : List ℕ) → IsOrder graph done order → Apart done order
order_apart graph done [] is = tt
order_apart graph done (n ∷ order) is = ((open_parts (nat_lt n (length graph)) (list_any (nat_eq n) done) is.0).1, order_apart graph (done ++ n ∷ []) order is.2)

past_none : (total r : ℕ) (order : List ℕ) → Below total order → total ≤ r → list_any (nat_eq r) order ≡ false
past_none total r [] b h = refl
past_none total r (n ∷ order) b h = by (eqb_tells r n) (past_none total r order b.1 h)
  where
    by : ((nat_eq r n ≡ true) × (r ≡ n)) ⊎ ((nat_eq r n ≡ false) × (r ≢ n)) → list_any (nat_eq r) order ≡ false → (nat_eq r n || list_any (nat_eq r) order) ≡ false
    by (inl (t, e)) more = let l = b.0 in absurd (omega arith)
    by (inr (t, differs)) more = rw t more

absent : (k : ℕ) (order : List ℕ) (m : ℕ) → list_any (nat_eq m) order ≡ false → number_from k order m ≡ m
absent k [] m e = refl
absent k (o ∷ order) m e = by (nat_eq m o) e (absent (suc k) order m)
  where
    by : (b : Bool) → (b || list_any (nat_eq m) order) ≡ false → (list_any (nat_eq m) order ≡ false → number_from (suc k) order m ≡ m) → (if b then k else number_from (suc k) order m) ≡ m
    by true e more = absurd (true≢false e)
    by false e more = more e

pub number_within : (k : ℕ) (done rest : List ℕ) (m : ℕ) → list_any (nat_eq m) done ≡ true → number_from k (done ++ rest) m < k + length done
number_within k [] rest m e = absurd (true≢false (sym e))
number_within k (o ∷ done) rest m e = by (nat_eq m o) e (number_within (suc k) done rest m)
  where
    by : (b : Bool) → (b || list_any (nat_eq m) done) ≡ true → (list_any (nat_eq m) done ≡ true → number_from (suc k) (done ++ rest) m < suc k + length done) → (if b then k else number_from (suc k) (done ++ rest) m) < k + length (o ∷ done)
    by true e more = omega arith
    by false e more = let h = more e in omega arith

-- ---- references to lower numbers alone

-- a number that a definition has, but none below this one
abbrev pub is_late : ℕ → ℕ → ℕ → Bool
is_late total k r = nat_lt r total && not (nat_lt r k)

abbrev pub IsLow : ℕ → ℕ → List (List ℕ) → Type 0
IsLow total k [] = Unit {0}
IsLow total k (all ∷ graph) = (list_any (is_late total k) all ≡ false) × IsLow total (suc k) graph

none_mapped : (p q : ℕ → Bool) (f : ℕ → ℕ) (xs : List ℕ) → ((r : ℕ) → q r ≡ false → p (f r) ≡ false) → list_any q xs ≡ false → list_any p (map f xs) ≡ false
none_mapped p q f [] h e = refl
none_mapped p q f (x ∷ xs) h e = by (q x) refl e (none_mapped p q f xs h)
  where
    by : (b : Bool) → q x ≡ b → (b || list_any q xs) ≡ false → (list_any q xs ≡ false → list_any p (map f xs) ≡ false) → (p (f x) || list_any p (map f xs)) ≡ false
    by true is e more = absurd (true≢false e)
    by false is e more = rw (h x is) (more e)

module _ (graph : List (List ℕ)) (order : List ℕ) (below : Below (length graph) order) where
  late_none : (done rest : List ℕ) → order ≡ done ++ rest → (r : ℕ) → is_open graph done r ≡ false → is_late (length graph) (length done) (number_of order r) ≡ false
  late_none done rest parts r e = by (nat_lt r (length graph)) (list_any (nat_eq r) done) refl refl e
    where
      by : (b c : Bool) → nat_lt r (length graph) ≡ b → list_any (nat_eq r) done ≡ c → (b && not c) ≡ false → is_late (length graph) (length done) (number_of order r) ≡ false
      by true true t is e =
          let h : number_from 0 (done ++ rest) r < 0 + length done = number_within 0 done rest r is in
          let low : number_of order r < length done = (let k : number_of order r ≡ number_from 0 (done ++ rest) r = ap (λ o. number_from 0 o r) parts in omega arith) in
          rw (lt-ltb (number_of order r) (length done) low) (ends (nat_lt (number_of order r) (length graph)))
        where
          ends : (b : Bool) → (b && false) ≡ false
          ends true = refl
          ends false = refl
      by true false t is e = absurd (true≢false e)
      by false c t is e = rw (absent 0 order r (past_none (length graph) r order below (ltb-false r (length graph) t)), t) refl

  -- the references of definitions in their order, by their numbers
  pub order_low : (done rest : List ℕ) → order ≡ done ++ rest → IsOrder graph done rest → IsLow (length graph) (length done) (map (λ n. map (number_of order) (get_or graph n [])) rest)
  order_low done [] parts is = tt
  order_low done (n ∷ rest) parts is =
      let next : order ≡ (done ++ n ∷ []) ++ rest = parts ∙ sym (append_assoc done (n ∷ []) rest) in
      let long : length (done ++ n ∷ []) ≡ suc (length done) = (let l = length-append done (n ∷ []) in omega arith) in (
        none_mapped (is_late (length graph) (length done)) (is_open graph done) (number_of order) (get_or graph n []) (late_none done (n ∷ rest) parts) is.1,
        subst (λ k. IsLow (length graph) k (map (λ n. map (number_of order) (get_or graph n [])) rest)) long (order_low (done ++ n ∷ []) rest next is.2),
      )

-- ---- such definitions keep their order

module _ (waits : ℕ → Bool) (total k : ℕ) (here : waits k ≡ true) (late : (r : ℕ) → waits r ≡ is_late total k r) where
  late_is : waits ≡ is_late total k
  late_is = λ i r. late r i

  pub next_low : (j : ℕ) (graph : List (List ℕ)) → j ≤ k → k < j + length graph → IsLow total j graph → next_from waits j graph ≡ Some k
  next_low j [] h lt low = absurd (omega arith)
  next_low j (all ∷ graph) h lt low = by (cases_eq j k) (λ g l. next_low (suc j) graph g l low.1)
    where
      by : (j ≡ k) ⊎ (j ≡ k → ⊥) → (suc j ≤ k → k < suc j + length graph → next_from waits (suc j) graph ≡ Some k) → (if waits j && not (list_any waits all) then Some j else next_from waits (suc j) graph) ≡ Some k
      by (inl e) more =
          let none : list_any waits all ≡ false = ap (λ (w : ℕ → Bool). list_any w all) late_is ∙ ap (λ n. list_any (is_late total n) all) (sym e) ∙ low.0 in
          rw (ap waits e ∙ here, none) (ap (λ (n : ℕ). Some n) e)
      by (inr differs) more =
          let early : waits j ≡ false = late j ∙ rw (lt-ltb j k (omega arith)) (ends (nat_lt j total)) in
          rw early (more (omega arith) (omega arith))
        where
          ends : (b : Bool) → (b && false) ≡ false
          ends true = refl
          ends false = refl

module _ (graph : List (List ℕ)) (low : IsLow (length graph) 0 graph) where
  open_late : (k r : ℕ) → k ≤ length graph → is_open graph (counting 0 k) r ≡ is_late (length graph) k r
  open_late k r h = let z : 0 + k ≡ k = omega arith in ap (λ b. nat_lt r (length graph) && not b) (counting_has 0 k r ∙ first (nat_lt r (0 + k)) ∙ ap (nat_lt r) z)
    where
      first : (b : Bool) → (not (nat_lt r 0) && b) ≡ b
      first b = rw (le-ltb r 0 (omega arith)) refl

  counts_from : (steps k : ℕ) → k + steps ≡ length graph → order_from graph steps (counting 0 k) ≡ counting 0 (length graph)
  unfolding order_from
  counts_from zero k e = let z : k ≡ length graph = omega arith in ap (counting 0) z
  counts_from (suc steps) k e =
      let here : is_open graph (counting 0 k) k ≡ true = open_late k k (omega arith) ∙ rw (lt-ltb k (length graph) (omega arith), le-ltb k k (omega arith)) refl in
      let next : next_from (is_open graph (counting 0 k)) 0 graph ≡ Some k = next_low (is_open graph (counting 0 k)) (length graph) k here (λ r. open_late k r (omega arith)) 0 graph (omega arith) (omega arith) low in
      let z : 0 + k ≡ k = omega arith in
      let more : counting 0 k ++ k ∷ [] ≡ counting 0 (suc k) = ap (λ x. counting 0 k ++ x ∷ []) (sym z) ∙ sym (counting_more 0 k) in
      ap (go_on (order_from graph steps) (counting 0 k)) next ∙ ap (order_from graph steps) more ∙ counts_from steps (suc k) (omega arith)

  -- definitions that refer to lower ones alone are numbered as they stand
  pub low_order : order_of graph ≡ counting 0 (length graph)
  unfolding order_of
  low_order = counts_from (length graph) 0 (omega arith)
