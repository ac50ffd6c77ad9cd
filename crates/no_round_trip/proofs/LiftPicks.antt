-- Definitions in the order of their numbers: their names, and the place of each.
use Rattle.std.proofs.Common.{◌≡◌, ℕ, suc, zero, ◌<◌, ◌≤◌, ◌+◌, Bool, true, false, ◌||◌, ◌≢◌, ◌⊎◌, inl, inr, nat_eq, nat_lt, List, [], ◌∷◌, ◌++◌, length, get_or, map, bytes_eq, position, slice_get, Option, Some, None, if◌then◌else◌, refl, sym, ap, subst, ◌∙◌, arith, true≢false, append_assoc, append-nil}
use Rattle.std.specs.List.{list_any, position_or_len}
use Rattle.std.proofs.lemmas.Bool.{cases_lt, lt-ltb}
use Rattle.std.proofs.lemmas.Bool.Decides.{eqb_tells}
use Rattle.std.proofs.lemmas.List.{map-append, length-map}
use Rattle.std.proofs.lemmas.List.Folds.{list_any-append}
use Rattle.std.proofs.lemmas.List.Quantifiers.{position-Some}
use Rattle.std.proofs.lemmas.Option.{get_or_from_slice_get, slice_get-map}
use Rattle.std.proofs.lemmas.Slice.Eq.{bytes_eq-Decides}
use Rattle.no_ir.specs.Naming.{is_known}
use Rattle.no_read_types.specs.declared.definition.Definition.{Definition}
use Rattle.no_read_types.specs.Graph.{number_from, number_of}
use Rattle.no_read_types.specs.Lifted.{as_list, picked, names_with}
use Rattle.no_round_trip.proofs.RuleFound.{same_bytes}
use Rattle.no_round_trip.proofs.LiftOrders.{Below, Apart, number_within}
use Rattle.no_round_trip.proofs.LiftRenaming.{Renames}

abbrev pub name_of : Definition → List ℕ
name_of d = d.name

-- ---- new names

-- each of these is new behind those before it
abbrev pub EachNew : List (List ℕ) → List (List ℕ) → Type 0
EachNew names [] = Unit {0}
EachNew names (x ∷ xs) = (is_known names x ≡ false) × EachNew (names ++ x ∷ []) xs

pub names_added : (names : List (List ℕ)) (ds : List Definition) → EachNew names (map name_of ds) → names_with names ds ≡ names ++ map name_of ds
names_added names [] e = sym (append-nil names)
names_added names (d ∷ ds) e = ap (λ b. names_with (if b then names else names ++ d.name ∷ []) ds) e.0 ∙ names_added (names ++ d.name ∷ []) ds e.1 ∙ append_assoc names (d.name ∷ []) (map name_of ds)

known_more : (names : List (List ℕ)) (x y : List ℕ) → is_known names x ≡ true → is_known (names ++ y ∷ []) x ≡ true
known_more names x y e = list_any-append (bytes_eq x) names (y ∷ []) ∙ ap (λ b. b || (bytes_eq x y || false)) e

known_last : (names : List (List ℕ)) (x : List ℕ) → is_known (names ++ x ∷ []) x ≡ true
known_last names x = list_any-append (bytes_eq x) names (x ∷ []) ∙ ap (λ b. is_known names x || (b || false)) (same_bytes x) ∙ ends (is_known names x)
  where
    ends : (b : Bool) → (b || true) ≡ true
    ends true = refl
    ends false = refl

known_later : (names xs : List (List ℕ)) (x : List ℕ) (j : ℕ) → EachNew names xs → is_known names x ≡ true → j < length xs → get_or xs j [] ≡ x → ⊥
known_later names [] x j e k lt is = absurd (omega arith)
known_later names (y ∷ xs) x zero e k lt is = true≢false (sym k ∙ ap (is_known names) (sym is) ∙ e.0)
known_later names (y ∷ xs) x (suc j) e k lt is = known_later (names ++ y ∷ []) xs x j e.1 (known_more names x y k) (omega arith) is

new_apart : (names xs : List (List ℕ)) (i j : ℕ) → EachNew names xs → i < j → j < length xs → get_or xs i [] ≡ get_or xs j [] → ⊥
new_apart names [] i j e h lt is = absurd (omega arith)
new_apart names (x ∷ xs) i zero e h lt is = absurd (omega arith)
new_apart names (x ∷ xs) zero (suc j) e h lt is = known_later (names ++ x ∷ []) xs x j e.1 (known_last names x) (omega arith) (sym is)
new_apart names (x ∷ xs) (suc i) (suc j) e h lt is = new_apart (names ++ x ∷ []) xs i j e.1 (omega arith) (omega arith) is

-- ---- the names in an order

module _ (names : List (List ℕ)) (new : EachNew [] names) where
  abbrev at : ℕ → List ℕ
  at n = get_or names n []

  one_place : (i j : ℕ) → i < length names → j < length names → at i ≡ at j → i ≡ j
  one_place i j a b e = by (cases_lt i j) (cases_lt j i)
    where
      by : (i < j) ⊎ (j ≤ i) → (j < i) ⊎ (i ≤ j) → i ≡ j
      by (inl lt) c = absurd (new_apart [] names i j new lt b e)
      by (inr ge) (inl lt) = absurd (new_apart [] names j i new lt a (sym e))
      by (inr ge) (inr le) = omega arith

  same_test : (n m : ℕ) → n < length names → m < length names → bytes_eq (at n) (at m) ≡ nat_eq n m
  same_test n m a b = by (eqb_tells n m) (bytes_eq (at n) (at m)) refl
    where
      by : ((nat_eq n m ≡ true) × (n ≡ m)) ⊎ ((nat_eq n m ≡ false) × (n ≢ m)) → (x : Bool) → bytes_eq (at n) (at m) ≡ x → x ≡ nat_eq n m
      by (inl (t, e)) x is = sym is ∙ ap (λ k. bytes_eq (at n) (at k)) (sym e) ∙ same_bytes (at n) ∙ sym t
      by (inr (t, differs)) true is = absurd (differs (one_place n m a b ((bytes_eq-Decides (at n) (at m)).0 is)))
      by (inr (t, differs)) false is = sym t

  known_is : (n : ℕ) (done : List ℕ) → n < length names → Below (length names) done → is_known (map at done) (at n) ≡ list_any (nat_eq n) done
  known_is n [] a b = refl
  known_is n (m ∷ done) a b = let x = same_test n m a b.0 in let y = known_is n done a b.1 in λ i. x i || y i

  -- names of definitions in an order are new
  pub order_new : (done order : List ℕ) → Below (length names) done → Below (length names) order → Apart done order → EachNew (map at done) (map at order)
  order_new done [] a b c = tt
  order_new done (n ∷ order) a b c = (
    known_is n done b.0 a ∙ c.0,
    subst (λ l. EachNew l (map at order)) (map-append at done (n ∷ [])) (order_new (done ++ n ∷ []) order (below_more done a) b.1 c.1),
  )
    where
      below_more : (done : List ℕ) → Below (length names) done → Below (length names) (done ++ n ∷ [])
      below_more [] a = (b.0, tt)
      below_more (m ∷ done) a = (a.0, below_more done a.1)

  place_from : (n : ℕ) → n < length names → (k : ℕ) (order : List ℕ) → Below (length names) order → list_any (nat_eq n) order ≡ true → k + position_or_len (bytes_eq (at n)) (map at order) ≡ number_from k order n
  place_from n lt k [] b e = absurd (true≢false (sym e))
  place_from n lt k (m ∷ order) b e = by (nat_eq n m) (same_test n m lt b.0) e (place_from n lt (suc k) order b.1)
    where
      by : (x : Bool) → bytes_eq (at n) (at m) ≡ x → (x || list_any (nat_eq n) order) ≡ true → (list_any (nat_eq n) order ≡ true → suc k + position_or_len (bytes_eq (at n)) (map at order) ≡ number_from (suc k) order n)
          → k + position_or_len (bytes_eq (at n)) (at m ∷ map at order) ≡ (if x then k else number_from (suc k) order n)
      by true is e more = rw is (omega arith)
      by false is e more = let h = more e in rw is (omega arith)

  module _ (order : List ℕ) (below : Below (length names) order) (has : (n : ℕ) → n < length names → list_any (nat_eq n) order ≡ true) where
    place : (n : ℕ) → n < length names → position (bytes_eq (at n)) (map at order) ≡ Some (number_of order n)
    place n lt =
        let here = has n lt in
        let p : 0 + position_or_len (bytes_eq (at n)) (map at order) ≡ number_of order n = place_from n lt 0 order below here in
        let q : position_or_len (bytes_eq (at n)) (map at order) ≡ number_of order n = omega arith in
        let w : number_from 0 (order ++ []) n < 0 + length order = number_within 0 order [] n here in
        let v : number_from 0 (order ++ []) n ≡ number_of order n = ap (λ o. number_from 0 o n) (append-nil order) in
        let long : length (map at order) ≡ length order = length-map order at in
        rw (q, lt-ltb (number_of order n) (length (map at order)) (omega arith)) refl

    -- what a name had as its number by the text has its number by the order
    pub order_renames : Renames (number_of order) names (map at order)
    order_renames name n e =
        let p = position-Some (bytes_eq name) names n [] e in
        let is : name ≡ at n = (bytes_eq-Decides name (at n)).0 p.1 in
        ap (λ x. position (bytes_eq x) (map at order)) is ∙ place n p.0

-- ---- definitions in an order

pub got : {X : Type 0} (xs : List X) (n : ℕ) → n < length xs → (x : X) × (slice_get xs n ≡ Some x)
got [] n h = absurd (omega arith)
got (x ∷ xs) zero h = (x, refl)
got (x ∷ xs) (suc n) h = got xs n (omega arith)

-- what is made of the definitions in an order
pub picks_are : {X : Type 0} (g : Definition → X) (z : X) (defined : List Definition) (order : List ℕ) → Below (length defined) order → map g (picked defined order) ≡ map (λ n. get_or (map g defined) n z) order
picks_are g z defined [] b = refl
picks_are g z defined (n ∷ order) b =
    let x = got defined n b.0 in
    let at : slice_get (map g defined) n ≡ Some (g x.0) = slice_get-map g defined n ∙ ap (λ o. elim o [ None ↦ None | Some d ↦ Some (g d) ]) x.1 in
    let first : get_or (map g defined) n z ≡ g x.0 = get_or_from_slice_get (map g defined) n (g x.0) z at in
    let more = picks_are g z defined order b.1 in
    ap (λ o. map g (as_list o ++ picked defined order)) x.1 ∙ (λ i. (sym first) i ∷ more i)

-- this holds of each
abbrev pub Holds : (Definition → Type 0) → List Definition → Type 0
Holds P [] = Unit {0}
Holds P (d ∷ ds) = P d × Holds P ds

holds_at : (P : Definition → Type 0) (ds : List Definition) (n : ℕ) (d : Definition) → Holds P ds → slice_get ds n ≡ Some d → P d
holds_at P [] n d h e = absurd cc
holds_at P (x ∷ ds) zero d h e = subst P (from_some x d e) h.0
  where
    from_some : (x y : Definition) → Some x ≡ Some y → x ≡ y
    from_some x y e = cc
holds_at P (x ∷ ds) (suc n) d h e = holds_at P ds n d h.1 e

-- what holds of each definition holds of each in an order
pub picks_hold : (P : Definition → Type 0) (defined : List Definition) → Holds P defined → (order : List ℕ) → Holds P (picked defined order)
picks_hold P defined h [] = tt
picks_hold P defined h (n ∷ order) = by (slice_get defined n) refl (picks_hold P defined h order)
  where
    by : (o : Option Definition) → slice_get defined n ≡ o → Holds P (picked defined order) → Holds P (as_list o ++ picked defined order)
    by None e more = more
    by (Some d) e more = (holds_at P defined n d h e, more)
