-- The order in which type definitions get their numbers: each has a place of its own, behind all that it refers to.
use Rattle.std.proofs.Common.{◌≡◌, ◌<◌, ◌≤◌, ℕ, suc, zero, ◌+◌, Bool, true, false, not, ◌&&◌, ◌||◌, nat_lt, nat_eq, List, [], ◌∷◌, ◌++◌, length, get_or, slice_get, map, if◌then◌else◌, Option, Some, None, refl, sym, ap, subst, ◌∙◌, arith, true≢false, append_assoc, append-nil}
use Rattle.std.specs.List.{list_any}
use Rattle.no_read_types.specs.Graph.{is_open, next_from, go_on, order_from, order_of}

-- what comes next is open, and refers to none that is
pub record Ready (graph : List (List ℕ)) (done : List ℕ) (n : ℕ) : Type 0 where
  pub opened : is_open graph done n ≡ true
  pub refers : list_any (is_open graph done) (get_or graph n []) ≡ false

abbrev pub Follows : List (List ℕ) → List ℕ → List ℕ → Type 0
Follows graph done [] = Unit {0}
Follows graph done (n ∷ order) = Ready graph done n × Follows graph (done ++ n ∷ []) order

next_is_ready : (waits : ℕ → Bool) (k : ℕ) (graph : List (List ℕ)) (n : ℕ) → next_from waits k graph ≡ Some n → (j : ℕ) × (n ≡ k + j) × (waits n ≡ true) × (list_any waits (get_or graph j []) ≡ false)
next_is_ready waits k [] n e = absurd cc
next_is_ready waits k (all ∷ graph) n e = by (waits k) (list_any waits all) refl refl e (next_is_ready waits (suc k) graph n)
  where
    same : Some k ≡ Some n → k ≡ n
    same q = cc

    later : ((j : ℕ) × (n ≡ suc k + j) × (waits n ≡ true) × (list_any waits (get_or graph j []) ≡ false)) → (j : ℕ) × (n ≡ k + j) × (waits n ≡ true) × (list_any waits (get_or (all ∷ graph) j []) ≡ false)
    later x = (suc x.0, x.1 ∙ (let z : suc k + x.0 ≡ k + suc x.0 = omega arith in z), x.2, x.3)

    by : (b c : Bool) → waits k ≡ b → list_any waits all ≡ c → (if b && not c then Some k else next_from waits (suc k) graph) ≡ Some n
        → (next_from waits (suc k) graph ≡ Some n → (j : ℕ) × (n ≡ suc k + j) × (waits n ≡ true) × (list_any waits (get_or graph j []) ≡ false))
        → (j : ℕ) × (n ≡ k + j) × (waits n ≡ true) × (list_any waits (get_or (all ∷ graph) j []) ≡ false)
    by true false w r q more = let z : k + 0 ≡ k = omega arith in (0, sym (same q) ∙ sym z, subst (λ (i : ℕ). waits i ≡ true) (same q) w, r)
    by true true w r q more = later (more q)
    by false c w r q more = later (more q)

module _ (graph : List (List ℕ)) where
  pushed : (done order : List ℕ) (n : ℕ) → Follows graph done order → Ready graph (done ++ order) n → Follows graph done (order ++ n ∷ [])
  pushed done [] n f r = (subst (λ (d : List ℕ). Ready graph d n) (append-nil done) r, tt)
  pushed done (m ∷ order) n f r = (f.0, pushed (done ++ m ∷ []) order n f.1 (subst (λ (d : List ℕ). Ready graph d n) (sym (append_assoc done (m ∷ []) order)) r))

  goes : (steps : ℕ) (order : List ℕ) → Follows graph [] order → Follows graph [] (order_from graph steps order)
  unfolding order_from
  goes zero order f = f
  goes (suc steps) order f = by (next_from (is_open graph order) 0 graph) refl (λ o. goes steps o)
    where
      by : (o : Option ℕ) → next_from (is_open graph order) 0 graph ≡ o → ((l : List ℕ) → Follows graph [] l → Follows graph [] (order_from graph steps l)) → Follows graph [] (go_on (order_from graph steps) order o)
      by None e more = f
      by (Some n) e more = more (order ++ n ∷ []) (pushed [] order n f (ready (next_is_ready (is_open graph order) 0 graph n e)))
        where
          ready : ((j : ℕ) × (n ≡ 0 + j) × (is_open graph order n ≡ true) × (list_any (is_open graph order) (get_or graph j []) ≡ false)) → Ready graph order n
          ready x = record { opened = x.2; refers = subst (λ (i : ℕ). list_any (is_open graph order) (get_or graph i []) ≡ false) (sym (x.1 ∙ zeros x.0)) x.3 }
            where
              zeros : (j : ℕ) → 0 + j ≡ j
              zeros j = omega arith

  pub order_follows : Follows graph [] (order_of graph)
  unfolding order_of
  order_follows = goes (length graph) [] tt
