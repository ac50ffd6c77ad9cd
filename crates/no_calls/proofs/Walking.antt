-- A walk to the nearest goal, step by step.
use Rattle.std.proofs.Common.{◌≡◌, ◌∙◌, refl, sym, ap, subst, ℕ, ◌+◌, ◌<◌, inl, inr, true, false, List, [], ◌∷◌, ◌++◌, length, Vec, arith, append_assoc, append-nil}
use Rattle.std.specs.Prelude.{Option, Some, None, is_some, slice_index}
use Rattle.std.specs.Global.{Global}
use Rattle.std.specs.List.{Contains}
use Rattle.std.proofs.lemmas.Bool.{cases_lt, cases_eq, false≢true, true≢false}
use Rattle.std.proofs.lemmas.Option.{none-some}
use Rattle.std.proofs.lemmas.List.{get_or_push, get_or_append_left, length_push}
use Rattle.std.proofs.lemmas.List.Elements.{Contains-append_left, Contains-get_or, Contains-push, Contains-push_cases}
use Rattle.no_calls.specs.Nearest.{IsNearest}
use Rattle.no_calls.specs.Rows.{row}
use Rattle.no_calls.specs.Reaching.{IsRising, IsShortest}
use Rattle.no_calls.specs.Spreading.{IsFound, IsListedTo, Reason, Step, Towards, at}
use Rattle.no_calls.proofs.Finding.{nothing}
use Rattle.no_calls.proofs.Nearer.{nearest_same}
use Rattle.no_calls.proofs.Ways.{Best, best_here, best_step, nearer_by_one, one_is_near, shortest}

-- what was gone so far leads to `here`, which is as far as is left: the best way from there completes it
pub record Gone (uses members : List (Vec ℕ Global)) (goals : List ℕ) (far : List (Option ℕ)) (from here left : ℕ) (way : List ℕ) : Type 0 where
  pub done : List ℕ
  pub split : way ≡ from ∷ done
  pub is_far : at far here ≡ Some left
  pub within : here < length uses
  pub best : (t : Towards uses members goals far) (rest : List ℕ) → Best (Step uses members) goals (length uses) far t.measured t.below here rest → Best (Step uses members) goals (length uses) far t.measured t.below from (done ++ rest)

module _ (uses members : List (Vec ℕ Global)) (goals : List ℕ) (far : List (Option ℕ)) (from : ℕ) where
  pub gone_none : (d : ℕ) (way : List ℕ) → way ≡ from ∷ [] → at far from ≡ Some d → from < length uses → Gone uses members goals far from from d way
  gone_none d way is e lt = record { done = []; split = is; is_far = e; within = lt; best = λ t rest b. b }

  near_step : (here : ℕ) (sets : List ℕ) (x : Option (ℕ × ℕ)) → sets ≡ row uses here → IsNearest (Reason sets members) far x → IsNearest (λ b. Step uses members here b) far x
  near_step here sets x is near = nearest_same (Reason sets members) (λ b. Step uses members here b) far x
      (λ k (s, there, in'). (s, subst (λ (l : List ℕ). Contains l s) is there, in'))
      (λ k (s, there, in'). (s, subst (λ (l : List ℕ). Contains l s) (sym is) there, in')) near

  pub gone_more : (here left e k : ℕ) (sets way new : List ℕ) → sets ≡ row uses here → IsNearest (Reason sets members) far (Some (e, k)) → new ≡ way ++ k ∷ [] → Towards uses members goals far → Gone uses members goals far from here (left + 1) way → Gone uses members goals far from k left new
  gone_more here left e k sets way new is near longer t gone =
      let near' : IsNearest (λ b. Step uses members here b) far (Some (e, k)) = near_step here sets (Some (e, k)) is near in
      let one : e ≡ left = nearer_by_one (Step uses members) goals (length uses) far t.measured t.below here left e k gone.is_far near' in
      record {
        done = gone.done ++ k ∷ [];
        split = longer ∙ ap (λ (l : List ℕ). l ++ k ∷ []) gone.split;
        is_far = near'.1 ∙ ap Some one;
        within = t.below here k near'.0;
        best = λ u rest b.
            subst (λ (l : List ℕ). Best (Step uses members) goals (length uses) far u.measured u.below from l) (sym (append_assoc gone.done (k ∷ []) rest))
            (gone.best u (k ∷ rest) (best_step (Step uses members) goals (length uses) far u.measured u.below here left e k rest gone.within gone.is_far near' b));
      }

  pub gone_stuck : (here left : ℕ) (sets way : List ℕ) → sets ≡ row uses here → IsNearest (Reason sets members) far None → Towards uses members goals far → Gone uses members goals far from here (left + 1) way → ⊥
  gone_stuck here left sets way is near t gone = one_is_near (Step uses members) goals (length uses) far t.measured t.below here left gone.is_far (near_step here sets None is near)

  pub gone_all : (here : ℕ) (way : List ℕ) → Towards uses members goals far → Gone uses members goals far from here 0 way → IsShortest (Step uses members) goals from (Some way)
  gone_all here way t gone =
      let b : Best (Step uses members) goals (length uses) far t.measured t.below from (gone.done ++ []) = gone.best t [] (best_here (Step uses members) goals (length uses) far t.measured t.below here gone.is_far) in
      let whole : way ≡ from ∷ (gone.done ++ []) = gone.split ∙ ap (λ (l : List ℕ). from ∷ l) (sym (append-nil gone.done)) in
      subst (λ (l : List ℕ). IsShortest (Step uses members) goals from (Some l)) (sym whole) (shortest (Step uses members) goals (length uses) far t.measured t.below from (gone.done ++ []) b)

-- ---- lists that rise

not_there : (x : Option ℕ) → is_some x ≡ false → x ≡ None
not_there None e = refl
not_there (Some d) e = absurd (true≢false e)

there_at : (x : Option ℕ) → is_some x ≡ true → (d : ℕ) × (x ≡ Some d)
there_at None e = absurd (false≢true e)
there_at (Some d) e = (d, refl)

pub rising_push : (ks : List ℕ) (x : ℕ) → IsRising ks → ((k : ℕ) → Contains ks k → k < x) → IsRising (ks ++ x ∷ [])
rising_push ks x rising less i j before within = elim (cases_lt j (length ks)) [
  | inl inside ↦ rw (get_or_append_left ks (x ∷ []) 0 i (omega arith), get_or_append_left ks (x ∷ []) 0 j inside) (rising i j before inside)
  | inr past ↦
      let last : length ks ≡ j = omega (arith, length_push ks x) in
      rw (get_or_append_left ks (x ∷ []) 0 i (omega arith), get_or_push ks x 0 j last) (less (slice_index ks i) (Contains-get_or ks i 0 (omega arith)))
]

pub listed_none : (far : List (Option ℕ)) (ks : List ℕ) → ks ≡ [] → IsListedTo far 0 ks
listed_none far ks none = record {
  rising = λ i j before within. absurd (omega (arith, ap length none));
  all = λ k lt found. absurd (omega arith);
  only = λ k h. absurd (nothing k (subst (λ (l : List ℕ). Contains l k) none h));
}

pub listed_skip : (far : List (Option ℕ)) (k : ℕ) (ks : List ℕ) → is_some (at far k) ≡ false → IsListedTo far k ks → IsListedTo far (k + 1) ks
listed_skip far k ks none so_far = record {
  rising = so_far.rising;
  all = λ j below found. elim (cases_eq j k) [
    | inl same ↦ absurd (none-some found.0 (sym (not_there (at far k) none) ∙ (ap (λ (i : ℕ). at far i) (sym same) ∙ found.1)))
    | inr other ↦ so_far.all j (omega arith) found
  ];
  only = λ j h. (omega (arith, (so_far.only j h).0), (so_far.only j h).1);
}

pub listed_add : (far : List (Option ℕ)) (k : ℕ) (ks new : List ℕ) → is_some (at far k) ≡ true → new ≡ ks ++ k ∷ [] → IsListedTo far k ks → IsListedTo far (k + 1) new
listed_add far k ks new some longer so_far = subst (λ (l : List ℕ). IsListedTo far (k + 1) l) (sym longer) added
  where
    added : IsListedTo far (k + 1) (ks ++ k ∷ [])
    added = record {
      rising = rising_push ks k so_far.rising (λ j h. (so_far.only j h).0);
      all = λ j below found. elim (cases_eq j k) [
        | inl same ↦ subst (λ (i : ℕ). Contains (ks ++ k ∷ []) i) (sym same) (Contains-push ks k)
        | inr other ↦ Contains-append_left ks (k ∷ []) j (so_far.all j (omega arith) found)
      ];
      only = λ j h. elim (Contains-push_cases ks k j h) [
        | inl was ↦ (omega (arith, (so_far.only j was).0), (so_far.only j was).1)
        | inr same ↦ (omega (arith, same), subst (λ (i : ℕ). IsFound far i) same (there_at (at far k) some))
      ];
    }
