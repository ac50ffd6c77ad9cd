-- The nearest of numbers.
use Rattle.std.proofs.Common.{◌≡◌, ◌∙◌, refl, sym, ap, subst, ℕ, ◌+◌, ◌<◌, ◌≤◌, ◌⊎◌, inl, inr, List, [], ◌∷◌, ◌++◌, length, take, get_or, Vec, arith}
use Rattle.std.specs.Prelude.{Option, Some, None}
use Rattle.std.specs.Global.{Global}
use Rattle.std.specs.List.{Contains}
use Rattle.std.proofs.lemmas.Bool.{cases_lt}
use Rattle.std.proofs.lemmas.Option.{none-some}
use Rattle.std.proofs.lemmas.List.{get_or_push, get_or_append_left, get_or_past, length_push, take_more}
use Rattle.std.proofs.lemmas.List.Elements.{Contains-append_left, Contains-append_right}
use Rattle.no_calls.specs.Rows.{row}
use Rattle.no_calls.specs.Nearest.{AreNearest, Comes, IsNearest, IsNotAfter, near_at}
use Rattle.no_calls.specs.Spreading.{Reason, at}
use Rattle.no_calls.proofs.Finding.{more_cases, nothing, one}
use Rattle.no_calls.proofs.Tables.{row_past}

-- what comes before a nearest number comes before all of its kind
comes_all : (P : ℕ → Type 0) (far : List (Option ℕ)) (x y : Option (ℕ × ℕ)) → Comes x y → IsNearest P far y → (k d : ℕ) → P k → at far k ≡ Some d → Comes x (Some (d, k))
comes_all P far x None c near k d p e = absurd (near k d p e)
comes_all P far None (Some y) c near k d p e = absurd c
comes_all P far (Some x) (Some y) c near k d p e = after x y (d, k) c (near.2 k d p e)
  where
    after : (x y z : ℕ × ℕ) → IsNotAfter x y → IsNotAfter y z → IsNotAfter x z
    after x y z (inl a) (inl b) = inl (omega arith)
    after x y z (inl a) (inr b) = inl (omega (arith, b.0))
    after x y z (inr a) (inl b) = inl (omega (arith, a.0))
    after x y z (inr a) (inr b) = inr (a.0 ∙ b.0, omega (arith, a.1, b.1))

-- a number that comes before all, and is one of them
nearest_is : (P : ℕ → Type 0) (far : List (Option ℕ)) (x : Option (ℕ × ℕ)) → ((k d : ℕ) → P k → at far k ≡ Some d → Comes x (Some (d, k))) → ((y : ℕ × ℕ) → x ≡ Some y → P y.1 × (at far y.1 ≡ Some y.0)) → IsNearest P far x
nearest_is P far None all is = λ k d p e. all k d p e
nearest_is P far (Some x) all is = ((is x refl).0, (is x refl).1, λ k d p e. all k d p e)

is_there : (P : ℕ → Type 0) (far : List (Option ℕ)) (x : Option (ℕ × ℕ)) → IsNearest P far x → (y : ℕ × ℕ) → x ≡ Some y → P y.1 × (at far y.1 ≡ Some y.0)
is_there P far None near y e = absurd (none-some y e)
is_there P far (Some x) near y e = subst (λ (o : Option (ℕ × ℕ)). Holds o) e (near.0, near.1)
  where
    Holds : Option (ℕ × ℕ) → Type 0
    Holds None = Unit {0}
    Holds (Some z) = P z.1 × (at far z.1 ≡ Some z.0)

-- the first of two is the nearest of both kinds
pub nearest_either : (P Q R : ℕ → Type 0) (far : List (Option ℕ)) (x y r : Option (ℕ × ℕ)) → ((k : ℕ) → R k → P k ⊎ Q k) → ((k : ℕ) → P k → R k) → ((k : ℕ) → Q k → R k) → (r ≡ x) ⊎ (r ≡ y) → Comes r x → Comes r y → IsNearest P far x → IsNearest Q far y → IsNearest R far r
nearest_either P Q R far x y r parts left right one' first second near_x near_y =
    nearest_is R far r
    (λ k d p e. elim (parts k p) [ inl a ↦ comes_all P far r x first near_x k d a e | inr b ↦ comes_all Q far r y second near_y k d b e ])
    (λ z e. elim one' [
      | inl same ↦ let h : P z.1 × (at far z.1 ≡ Some z.0) = is_there P far x near_x z (sym same ∙ e) in (left z.1 h.0, h.1)
      | inr same ↦ let h : Q z.1 × (at far z.1 ≡ Some z.0) = is_there Q far y near_y z (sym same ∙ e) in (right z.1 h.0, h.1)
    ])

pub nearest_more : (ks : List ℕ) (i : ℕ) (far : List (Option ℕ)) (x y r : Option (ℕ × ℕ)) → i < length ks → (r ≡ x) ⊎ (r ≡ y) → Comes r x → Comes r y → IsNearest (Contains (take i ks)) far x → IsNearest (λ k. k ≡ get_or ks i 0) far y → IsNearest (Contains (take (i + 1) ks)) far r
nearest_more ks i far x y r lt one' first second near_x near_y =
    nearest_either (Contains (take i ks)) (λ k. k ≡ get_or ks i 0) (Contains (take (i + 1) ks)) far x y r
    (λ k h. more_cases ks i k lt h)
    (λ k h. subst (λ (l : List ℕ). Contains l k) (sym (take_more ks i 0 lt)) (Contains-append_left (take i ks) (get_or ks i 0 ∷ []) k h))
    (λ k e. more_last ks i k lt e) one' first second near_x near_y
  where
    more_last : (ks : List ℕ) (i k : ℕ) → i < length ks → k ≡ get_or ks i 0 → Contains (take (i + 1) ks) k
    more_last ks i k lt e = subst (λ (l : List ℕ). Contains l k) (sym (take_more ks i 0 lt)) (last (take i ks) k (get_or ks i 0) e)
      where
        last : (xs : List ℕ) (k x : ℕ) → k ≡ x → Contains (xs ++ x ∷ []) k
        last xs k x e = (length xs, omega (arith, length_push xs x), get_or_push xs x k (length xs) refl ∙ sym e)

pub nearest_sets : (sets : List ℕ) (i : ℕ) (members : List (Vec ℕ Global)) (far : List (Option ℕ)) (x y r : Option (ℕ × ℕ)) → i < length sets → (r ≡ x) ⊎ (r ≡ y) → Comes r x → Comes r y → IsNearest (Reason (take i sets) members) far x
    → IsNearest (Contains (row members (get_or sets i 0))) far y → IsNearest (Reason (take (i + 1) sets) members) far r
nearest_sets sets i members far x y r lt one' first second near_x near_y =
    nearest_either (Reason (take i sets) members) (Contains (row members (get_or sets i 0))) (Reason (take (i + 1) sets) members) far x y r
    (λ k (s, there, in'). elim (more_cases sets i s lt there) [
      | inl early ↦ inl (s, early, in')
      | inr same ↦ inr (subst (λ (j : ℕ). Contains (row members j) k) same in')
    ])
    (λ k (s, there, in'). (s, subst (λ (l : List ℕ). Contains l s) (sym (take_more sets i 0 lt)) (Contains-append_left (take i sets) (get_or sets i 0 ∷ []) s there), in'))
    (λ k in'. (get_or sets i 0, subst (λ (l : List ℕ). Contains l (get_or sets i 0)) (sym (take_more sets i 0 lt)) (Contains-append_right (take i sets) (get_or sets i 0 ∷ []) (get_or sets i 0) (one (get_or sets i 0))), in'))
    one' first second near_x near_y

pub nearest_none : (P : ℕ → Type 0) (far : List (Option ℕ)) → ((k : ℕ) → P k → ⊥) → IsNearest P far None
nearest_none P far no' = λ k d p e. no' k p

pub nearest_same : (P Q : ℕ → Type 0) (far : List (Option ℕ)) (x : Option (ℕ × ℕ)) → ((k : ℕ) → P k → Q k) → ((k : ℕ) → Q k → P k) → IsNearest P far x → IsNearest Q far x
nearest_same P Q far None to from near = λ k d q e. near k d (from k q) e
nearest_same P Q far (Some x) to from near = (to x.1 near.0, near.1, λ k d q e. near.2 k d (from k q) e)

pub nearest_entry : (members : List (Vec ℕ Global)) (far : List (Option ℕ)) (near : List (Option (ℕ × ℕ))) (s : ℕ) (x : Option (ℕ × ℕ)) → x ≡ near_at near s → AreNearest members far near → IsNearest (Contains (row members s)) far x
nearest_entry members far near s x is are = subst (λ (o : Option (ℕ × ℕ)). IsNearest (Contains (row members s)) far o) (sym is) (are s)

pub near_more : (members : List (Vec ℕ Global)) (far : List (Option ℕ)) (near new : List (Option (ℕ × ℕ))) (i : ℕ) (x : Option (ℕ × ℕ)) (ks : List ℕ) → length near ≡ i → new ≡ near ++ x ∷ [] → ks ≡ row members i → IsNearest (Contains ks) far x
    → ((s : ℕ) → s < i → IsNearest (Contains (row members s)) far (near_at near s)) → (s : ℕ) → s < i + 1 → IsNearest (Contains (row members s)) far (near_at new s)
near_more members far near new i x ks wide is these here before s lt = elim (cases_lt s i) [
  | inl early ↦
      let within : s < length near = omega (arith, wide) in
      let same : near_at near s ≡ near_at new s = sym (ap (λ (l : List (Option (ℕ × ℕ))). near_at l s) is ∙ get_or_append_left near (x ∷ []) None s within) in
      subst (λ (o : Option (ℕ × ℕ)). IsNearest (Contains (row members s)) far o) same (before s early)
  | inr past ↦
      let e : i ≡ s = omega arith in
      let same : x ≡ near_at new i = sym (ap (λ (l : List (Option (ℕ × ℕ))). near_at l i) is ∙ get_or_push near x None i wide) in
      subst (λ (j : ℕ). IsNearest (Contains (row members j)) far (near_at new j)) e (subst (λ (o : Option (ℕ × ℕ)). IsNearest (Contains (row members i)) far o) same (subst (λ (l : List ℕ). IsNearest (Contains l) far x) these here))
]

pub near_all : (members : List (Vec ℕ Global)) (far : List (Option ℕ)) (near : List (Option (ℕ × ℕ))) (i : ℕ) → length members ≤ i → length near ≡ i → ((s : ℕ) → s < i → IsNearest (Contains (row members s)) far (near_at near s)) → AreNearest members far near
near_all members far near i all wide before s = elim (cases_lt s i) [
  | inl lt ↦ before s lt
  | inr past ↦ subst (λ (o : Option (ℕ × ℕ)). IsNearest (Contains (row members s)) far o) (sym (get_or_past near s None (omega (arith, wide))))
      (nearest_none (Contains (row members s)) far (λ k h. nothing k (subst (λ (l : List ℕ). Contains l k) (row_past members s (omega arith)) h)))
]
