-- Which needs are missed, and the first of their users.
use Rattle.std.proofs.Common.{◌≡◌, ℕ, ◌+◌, ◌*◌, ◌/◌, ◌%◌, ◌<◌, ◌&&◌, ◌||◌, ◌⊎◌, not, Bool, true, false, List, [], ◌∷◌, ◌++◌, slice_index, Option, Some, None, if◌then◌else◌, refl, sym, ap, ◌∙◌, subst, inl, inr, arith}
use Rattle.std.specs.List.{Contains}
use Rattle.std.proofs.lemmas.Bool.{cases_order, cases_Bool, false≢true}
use Rattle.std.proofs.lemmas.List.Elements.{Contains-append_left, Contains-append_right, Contains-push_cases}
use Rattle.std.proofs.lemmas.Option.{none-some, same_Some}
use Rattle.no_ir.specs.declared.function.Function.{Function}
use Rattle.no_verify_paths.specs.Paths.{assigned, assigned_at, assigns, code_of, IsAssignedAt, IsUnassigned, IsBefore, IsAnswer}
use Rattle.no_verify_paths.specs.Words.{has}
use Rattle.no_verify_paths.specs.Survey.{IsMissed, IsNeed}
use Rattle.no_verify_paths.specs.Judge.{IsSolved, is_missing, IsNotAfter, IsAtMost, IsEarlier, Judged}
use Rattle.no_verify_paths.specs.declared.need.Need.{Need}

-- ---- one need

not_true : (b : Bool) → not b ≡ true → b ≡ false
not_true true e = cc
not_true false e = refl

not_false : (b : Bool) → not b ≡ false → b ≡ true
not_false true e = refl
not_false false e = cc

left_false : (a b : Bool) → (a || b) ≡ false → a ≡ false
left_false true b p = p
left_false false b p = refl

right_false : (a b : Bool) → (a || b) ≡ false → b ≡ false
right_false true b p = cc
right_false false b p = p

one_of : (a b : Bool) → (a || b) ≡ true → (a ≡ true) ⊎ (b ≡ true)
one_of true b p = inl refl
one_of false b p = inr p

or_falses : (a b : Bool) → a ≡ false → b ≡ false → (a || b) ≡ false
or_falses true b p q = p
or_falses false b p q = q

or_left : (a b : Bool) → a ≡ true → (a || b) ≡ true
or_left true b p = refl
or_left false b p = cc

or_right : (a b : Bool) → b ≡ true → (a || b) ≡ true
or_right true b p = refl
or_right false b p = p

module _ (f : Function) (b r : ℕ) (before : List ℕ) where
  end_missed : (e : Bool) → assigned f before r ≡ false → (e && assigns r (code_of f b)) ≡ false → assigned f (if e then b ∷ before else before) r ≡ false
  end_missed true p q = or_falses (assigned f before r) (assigns r (code_of f b)) p q
  end_missed false p q = p

  end_met : (e : Bool) → (assigned f before r ≡ true) ⊎ ((e && assigns r (code_of f b)) ≡ true) → assigned f (if e then b ∷ before else before) r ≡ true
  end_met true (inl p) = or_left (assigned f before r) (assigns r (code_of f b)) p
  end_met true (inr q) = or_right (assigned f before r) (assigns r (code_of f b)) q
  end_met false (inl p) = p
  end_met false (inr q) = absurd (false≢true q)

module _ (f : Function) (j : ℕ) (sets gens : List ℕ) (solved : IsSolved f j sets gens) (u : Need) (stands : IsNeed f j u) where
  member : 64 * j + u.register % 64 ≡ u.register
  member = let row' : u.register / 64 ≡ j = stands.row in omega arith

  low : u.register % 64 < 64
  low = omega arith

  made : has (slice_index gens u.block) (u.register % 64) ≡ assigns u.register (code_of f u.block)
  made = solved.made u.block (u.register % 64) stands.block low ∙ ap (λ r. assigns r (code_of f u.block)) member

  pub missing_true : is_missing u sets gens ≡ true → IsMissed f u
  missing_true e =
      let none : (has (slice_index sets u.block) (u.register % 64) || (u.at_end && has (slice_index gens u.block) (u.register % 64))) ≡ false = not_true _ e in
      let (before, path, misses) = solved.missed u.block (u.register % 64) stands.block low (left_false _ _ none) in
      record {
        before = before;
        path = path;
        missed = end_missed f u.block u.register before u.at_end (subst (λ r. assigned f before r ≡ false) member misses) (ap (λ b. u.at_end && b) (sym made) ∙ right_false _ _ none);
      }

  pub missing_false : is_missing u sets gens ≡ false → IsMissed f u → ⊥
  missing_false e m =
      let some : (has (slice_index sets u.block) (u.register % 64) || (u.at_end && has (slice_index gens u.block) (u.register % 64))) ≡ true = not_false _ e in
      let met : (assigned f m.before u.register ≡ true) ⊎ ((u.at_end && assigns u.register (code_of f u.block)) ≡ true) = elim (one_of _ _ some) [
        | inl h ↦ inl (subst (λ r. assigned f m.before r ≡ true) member (solved.met m.before u.block (u.register % 64) low m.path h))
        | inr h ↦ inr (ap (λ b. u.at_end && b) (sym made) ∙ h)
      ] in
      false≢true (sym m.missed ∙ end_met f u.block u.register m.before u.at_end met)

-- ---- the first of the users

not_after_then : (x y z : ℕ × ℕ) → IsNotAfter x y → IsNotAfter y z → IsNotAfter x z
not_after_then x y z (inl a) (inl b) = inl (omega arith)
not_after_then x y z (inl a) (inr b) = inl (omega (arith, b.0))
not_after_then x y z (inr a) (inl b) = inl (omega (arith, a.0))
not_after_then x y z (inr a) (inr b) = inr (a.0 ∙ b.0, omega (arith, a.1, b.1))

at_most_under : (c : Option (ℕ × ℕ)) (y x : ℕ × ℕ) → IsAtMost c y → IsNotAfter y x → IsAtMost c x
at_most_under None y x h n = absurd h
at_most_under (Some z) y x h n = not_after_then z y x h n

at_most_then : (b c : Option (ℕ × ℕ)) (x : ℕ × ℕ) → IsAtMost b x → ((y : ℕ × ℕ) → b ≡ Some y → IsAtMost c y) → IsAtMost c x
at_most_then None c x h to = absurd h
at_most_then (Some y) c x h to = at_most_under c y x (to y refl) h

at_most_itself : (c : Option (ℕ × ℕ)) (x : ℕ × ℕ) → c ≡ Some x → IsAtMost c x
at_most_itself c x e = subst (λ o. IsAtMost o x) (sym e) (inr (refl, omega arith))

pub earlier_none : (user : ℕ × ℕ) → IsEarlier None user (Some user)
earlier_none user = record {
  from = λ x e. inr (same_Some user x e);
  below = λ x e. absurd (none-some x e);
  least = inr (refl, omega arith);
}

pub earlier_some : (first user least : ℕ × ℕ) → (least ≡ first) ⊎ (least ≡ user) → IsNotAfter least first → IsNotAfter least user → IsEarlier (Some first) user (Some least)
earlier_some first user least one a b = record {
  from = λ x e. elim one [ inl is ↦ inl (ap Some (sym is) ∙ e) | inr is ↦ inr (sym is ∙ same_Some least x e) ];
  below = λ x e. subst (λ y. IsNotAfter least y) (same_Some first x e) a;
  least = b;
}

more_to : (xs : List Need) (u v : Need) → Contains xs v ⊎ (v ≡ u) → Contains (xs ++ u ∷ []) v
more_to xs u v (inl h) = Contains-append_left xs (u ∷ []) v h
more_to xs u v (inr e) = Contains-append_right xs (u ∷ []) v (0, omega arith, sym e)

more_from : (xs : List Need) (u v : Need) → Contains (xs ++ u ∷ []) v → Contains xs v ⊎ (v ≡ u)
more_from xs u v h = elim (Contains-push_cases xs u v h) [ inl was ↦ inl was | inr same ↦ inr (sym same) ]

module _ (f : Function) where
  pub judged_hit : (u : Need) (found first : Option (ℕ × ℕ)) → IsMissed f u → IsEarlier found u.user first → Judged f (λ v. v ≡ u) found first
  judged_hit u found first missed earlier = record {
    from = λ x e. elim (earlier.from x e) [ inl was ↦ inl was | inr is ↦ inr (u, refl, missed, is) ];
    below = earlier.below;
    least = λ v e m. subst (λ (w : Need). IsAtMost first w.user) (sym e) earlier.least;
  }

  pub judged_none : (P : Need → Type 0) (found : Option (ℕ × ℕ)) → ((u : Need) → P u → IsMissed f u → ⊥) → Judged f P found found
  judged_none P found no' = record {
    from = λ x e. inl e;
    below = λ x e. at_most_itself found x e;
    least = λ u p m. absurd (no' u p m);
  }

  pub judged_then : (P Q : Need → Type 0) (a b c : Option (ℕ × ℕ)) → Judged f P a b → Judged f Q b c → Judged f (λ u. P u ⊎ Q u) a c
  judged_then P Q a b c g h = record {
    from = λ x e. elim (h.from x e) [
      | inl was ↦ elim (g.from x was) [ inl old ↦ inl old | inr (u, p, m, is) ↦ inr (u, inl p, m, is) ]
      | inr (u, q, m, is) ↦ inr (u, inr q, m, is)
    ];
    below = λ x e. at_most_then b c x (g.below x e) h.below;
    least = λ u pq m. elim pq [ inl p ↦ at_most_then b c u.user (g.least u p m) h.below | inr q ↦ h.least u q m ];
  }

  pub judged_as : (P Q : Need → Type 0) (a b : Option (ℕ × ℕ)) → ((u : Need) → P u → Q u) → ((u : Need) → Q u → P u) → Judged f P a b → Judged f Q a b
  judged_as P Q a b to from' g = record {
    from = λ x e. elim (g.from x e) [ inl old ↦ inl old | inr (u, p, m, is) ↦ inr (u, to u p, m, is) ];
    below = g.below;
    least = λ u q m. g.least u (from' u q) m;
  }

  pub judged_empty : (found : Option (ℕ × ℕ)) → Judged f (Contains []) found found
  judged_empty found = judged_none (Contains []) found (λ u h m. omega (arith, h.1))

  pub judged_more : (xs : List Need) (u : Need) (a b c : Option (ℕ × ℕ)) → Judged f (Contains xs) a b → Judged f (λ v. v ≡ u) b c → Judged f (Contains (xs ++ u ∷ [])) a c
  judged_more xs u a b c g h = judged_as (λ v. Contains xs v ⊎ (v ≡ u)) (Contains (xs ++ u ∷ [])) a c (more_to xs u) (more_from xs u) (judged_then (Contains xs) (λ v. v ≡ u) a b c g h)

-- ---- the answer

pub not_both_ways : (f : Function) (b k : ℕ) → IsAssignedAt f b k → IsUnassigned f b k → ⊥
not_both_ways f b k a (inl m) = false≢true (sym m.missed ∙ a.here m.before m.register m.path m.used)
not_both_ways f b k a (inr m) = false≢true (sym m.missed ∙ a.end m.before m.register m.label m.block m.used m.leads m.path)

pub assigned_or_not : (f : Function) (b k : ℕ) → (IsUnassigned f b k → ⊥) → IsAssignedAt f b k
assigned_or_not f b k no' = record {
  here = λ before r path used. elim (cases_Bool (assigned_at f before b k r)) [
    | inl met ↦ met
    | inr missed ↦ absurd (no' (inl (record { before = before; register = r; path = path; used = used; missed = missed })))
  ];
  end = λ before r l p used leads path. elim (cases_Bool (assigned f (p ∷ before) r)) [
    | inl met ↦ met
    | inr missed ↦ absurd (no' (inr (record { before = before; register = r; label = l; block = p; used = used; leads = leads; path = path; missed = missed })))
  ];
}

before_or_not : (b k c i : ℕ) → IsNotAfter (c, i) (b, k) → IsBefore b k c i → ⊥
before_or_not b k c i (inl x) (inl y) = omega arith
before_or_not b k c i (inl x) (inr y) = omega (arith, y.0)
before_or_not b k c i (inr x) (inl y) = omega (arith, x.0)
before_or_not b k c i (inr x) (inr y) = omega (arith, x.1, y.1)

order : (b k c i : ℕ) → IsBefore b k c i ⊎ (((b ≡ c) × (k ≡ i)) ⊎ IsBefore c i b k)
order b k c i = elim (cases_order b c) [
  | inl same ↦ elim (cases_order k i) [
    | inl at ↦ inr (inl (same, at))
    | inr other ↦ elim other [ inl lt ↦ inl (inr (same, lt)) | inr gt ↦ inr (inr (inr (sym same, gt))) ]
  ]
  | inr other ↦ elim other [ inl lt ↦ inl (inl lt) | inr gt ↦ inr (inr (inl gt)) ]
]

same_pair : (x y : ℕ × ℕ) → x.0 ≡ y.0 → x.1 ≡ y.1 → x ≡ y
same_pair x y p q = ap (λ (a : ℕ). let z : ℕ × ℕ = (a, x.1) in z) p ∙ ap (λ (b : ℕ). let z : ℕ × ℕ = (y.0, b) in z) q

pub one_answer : (f : Function) (a b : Option (ℕ × ℕ)) → IsAnswer f a → IsAnswer f b → a ≡ b
one_answer f None None p q = refl
one_answer f None (Some y) p q = absurd (not_both_ways f y.0 y.1 (p y.0 y.1) q.0)
one_answer f (Some x) None p q = absurd (not_both_ways f x.0 x.1 (q x.0 x.1) p.0)
one_answer f (Some x) (Some y) p q = elim (order x.0 x.1 y.0 y.1) [
  | inl before ↦ absurd (not_both_ways f x.0 x.1 (q.1 x.0 x.1 before) p.0)
  | inr other ↦ elim other [
    | inl (block, place) ↦ ap Some (same_pair x y block place)
    | inr after ↦ absurd (not_both_ways f y.0 y.1 (p.1 y.0 y.1 after) q.0)
  ]
]

at_user : (x : ℕ × ℕ) (u : Need) (b k : ℕ) → u.user.0 ≡ b → u.user.1 ≡ k → IsNotAfter x u.user → IsNotAfter x (b, k)
at_user x u b k p q (inl lt) = inl (omega arith)
at_user x u b k p q (inr (e, le)) = inr (e ∙ p, omega arith)

-- all needs were judged, and each use that is missed is one of theirs
module _ (f : Function) (among : Need → Type 0) (stand : (u : Need) → among u → IsMissed f u → IsUnassigned f u.user.0 u.user.1)
    (noted : (b k : ℕ) → IsUnassigned f b k → (u : Need) × among u × (u.user.0 ≡ b) × (u.user.1 ≡ k) × IsMissed f u) where
  none_missed : Judged f among None None → IsAnswer f None
  none_missed g b k = assigned_or_not f b k (λ un. let (u, a, block, place, m) = noted b k un in g.least u a m)

  found_missed : (x : ℕ × ℕ) → Judged f among None (Some x) → IsUnassigned f x.0 x.1
  found_missed x g = elim (g.from x refl) [
    | inl none' ↦ absurd (none-some x none')
    | inr (u, a, m, is) ↦ subst (λ (y : ℕ × ℕ). IsUnassigned f y.0 y.1) is (stand u a m)
  ]

  none_earlier : (x : ℕ × ℕ) → Judged f among None (Some x) → (b k : ℕ) → IsBefore b k x.0 x.1 → IsAssignedAt f b k
  none_earlier x g b k before = assigned_or_not f b k (λ un.
      let (u, a, block, place, m) = noted b k un in
      before_or_not b k x.0 x.1 (at_user x u b k block place (g.least u a m)) before)

  pub answered : (first : Option (ℕ × ℕ)) → Judged f among None first → IsAnswer f first
  answered None g = none_missed g
  answered (Some x) g = (found_missed x g, none_earlier x g)
