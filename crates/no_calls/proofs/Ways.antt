-- Shortest ways, from distances.
use Rattle.std.proofs.Common.{◌≡◌, ◌∙◌, refl, sym, ap, subst, ℕ, zero, suc, ◌+◌, ◌<◌, ◌≤◌, inl, inr, List, [], ◌∷◌, ◌++◌, length, arith}
use Rattle.std.specs.Prelude.{Option, Some, None}
use Rattle.std.specs.List.{Contains}
use Rattle.std.proofs.lemmas.Bool.{cases_lt}
use Rattle.std.proofs.lemmas.Option.{none-some, same_Some}
use Rattle.no_calls.specs.Nearest.{IsNearest}
use Rattle.no_calls.specs.Reaching.{IsBest, IsShortest, IsWay, Path, Reaches}
use Rattle.no_calls.specs.Spreading.{IsFound, Measured, at}
use Rattle.no_calls.proofs.Finding.{single}

module _ (R : ℕ → ℕ → Type 0) (goals : List ℕ) (n : ℕ) (far : List (Option ℕ)) (m : Measured (λ k a. R a k) goals n far) (below : (a k : ℕ) → R a k → k < n) where
  -- the distance of a number is at most the length of each way
  pub bound : (q : List ℕ) (a g : ℕ) → a < n → Contains goals g → Path R a q g → (e : ℕ) × (at far a ≡ Some e) × (e ≤ length q)
  bound [] a g lt goal is = (0, m.begins a lt (subst (λ (k : ℕ). Contains goals k) (sym is) goal), omega arith)
  bound (k ∷ q) a g lt goal (step, rest) =
      let (d, there, small) = bound q k g (below a k step) goal rest in
      let (e, here, near) = m.on k a d step there in
      (e, here, omega (arith, small, near))

  -- a shortest way, and the first one of those
  pub record Best (a : ℕ) (way : List ℕ) : Type 0 where
    pub is_far : at far a ≡ Some (length way)
    pub goes : IsWay R goals a way
    pub first : (q : List ℕ) → IsWay R goals a q → IsBest way q

  pub best_here : (a : ℕ) → at far a ≡ Some 0 → Best a []
  best_here a e = record { is_far = e; goes = (a, m.first a e, refl); first = λ q w. empty_best q }
    where
      empty_best : (q : List ℕ) → IsBest [] q
      empty_best [] = inr (refl, tt)
      empty_best (x ∷ q) = inl (omega arith)

  -- the nearest number is one step nearer
  pub nearer_by_one : (a d e k : ℕ) → at far a ≡ Some (d + 1) → IsNearest (λ b. R a b) far (Some (e, k)) → e ≡ d
  nearer_by_one a d e k here (step, there, first) =
      let (c, step', there') = m.back a d here in
      let (f, here', near) = m.on k a e step there in
      let same : d + 1 ≡ f = same_Some (d + 1) f (sym here ∙ here') in
      elim (first c d step' there') [ inl lt ↦ absurd (omega (arith, lt, same, near)) | inr (is, up) ↦ is ]

  pub one_is_near : (a d : ℕ) → at far a ≡ Some (d + 1) → IsNearest (λ b. R a b) far None → ⊥
  one_is_near a d here none = let (c, step, there) = m.back a d here in none c d step there

  pub best_step : (a d e k : ℕ) (rest : List ℕ) → a < n → at far a ≡ Some (d + 1) → IsNearest (λ b. R a b) far (Some (e, k)) → Best k rest → Best a (k ∷ rest)
  best_step a d e k rest lt here near best = record {
    is_far = here ∙ ap Some long;
    goes = let (g, goal, path) = best.goes in (g, goal, (near.0, path));
    first = λ q w. against q w;
  }
    where
      is_d : e ≡ d
      is_d = nearer_by_one a d e k here near

      size : length rest ≡ d
      size = sym (same_Some e (length rest) (sym near.1 ∙ best.is_far)) ∙ is_d

      long : d + 1 ≡ suc (length rest)
      long = omega (arith, size)

      against : (q : List ℕ) → IsWay R goals a q → IsBest (k ∷ rest) q
      against [] (g, goal, is) =
          let (f, here', small) = bound [] a g lt goal is in
          let same : d + 1 ≡ f = same_Some (d + 1) f (sym here ∙ here') in
          absurd (none (d + 1) f same small (omega arith))
        where
          none : (x f : ℕ) → x ≡ f → f ≤ 0 → 0 < x → ⊥
          none x f same small some = omega arith
      against (c ∷ q) (g, goal, (step, path)) =
          let (f, there, small) = bound q c g (below a c step) goal path in
          elim (near.2 c f step there) [
            | inl lt ↦ inl (omega (arith, lt, small, is_d, size))
            | inr (is, up) ↦ elim (cases_lt (length rest) (length q)) [
              | inl shorter ↦ inl (omega arith)
              | inr not_shorter ↦
                  let even : length rest ≡ length q = omega (arith, is, small, is_d, size) in
                  elim (cases_lt k c) [
                    | inl before ↦ inr (ap suc even, inl before)
                    | inr not_before ↦
                        let same : k ≡ c = omega (arith, up) in
                        elim (best.first q (g, goal, subst (λ (x : ℕ). Path R x q g) (sym same) path)) [
                          | inl shorter ↦ absurd (omega (arith, shorter, even))
                          | inr (even', upto) ↦ inr (ap suc even, inr (same, upto))
                        ]
                  ]
            ]
          ]

  pub shortest : (a : ℕ) (way : List ℕ) → Best a way → IsShortest R goals a (Some (a ∷ way))
  shortest a way best = (way, refl, best.goes, best.first)

  pub not_reached : (a : ℕ) → a < n → at far a ≡ None → IsShortest R goals a None
  not_reached a lt none g goal (q, path) = let (e, here, small) = bound q a g lt goal path in none-some e (sym none ∙ here)

  -- a number that was found reaches a goal
  pub found_goal : (d a : ℕ) → at far a ≡ Some d → (g : ℕ) × Contains goals g × Reaches R a g
  found_goal zero a e = (a, m.first a e, ([], refl))
  found_goal (suc d) a e =
      let (c, step, there) = m.back a d (e ∙ ap Some (plus d)) in
      let (g, goal, (way, path)) = found_goal d c there in
      (g, goal, (c ∷ way, (step, path)))
    where
      plus : (k : ℕ) → suc k ≡ k + 1
      plus k = omega arith

-- ---- all that a number reaches

path_more : (R : ℕ → ℕ → Type 0) (way : List ℕ) (a b c : ℕ) → Path R a way b → R b c → Path R a (way ++ c ∷ []) c
path_more R [] a b c is step = (subst (λ (k : ℕ). R k c) (sym is) step, refl)
path_more R (x ∷ way) a b c (first, rest) step = (first, path_more R way x b c rest step)

module _ (R : ℕ → ℕ → Type 0) (a n : ℕ) (far : List (Option ℕ)) (m : Measured R (a ∷ []) n far) (lt : a < n) where
  pub reached_found : (way : List ℕ) (x b d : ℕ) → at far x ≡ Some d → Path R x way b → IsFound far b
  reached_found [] x b d e is = (d, ap (λ (k : ℕ). at far k) (sym is) ∙ e)
  reached_found (y ∷ way) x b d e (step, rest) = let (f, there, near) = m.on x y d step e in reached_found way y b f there rest

  pub found_reached : (d b : ℕ) → at far b ≡ Some d → Reaches R a b
  found_reached zero b e = ([], sym (single a b (m.first b e)))
  found_reached (suc d) b e =
      let (c, step, there) = m.back b d (e ∙ ap Some (plus d)) in
      let (way, path) = found_reached d c there in
      (way ++ b ∷ [], path_more R way a c b path step)
    where
      plus : (k : ℕ) → suc k ≡ k + 1
      plus k = omega arith
