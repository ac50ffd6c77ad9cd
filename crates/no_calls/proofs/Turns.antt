-- A search from level to level.
use Rattle.std.proofs.Common.{◌≡◌, ◌∙◌, refl, sym, ap, subst, ℕ, zero, suc, ◌+◌, ◌<◌, ◌≤◌, ◌==◌, inl, inr, Bool, true, false, List, [], ◌∷◌, length, drop, get_or, replicate, Vec, arith}
use Rattle.std.specs.Prelude.{Option, Some, None}
use Rattle.std.specs.Global.{Global}
use Rattle.std.specs.List.{Contains}
use Rattle.std.proofs.lemmas.Bool.{cases_lt, eqb-true, false≢true, true≢false}
use Rattle.std.proofs.lemmas.Option.{none-some, same_Some}
use Rattle.std.proofs.lemmas.List.{drop_more, drop_all, get_or-replicate, get_or_past, length-replicate}
use Rattle.std.proofs.lemmas.List.Elements.{Contains-append_left, Contains-append_right, Contains-append_cases}
use Rattle.no_calls.specs.Rows.{row}
use Rattle.no_calls.specs.Spreading.{AreFound, IsFound, IsPassed, Marked, Measured, Noted, Reason, Step, Turning, at, is_done, unmet}
use Rattle.no_calls.specs.declared.found.Found.{Found}
use Rattle.no_calls.proofs.Finding.{found_kept, nothing, one, single}

pub not_none : (n : ℕ) → (n == 0) ≡ false → 0 < n
not_none zero e = absurd (true≢false e)
not_none (suc n) e = omega arith

pub none_more : (xs : List ℕ) (n : ℕ) → n ≡ length xs → (n == 0) ≡ true → length xs ≡ 0
none_more xs n is e = sym is ∙ eqb-true n 0 e

module _ (up down : List (Vec ℕ Global)) (starts : List ℕ) (n level : ℕ) where
  module _ (x : ℕ) (rest sets : List ℕ) (done new : List Bool) (f g : Found) (is : sets ≡ row up x) (t : Turning up down starts n level (x ∷ rest) done f) (noted : Noted (Reason sets down) (level + 1) f g) (marked : Marked sets down g done new) where
    done_now : (s : ℕ) → is_done new s ≡ true → AreFound (row down s) g
    done_now s h = elim (marked.met s h) [ inl was ↦ found_kept (Reason sets down) (level + 1) f g (row down s) noted (t.done s was) | inr found ↦ found ]

    most_now : (b d : ℕ) → at g.far.items b ≡ Some d → d ≤ level + 1
    most_now b d e = elim (noted.met b d e) [ inl was ↦ t.most b d was | inr (l, w, c) ↦ omega (arith, l) ]

    here : at g.far.items x ≡ Some level
    here = noted.kept x level (t.now x (Contains-append_left (x ∷ []) rest x (one x)))

    passed_now : (d : ℕ) → at g.far.items x ≡ Some d → IsPassed (Step up down) g.far.items x d
    passed_now d e b (s, used, member) =
        let (far, found) = done_now s (marked.all s (subst (λ (l : List ℕ). Contains l s) (sym is) used)) b member in
        let same : d ≡ level = same_Some d level (sym e ∙ here) in
        (far, found, omega (arith, most_now b far found, same))

    turning_step : Turning up down starts n level rest new g
    turning_step = record {
      wide = noted.wide ∙ t.wide;
      begins = λ k lt c. noted.kept k 0 (t.begins k lt c);
      first = λ k e. elim (noted.met k 0 e) [ inl was ↦ t.first k was | inr (l, w, c) ↦ absurd (omega (arith, l)) ];
      back = λ b d e. elim (noted.met b (d + 1) e) [
        | inl was ↦ let (a, step, far) = t.back b d was in (a, step, noted.kept a d far)
        | inr (l, (s, used, member), c) ↦
            let same : level ≡ d = omega (arith, l) in
            (x, (s, subst (λ (m : List ℕ). Contains m s) is used, member), here ∙ ap Some same)
      ];
      most = most_now;
      passed = λ a d e. elim (noted.met a d e) [
        | inl was ↦ elim (t.passed a d was) [
          | inl next ↦ inl (noted.waits a next)
          | inr (inl w) ↦ elim (Contains-append_cases (x ∷ []) rest a w) [
            | inl now ↦ inr (inr (subst (λ (k : ℕ). IsPassed (Step up down) g.far.items k d) (sym (single x a now)) (passed_now d (ap (λ (k : ℕ). at g.far.items k) (sym (single x a now)) ∙ e))))
            | inr later ↦ inr (inl later)
          ]
          | inr (inr passed) ↦ inr (inr (λ b step. let (far, found, near) = passed b step in (far, noted.kept b far found, near)))
        ]
        | inr (l, w, c) ↦ inl c
      ];
      now = λ a c. noted.kept a level (t.now a (Contains-append_right (x ∷ []) rest a c));
      then' = λ a c. elim (noted.dated a c) [ inl was ↦ noted.kept a (level + 1) (t.then' a was) | inr now ↦ now ];
      done = done_now;
    }

  -- the next number of those that wait
  pub turning_next : (waiting : List ℕ) (i : ℕ) (sets : List ℕ) (done new : List Bool) (f g : Found) → i < length waiting → sets ≡ row up (get_or waiting i 0) → Noted (Reason sets down) (level + 1) f g → Marked sets down g done new
      → Turning up down starts n level (drop i waiting) done f → Turning up down starts n level (drop (i + 1) waiting) new g
  turning_next waiting i sets done new f g lt is noted marked t =
      turning_step (get_or waiting i 0) (drop (i + 1) waiting) sets done new f g is (subst (λ (l : List ℕ). Turning up down starts n level l done f) (drop_more waiting i 0 lt) t) noted marked

  pub turning_all : (waiting : List ℕ) (i : ℕ) (done : List Bool) (f : Found) → length waiting ≤ i → Turning up down starts n level (drop i waiting) done f → Turning up down starts n level [] done f
  turning_all waiting i done f all t = subst (λ (l : List ℕ). Turning up down starts n level l done f) (drop_all i waiting all) t

  -- the next level begins
  pub turning_on : (waiting : List ℕ) (done : List Bool) (f g : Found) → waiting ≡ f.next.items → g.far.items ≡ f.far.items → g.next.items ≡ [] → Turning up down starts n level [] done f → Turning up down starts n (level + 1) waiting done g
  turning_on waiting done f g these far none t = record {
    wide = ap length far ∙ t.wide;
    begins = λ k lt c. kept k 0 (t.begins k lt c);
    first = λ k e. t.first k (was k 0 e);
    back = λ b d e. let (a, step, here) = t.back b d (was b (d + 1) e) in (a, step, kept a d here);
    most = λ b d e. omega (arith, t.most b d (was b d e));
    passed = λ a d e. elim (t.passed a d (was a d e)) [
      | inl next ↦ inr (inl (subst (λ (l : List ℕ). Contains l a) (sym these) next))
      | inr (inl w) ↦ absurd (nothing a w)
      | inr (inr passed) ↦ inr (inr (λ b step. let (e', found, near) = passed b step in (e', kept b e' found, near)))
    ];
    now = λ a c. kept a (level + 1) (t.then' a (subst (λ (l : List ℕ). Contains l a) these c));
    then' = λ a c. absurd (nothing a (subst (λ (l : List ℕ). Contains l a) none c));
    done = λ s h b c. let (e, found) = t.done s h b c in (e, kept b e found);
  }
    where
      kept : (k d : ℕ) → at f.far.items k ≡ Some d → at g.far.items k ≡ Some d
      kept k d e = ap (λ (l : List (Option ℕ)). at l k) far ∙ e

      was : (k d : ℕ) → at g.far.items k ≡ Some d → at f.far.items k ≡ Some d
      was k d e = ap (λ (l : List (Option ℕ)). at l k) (sym far) ∙ e

  -- nothing waits any more
  pub turning_end : (waiting : List ℕ) (done : List Bool) (f : Found) → waiting ≡ [] → f.next.items ≡ [] → Turning up down starts n level waiting done f → Measured (Step up down) starts n f.far.items
  turning_end waiting done f none empty t = record {
    wide = t.wide;
    begins = t.begins;
    first = t.first;
    back = t.back;
    on = λ a b d step e. elim (t.passed a d e) [
      | inl next ↦ absurd (nothing a (subst (λ (l : List ℕ). Contains l a) empty next))
      | inr (inl w) ↦ absurd (nothing a (subst (λ (l : List ℕ). Contains l a) none w))
      | inr (inr passed) ↦ passed b step
    ];
  }

-- ---- how a search begins

unmet_none : (n : ℕ) → unmet (replicate n None) ≡ n
unmet_none zero = refl
unmet_none (suc n) = let h : unmet (replicate n None) ≡ n = unmet_none n in omega (arith, h)

none_at : (n k d : ℕ) → at (replicate n None) k ≡ Some d → ⊥
none_at n k d e = elim (cases_lt k n) [
  | inl lt ↦ none-some d (sym (get_or-replicate n k None None lt) ∙ e)
  | inr past ↦ none-some d (sym (get_or_past (replicate n None) k None (subst (λ (m : ℕ). m ≤ k) (sym (length-replicate n None)) past)) ∙ e)
]

module _ (up down : List (Vec ℕ Global)) (starts : List ℕ) (n : ℕ) (blank f g : Found) (far : blank.far.items ≡ replicate n None) (next : blank.next.items ≡ []) (noted : Noted (Contains starts) 0 blank f)
    (there : (k : ℕ) → k < length blank.far.items → Contains starts k → IsFound f.far.items k) (kept : g.far.items ≡ f.far.items) where
  pub begin_room : (waiting : List ℕ) → waiting ≡ f.next.items → unmet g.far.items + length waiting ≤ length g.far.items
  begin_room waiting is =
      let a : unmet blank.far.items ≡ n = ap unmet far ∙ unmet_none n in
      let b : length blank.far.items ≡ n = ap length far ∙ length-replicate n None in
      let c : length blank.next.items ≡ 0 = ap length next in
      let d : length waiting ≡ length f.next.items = ap length is in
      let e : unmet g.far.items ≡ unmet f.far.items = ap unmet kept in
      let l : length g.far.items ≡ length f.far.items = ap length kept in
      omega (arith, noted.count, noted.wide, a, b, c, d, e, l)

  old_none : (k d : ℕ) → at blank.far.items k ≡ Some d → ⊥
  old_none k d e = none_at n k d (ap (λ (l : List (Option ℕ)). at l k) (sym far) ∙ e)

  all_zero : (k d : ℕ) → at g.far.items k ≡ Some d → (d ≡ 0) × Contains starts k × Contains f.next.items k
  all_zero k d e = elim (noted.met k d (ap (λ (l : List (Option ℕ)). at l k) (sym kept) ∙ e)) [ inl was ↦ absurd (old_none k d was) | inr is ↦ is ]

  pub turning_start : (waiting : List ℕ) (m : ℕ) (done : List Bool) → waiting ≡ f.next.items → g.next.items ≡ [] → done ≡ replicate m false → Turning up down starts n 0 waiting done g
  turning_start waiting m done these none flags = record {
    wide = ap length kept ∙ (noted.wide ∙ (ap length far ∙ length-replicate n None));
    begins = λ k lt c.
        let (d, e) = there k (subst (λ (m : ℕ). k < m) (sym (ap length far ∙ length-replicate n None)) lt) c in
        let e' : at g.far.items k ≡ Some d = ap (λ (l : List (Option ℕ)). at l k) kept ∙ e in
        e' ∙ ap Some (all_zero k d e').0;
    first = λ k e. (all_zero k 0 e).1;
    back = λ b d e. let z : d + 1 ≡ 0 = (all_zero b (d + 1) e).0 in absurd (omega (arith, z));
    most = λ b d e. let z : d ≡ 0 = (all_zero b d e).0 in omega (arith, z);
    passed = λ a d e. inr (inl (subst (λ (l : List ℕ). Contains l a) (sym these) (all_zero a d e).2));
    now = λ a c. elim (noted.dated a (subst (λ (l : List ℕ). Contains l a) these c)) [
      | inl was ↦ absurd (nothing a (subst (λ (l : List ℕ). Contains l a) next was))
      | inr e ↦ ap (λ (l : List (Option ℕ)). at l a) kept ∙ e
    ];
    then' = λ a c. absurd (nothing a (subst (λ (l : List ℕ). Contains l a) none c));
    done = λ s h. absurd (off s h);
  }
    where
      off : (s : ℕ) → is_done done s ≡ true → ⊥
      off s h = elim (cases_lt s m) [
        | inl lt ↦ false≢true (sym (get_or-replicate m s false false lt) ∙ (ap (λ (l : List Bool). is_done l s) (sym flags) ∙ h))
        | inr past ↦ false≢true (sym (get_or_past (replicate m false) s false (subst (λ (k : ℕ). k ≤ s) (sym (length-replicate m false)) past)) ∙ (ap (λ (l : List Bool). is_done l s) (sym flags) ∙ h))
      ]
