-- Numbers that are found, each once.
use Rattle.std.proofs.Common.{◌≡◌, ◌∙◌, refl, sym, ap, subst, ℕ, zero, suc, ◌+◌, ◌<◌, ◌≤◌, ◌⊎◌, inl, inr, true, false, List, [], ◌∷◌, ◌++◌, length, take, get_or, set, arith, get_or-set_same, get_or-set_other, length-set}
use Rattle.std.specs.Prelude.{Option, Some, None, is_some}
use Rattle.std.specs.List.{Contains}
use Rattle.std.proofs.lemmas.Bool.{cases_eq, false≢true, true≢false}
use Rattle.std.proofs.lemmas.Option.{none-some, same_Some}
use Rattle.std.proofs.lemmas.List.{get_or_read, take_more, length_push, take_all}
use Rattle.std.proofs.lemmas.List.Elements.{Contains-append_left, Contains-push, Contains-push_cases, Contains-get_or}
use Rattle.no_calls.specs.Spreading.{AreFound, IsFound, Noted, at, unmet}
use Rattle.no_calls.specs.declared.found.Found.{Found}

pub nothing : (x : ℕ) → Contains {X = ℕ} [] x → ⊥
nothing x (k, lt, e) = absurd (omega arith)

pub single : (t b : ℕ) → Contains (t ∷ []) b → b ≡ t
single t b h = elim (Contains-push_cases [] t b h) [ inl past ↦ absurd (nothing b past) | inr same ↦ sym same ]

pub one : (t : ℕ) → Contains (t ∷ []) t
one t = Contains-push [] t

-- one element more of a list
pub more_cases : (xs : List ℕ) (i b : ℕ) → i < length xs → Contains (take (i + 1) xs) b → Contains (take i xs) b ⊎ (b ≡ get_or xs i 0)
more_cases xs i b lt h = elim (Contains-push_cases (take i xs) (get_or xs i 0) b (subst (λ l. Contains l b) (take_more xs i 0 lt) h)) [ inl was ↦ inl was | inr same ↦ inr (sym same) ]

pub whole : (xs : List ℕ) (i b : ℕ) → length xs ≤ i → Contains xs b → Contains (take i xs) b
whole xs i b all h = subst (λ l. Contains l b) (sym (take_all i xs all)) h

some_is : (o x : Option ℕ) → o ≡ x → is_some x ≡ true → (d : ℕ) × (o ≡ Some d)
some_is o None e some = absurd (false≢true some)
some_is o (Some d) e some = (d, e)

none_is : (o x : Option ℕ) → o ≡ x → is_some x ≡ false → o ≡ None
none_is o None e n = e
none_is o (Some d) e n = absurd (true≢false n)

pub found_here : (far : List (Option ℕ)) (k : ℕ) (x : Option ℕ) → k < length far → x ≡ get_or far k x → is_some x ≡ true → IsFound far k
found_here far k x lt is some = some_is (at far k) x (sym (get_or_read far k x lt is None)) some

pub none_here : (far : List (Option ℕ)) (k : ℕ) (x : Option ℕ) → k < length far → x ≡ get_or far k x → is_some x ≡ false → at far k ≡ None
none_here far k x lt is n = none_is (at far k) x (sym (get_or_read far k x lt is None)) n

pub found_set : (far : List (Option ℕ)) (k level : ℕ) → k < length far → IsFound (set far k (Some level)) k
found_set far k level lt = (level, get_or-set_same far k (Some level) None lt)

unmet_set : (far : List (Option ℕ)) (k level : ℕ) → k < length far → get_or far k None ≡ None → unmet (set far k (Some level)) + 1 ≡ unmet far
unmet_set [] k level lt e = absurd (omega arith)
unmet_set (o ∷ far) zero level lt e = rw e (omega arith)
unmet_set (o ∷ far) (suc k) level lt e = let h : unmet (set far k (Some level)) + 1 ≡ unmet far = unmet_set far k level (omega arith) e in omega (arith, h)

pub noted_same : (why : ℕ → Type 0) (level : ℕ) (f : Found) → Noted why level f f
noted_same why level f = record {
  kept = λ b e h. h;
  met = λ b e h. inl h;
  waits = λ b h. h;
  dated = λ b h. inl h;
  count = refl;
  wide = refl;
}

pub noted_new : (old new : Found) (k level : ℕ) → k < length old.far.items → at old.far.items k ≡ None → new.far.items ≡ set old.far.items k (Some level) → new.next.items ≡ old.next.items ++ k ∷ [] → Noted (λ b. b ≡ k) level old new
noted_new old new k level lt none far next = record {
  kept = λ b e h. elim (cases_eq b k) [
    | inl same ↦ absurd (none-some e (sym none ∙ (ap (λ (j : ℕ). at old.far.items j) (sym same) ∙ h)))
    | inr other ↦ ap (λ (l : List (Option ℕ)). at l b) far ∙ (get_or-set_other old.far.items k b (Some level) None other ∙ h)
  ];
  met = λ b e h. elim (cases_eq b k) [
    | inl same ↦ inr (same_Some e level (sym h ∙ (ap (λ (j : ℕ). at new.far.items j) same ∙ here)), same, subst (λ (j : ℕ). Contains new.next.items j) (sym same) last)
    | inr other ↦ inl (sym (get_or-set_other old.far.items k b (Some level) None other) ∙ (ap (λ (l : List (Option ℕ)). at l b) (sym far) ∙ h))
  ];
  waits = λ b h. subst (λ (l : List ℕ). Contains l b) (sym next) (Contains-append_left old.next.items (k ∷ []) b h);
  dated = λ b h. elim (Contains-push_cases old.next.items k b (subst (λ (l : List ℕ). Contains l b) next h)) [
    | inl was ↦ inl was
    | inr same ↦ inr (ap (λ (j : ℕ). at new.far.items j) (sym same) ∙ here)
  ];
  count = let a : unmet (set old.far.items k (Some level)) + 1 ≡ unmet old.far.items = unmet_set old.far.items k level lt none in
      let b : length (old.next.items ++ k ∷ []) ≡ length old.next.items + 1 = length_push old.next.items k in
      rw (far, next) (omega (arith, a, b));
  wide = ap length far ∙ length-set old.far.items k (Some level);
}
  where
    here : at new.far.items k ≡ Some level
    here = ap (λ (l : List (Option ℕ)). at l k) far ∙ get_or-set_same old.far.items k (Some level) None lt

    last : Contains new.next.items k
    last = subst (λ (l : List ℕ). Contains l k) (sym next) (Contains-push old.next.items k)

pub noted_weaker : (why because : ℕ → Type 0) (level : ℕ) (a b : Found) → ((k : ℕ) → why k → because k) → Noted why level a b → Noted because level a b
noted_weaker why because level a b so n = record {
  kept = n.kept;
  met = λ k e h. elim (n.met k e h) [ inl was ↦ inl was | inr (l, w, c) ↦ inr (l, so k w, c) ];
  waits = n.waits;
  dated = n.dated;
  count = n.count;
  wide = n.wide;
}

pub noted_then : (why : ℕ → Type 0) (level : ℕ) (a b c : Found) → Noted why level a b → Noted why level b c → Noted why level a c
noted_then why level a b c first second = record {
  kept = λ k e h. second.kept k e (first.kept k e h);
  met = λ k e h. elim (second.met k e h) [
    | inl was ↦ elim (first.met k e was) [ inl early ↦ inl early | inr (l, w, n) ↦ inr (l, w, second.waits k n) ]
    | inr now ↦ inr now
  ];
  waits = λ k h. second.waits k (first.waits k h);
  dated = λ k h. elim (second.dated k h) [
    | inl was ↦ elim (first.dated k was) [ inl early ↦ inl early | inr d ↦ inr (second.kept k level d) ]
    | inr now ↦ inr now
  ];
  count = second.count ∙ first.count;
  wide = second.wide ∙ first.wide;
}

pub found_kept : (why : ℕ → Type 0) (level : ℕ) (a b : Found) (ks : List ℕ) → Noted why level a b → AreFound ks a → AreFound ks b
found_kept why level a b ks n found = λ k h. let (d, e) = found k h in (d, n.kept k d e)

pub found_more : (why : ℕ → Type 0) (level : ℕ) (a b : Found) (ks : List ℕ) (i : ℕ) → i < length ks → Noted why level a b → AreFound (take i ks) a → IsFound b.far.items (get_or ks i 0) → AreFound (take (i + 1) ks) b
found_more why level a b ks i lt n found now = λ k h. elim (more_cases ks i k lt h) [
  | inl was ↦ found_kept why level a b (take i ks) n found k was
  | inr same ↦ subst (λ (j : ℕ). IsFound b.far.items j) (sym same) now
]

-- the next one of a list was met
pub noted_next : (level : ℕ) (a b c : Found) (ks : List ℕ) (i : ℕ) → i < length ks → Noted (Contains ks) level a b → Noted (λ k. k ≡ get_or ks i 0) level b c → Noted (Contains ks) level a c
noted_next level a b c ks i lt first second =
    noted_then (Contains ks) level a b c first (noted_weaker (λ k. k ≡ get_or ks i 0) (Contains ks) level b c (λ k e. subst (λ (j : ℕ). Contains ks j) (sym e) (Contains-get_or ks i 0 lt)) second)
