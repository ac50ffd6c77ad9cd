-- Sets that flow along edges: one block is passed on, and what that keeps.
use Rattle.std.proofs.Common.{◌≡◌, ℕ, ◌-◌, ◌^◌, ◌<◌, ◌≤◌, ◌&&◌, ◌||◌, ◌⊎◌, Bool, true, false, List, [], ◌∷◌, ◌++◌, length, set, slice_index, refl, sym, ap, ◌∙◌, subst, inl, inr, arith, get_or-set_same, get_or-set_other}
use Rattle.std.specs.List.{Contains}
use Rattle.std.proofs.lemmas.Bool.{cases_eq, cases_Bool, false≢true}
use Rattle.std.proofs.lemmas.List.Sums.{sum_by-set}
use Rattle.std.proofs.lemmas.List.Elements.{Contains-append_left, Contains-append_right, Contains-append_cases, Contains-push_cases}
use Rattle.no_verify_paths.specs.Words.{has}
use Rattle.no_verify_paths.specs.Flow.{Waiting, Added, Passed, Goes, Misses, Flowing, Settled}
use Rattle.no_verify_paths.proofs.Bits.{has_ones}

pub none : (x : ℕ) → Contains {X = ℕ} [] x → ⊥
none x (k, lt, e) = absurd (omega arith)

pub single : (t b : ℕ) → Contains (t ∷ []) b → t ≡ b
single t b h = elim (Contains-push_cases [] t b h) [ inl past ↦ absurd (none b past) | inr same ↦ same ]

both_left : (x y : Bool) → (x && y) ≡ true → x ≡ true
both_left true y e = refl
both_left false y e = cc

both_right : (x y : Bool) → (x && y) ≡ true → y ≡ true
both_right true y e = e
both_right false y e = cc

not_both : (x y : Bool) → (x && y) ≡ false → (x ≡ false) ⊎ (y ≡ false)
not_both true y e = inr e
not_both false y e = inl refl

module _ (t out : ℕ) (old : List ℕ) (both : ℕ) (members : (i : ℕ) → has both i ≡ (has (slice_index old t) i && has out i)) where
  -- the set had nothing to lose
  pub narrow_same : (q : Waiting) → both ≡ slice_index old t → Passed (t ∷ []) out old old q q
  narrow_same q same = record {
    down = λ b i h. h;
    lost = λ b i h. inl h;
    met = λ b i at h. both_right (has (slice_index old t) i) (has out i) (sym (members i) ∙ (ap (λ w. has w i) same ∙ (ap (λ x. has (slice_index old x) i) (single t b at) ∙ h)));
    told = λ b. inl refl;
    kept = λ b h. h;
    room = refl;
    less = omega arith;
  }

  set_at : (b i : ℕ) → t < length old → t ≡ b → has (slice_index (set old t both) b) i ≡ (has (slice_index old b) i && has out i)
  set_at b i within same = subst (λ x. has (slice_index (set old t both) x) i ≡ (has (slice_index old x) i && has out i)) same (rw (get_or-set_same old t both 0 within) (members i))

  set_off : (b : ℕ) → (b ≡ t → ⊥) → slice_index (set old t both) b ≡ slice_index old b
  set_off b other = get_or-set_other old t b both 0 other

  pub narrow_changed : (q r : Waiting) → t < length old → both ≤ slice_index old t → (both ≡ slice_index old t → ⊥) → Added t q r → Passed (t ∷ []) out old (set old t both) q r
  narrow_changed q r within less changed added = record {
    down = λ b i h. elim (cases_eq b t) [
      | inl same ↦ both_left _ _ (sym (set_at b i within (sym same)) ∙ h)
      | inr other ↦ ap (λ w. has w i) (sym (set_off b other)) ∙ h
    ];
    lost = λ b i h. elim (cases_eq b t) [
      | inl same ↦ elim (not_both _ _ (sym (set_at b i within (sym same)) ∙ h)) [ inl a ↦ inl a | inr o ↦ inr ((0, omega arith, sym same), o) ]
      | inr other ↦ inl (ap (λ w. has w i) (sym (set_off b other)) ∙ h)
    ];
    met = λ b i at h. both_right _ _ (sym (set_at b i within (single t b at)) ∙ h);
    told = λ b. elim (cases_eq b t) [ inl same ↦ inr (subst (Contains r.blocks) (sym same) added.there) | inr other ↦ inl (set_off b other) ];
    kept = added.kept;
    room = added.room;
    less = omega (arith, sum_by-set (λ x. x) old t both 0 within, added.short);
  }

-- no target: nothing changes
pub passed_none : (out : ℕ) (sets : List ℕ) (q : Waiting) → Passed [] out sets sets q q
passed_none out sets q = record {
  down = λ b i h. h;
  lost = λ b i h. inl h;
  met = λ b i at h. absurd (none b at);
  told = λ b. inl refl;
  kept = λ b h. h;
  room = refl;
  less = omega arith;
}

-- one target more
pub passed_more : (ts : List ℕ) (t out : ℕ) (a b c : List ℕ) (p q r : Waiting) → Passed ts out a b p q → Passed (t ∷ []) out b c q r → Passed (ts ++ t ∷ []) out a c p r
passed_more ts t out a b c p q r first then' = record {
  down = λ x i h. first.down x i (then'.down x i h);
  lost = λ x i h. elim (then'.lost x i h) [
    | inl had ↦ elim (first.lost x i had) [ inl o ↦ inl o | inr f ↦ inr (Contains-append_left ts (t ∷ []) x f.0, f.1) ]
    | inr f ↦ inr (Contains-append_right ts (t ∷ []) x f.0, f.1)
  ];
  met = λ x i at h. elim (Contains-append_cases ts (t ∷ []) x at) [ inl early ↦ first.met x i early (then'.down x i h) | inr late ↦ then'.met x i late h ];
  told = λ x. elim (then'.told x) [
    | inl same ↦ elim (first.told x) [ inl before ↦ inl (same ∙ before) | inr waits ↦ inr (then'.kept x waits) ]
    | inr waits ↦ inr waits
  ];
  kept = λ x h. then'.kept x (first.kept x h);
  room = then'.room ∙ first.room;
  less = omega (arith, first.less, then'.less);
}

or_left : (x y : Bool) → x ≡ true → (x || y) ≡ true
or_left true y e = refl
or_left false y e = cc

or_off : (x y : Bool) → (x || y) ≡ true → y ≡ false → x ≡ true
or_off true y e n = refl
or_off false y e n = absurd (false≢true (sym n ∙ e))

none_left : (x y : Bool) → (x || y) ≡ false → x ≡ false
none_left true y e = cc
none_left false y e = refl

none_right : (x y : Bool) → (x || y) ≡ false → y ≡ false
none_right true y e = cc
none_right false y e = e

module _ (next : ℕ → List ℕ) (gens : List ℕ) (start : ℕ) where
  -- all sets full but the entry's
  pub flowing_start : (sets : List ℕ) (q : Waiting) → q.room ≡ length sets → slice_index sets 0 ≡ start → ((b : ℕ) → b < length sets → (b ≡ 0 → ⊥) → slice_index sets b ≡ 2 ^ 64 - 1) → ((a b : ℕ) → Contains (next a) b → a < length sets) → Contains q.blocks 0 → Flowing next gens start sets q
  flowing_start sets q room at full edges first = record {
    entry = λ i h. ap (λ w. has w i) (sym at) ∙ h;
    shown = λ b i lt low h. elim (cases_eq b 0) [
      | inl zero' ↦ ([], zero', ap (λ w. has w i) (sym at) ∙ (ap (λ x. has (slice_index sets x) i) (sym zero') ∙ h))
      | inr other ↦ absurd (false≢true (sym h ∙ (ap (λ w. has w i) (full b lt other) ∙ has_ones i low)))
    ];
    closed = λ a b i low edge. elim (cases_eq a 0) [
      | inl zero' ↦ inl (subst (Contains q.blocks) (sym zero') first)
      | inr other ↦ inr (λ h. or_left _ _ (ap (λ w. has w i) (full a (edges a b edge) other) ∙ has_ones i low))
    ];
    room = room;
  }

  -- a block was taken, and passed on
  pub flowing_more : (a : ℕ) (old new : List ℕ) (p q r : Waiting) (out : ℕ) → Flowing next gens start old p → p.blocks ≡ q.blocks ++ a ∷ [] → q.room ≡ p.room
      → ((i : ℕ) → has out i ≡ (has (slice_index old a) i || has (slice_index gens a) i)) → length new ≡ length old → a < length old
      → Passed (next a) out old new q r → Flowing next gens start new r
  flowing_more a old new p q r out f taken room ends len within passed = record {
    entry = λ i h. f.entry i (passed.down 0 i h);
    shown = λ b i lt low h. elim (passed.lost b i h) [
      | inl was ↦ f.shown b i (omega arith) low was
      | inr (edge, miss) ↦
          let off : (has (slice_index old a) i || has (slice_index gens a) i) ≡ false = sym (ends i) ∙ miss in
          let m : Misses next gens start a i = f.shown a i within low (none_left _ _ off) in
          (a ∷ m.0, (edge, none_right _ _ off, m.1), m.2)
    ];
    closed = λ x b i low edge. elim (cases_eq x a) [
      | inl same ↦ elim (passed.told x) [
        | inl kept ↦ inr (λ h.
            let out' : has out i ≡ true = passed.met b i (subst (λ y. Contains (next y) b) same edge) h in
            let at : (has (slice_index old a) i || has (slice_index gens a) i) ≡ true = sym (ends i) ∙ out' in
            rw kept (subst (λ y. (has (slice_index old y) i || has (slice_index gens y) i) ≡ true) (sym same) at))
        | inr waits ↦ inl waits
      ]
      | inr other ↦ elim (f.closed x b i low edge) [
        | inl waits ↦ elim (Contains-push_cases q.blocks a x (subst (λ l. Contains l x) taken waits)) [
          | inl still ↦ inl (passed.kept x still)
          | inr same ↦ absurd (other (sym same))
        ]
        | inr step ↦ elim (passed.told x) [
          | inl kept ↦ inr (λ h. rw kept (step (passed.down b i h)))
          | inr waits ↦ inl waits
        ]
      ]
    ];
    room = passed.room ∙ (room ∙ (f.room ∙ sym len));
  }

  had : (sets : List ℕ) (q : Waiting) → Flowing next gens start sets q → q.blocks ≡ [] → (before : List ℕ) (b i : ℕ) → i < 64 → Goes next gens b before i → has (slice_index sets b) i ≡ true → has start i ≡ true
  had sets q f empty [] b i low is h = f.entry i (ap (λ x. has (slice_index sets x) i) (sym is) ∙ h)
  had sets q f empty (a ∷ before) b i low (edge, off, path) h = elim (f.closed a b i low edge) [
    | inl waits ↦ absurd (none a (subst (λ l. Contains l a) empty waits))
    | inr step ↦ had sets q f empty before a i low path (or_off _ _ (step h) off)
  ]

  -- the work list is empty
  pub flowing_end : (sets : List ℕ) (q : Waiting) → Flowing next gens start sets q → q.blocks ≡ [] → Settled next gens start sets
  flowing_end sets q f empty = record {
    shown = f.shown;
    sound = λ b i low m. elim (cases_Bool (has (slice_index sets b) i)) [
      | inl h ↦ absurd (false≢true (sym m.2 ∙ had sets q f empty m.0 b i low m.1 h))
      | inr h ↦ h
    ];
  }
