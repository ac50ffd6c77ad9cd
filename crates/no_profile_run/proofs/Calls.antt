-- A tally stays right where a call begins, and where one returns.
use Rattle.std.proofs.Common.{◌≡◌, ℕ, zero, suc, ◌+◌, ◌-◌, ◌<◌, ◌≤◌, ◌==◌, inl, inr, ◌⊎◌, Bool, true, false, true≢false, if◌then◌else◌, List, [], ◌∷◌, ◌++◌, length, length-append, get_or, slice_get, slice_set, Option, Some, None, refl, sym, ap, subst, ◌∙◌, arith}
use Rattle.std.proofs.lemmas.Bool.{cases_Bool, eq-eqb, eqb-true}
use Rattle.std.proofs.lemmas.Option.{same_Some, slice_get_within}
use Rattle.no_profile_run.specs.Profiled.{Entry, different, is_among, pages_in, steps_in}
use Rattle.no_profile_run.specs.Tallied.{Holds, IsCounter, IsNewest, IsOpen, HasDepth, KeepsDepths, Tallied, begun, called_in, closed, outermost, times}
use Rattle.no_profile_run.specs.declared.tally.Counter.{Counter}
use Rattle.no_profile_run.specs.declared.tally.Open.{Open}
use Rattle.no_profile_run.specs.declared.tally.Tally.{Tally}
use Rattle.no_profile_run.proofs.Sets.{among_at, among_first, equal, front_or_last, get_front, get_last, outermost_among, set_elsewhere, set_there, snoc_last, snoc_other, times_none, times_other, times_same, times_some}

-- ---- counters

-- one counter was changed
pub counter_at : (xs : List Counter) (f k : ℕ) (v c : Counter) → f < length xs → slice_get (slice_set xs f v) k ≡ Some c → ((k ≡ f) × (c ≡ v)) ⊎ ((f ≡ k → ⊥) × (slice_get xs k ≡ Some c))
counter_at xs f k v c lt e = elim (equal f k) [
  | inl same ↦ inl (sym same, sym (same_Some v c (sym (set_there xs f v lt) ∙ ap (slice_get (slice_set xs f v)) same ∙ e)))
  | inr other ↦ inr (other, sym (set_elsewhere xs f k v other) ∙ e)
]

begun_same : (f : ℕ) (entries : ℕ → List Entry) → begun f entries f ≡ record { steps = 0; pages = [] } ∷ entries f
begun_same f entries = ap (λ (b : Bool). if b then record { steps = 0; pages = [] } ∷ entries f else entries f) (eq-eqb f f refl)

begun_other : (f g : ℕ) (entries : ℕ → List Entry) → (f ≡ g → ⊥) → begun f entries g ≡ entries g
begun_other f g entries other = of (g == f) refl
  where
    of : (b : Bool) → (g == f) ≡ b → (if b then record { steps = 0; pages = [] } ∷ entries g else entries g) ≡ entries g
    of true is = absurd (other (sym (eqb-true g f is)))
    of false is = refl

-- ---- an outermost call begins

module _ (fs : List ℕ) (old new : Tally) (entries : ℕ → List Entry) (count f calls at : ℕ) (c : Counter) (calls_is : calls ≡ c.calls + 1) (at_is : at ≡ old.time + 1) (none : is_among f fs ≡ false)
    (there : slice_get old.counters.items f ≡ Some c)
    (counters : new.counters.items ≡ slice_set old.counters.items f (record { depth = c.depth; calls = calls; steps = c.steps; pages = c.pages }))
    (live : new.live.items ≡ old.live.items ++ record { function = f; since = count; time = at; pages = 0 } ∷ [])
    (stamps : new.stamps.items ≡ old.stamps.items) (time : new.time ≡ at) (h : Holds fs old entries count) where
  abbrev o' : Open
  o' = record { function = f; since = count; time = at; pages = 0 }

  abbrev fs' : List ℕ
  fs' = fs ++ f ∷ []

  not_it : (k : ℕ) (o : Open) → slice_get fs k ≡ Some o.function → f ≡ o.function → ⊥
  not_it k o is same = true≢false (sym (among_at fs k f (is ∙ ap Some (sym same))) ∙ none)

  older_newest : (k : ℕ) (o : Open) → IsNewest fs old.stamps.items old.time entries count k o → IsNewest fs' old.stamps.items at (begun f entries) count k o
  older_newest k o n = record {
    function = get_front fs f k o.function n.function;
    e = n.e;
    older = n.older;
    is = begun_other f o.function entries (not_it k o n.function) ∙ n.is;
    stands = n.stands;
    past = omega (arith, n.past, at_is);
  }

  newest : IsNewest fs' old.stamps.items at (begun f entries) count (length fs) o'
  newest = record {
    function = get_last fs f;
    e = record { steps = 0; pages = [] };
    older = entries f;
    is = begun_same f entries;
    stands = record {
      steps = omega arith;
      pages = refl;
      high = λ p has. absurd (true≢false (sym has));
      low = λ p lt le. absurd (omega (arith, le, h.stamped p, at_is));
    };
    past = omega arith;
  }

  counter_begun : (k : ℕ) (d : Counter) → slice_get new.counters.items k ≡ Some d → IsCounter (is_among k fs') d (begun f entries k)
  counter_begun k d is = elim (counter_at old.counters.items f k _ d (slice_get_within old.counters.items f c there) (ap (λ (l : List Counter). slice_get l k) (sym counters) ∙ is)) [
    | inl here ↦
        let x = h.counters f c there in
        let y : IsCounter false c (entries f) = subst (λ (b : Bool). IsCounter b c (entries f)) none x in
        let made : IsCounter true (record { depth = c.depth; calls = calls; steps = c.steps; pages = c.pages }) (record { steps = 0; pages = [] } ∷ entries f) = record {
          calls = omega (arith, y.calls, calls_is);
          steps = y.steps;
          pages = y.pages;
        } in
        let at_f : IsCounter (is_among f fs') (record { depth = c.depth; calls = calls; steps = c.steps; pages = c.pages }) (begun f entries f) =
        subst (λ (b : Bool). IsCounter b (record { depth = c.depth; calls = calls; steps = c.steps; pages = c.pages }) (begun f entries f)) (sym (snoc_last f fs))
        (subst (λ (es : List Entry). IsCounter true (record { depth = c.depth; calls = calls; steps = c.steps; pages = c.pages }) es) (sym (begun_same f entries)) made) in
        subst (λ (z : Counter). IsCounter (is_among k fs') z (begun f entries k)) (sym here.1) (subst (λ (z : ℕ). IsCounter (is_among z fs') (record { depth = c.depth; calls = calls; steps = c.steps; pages = c.pages }) (begun f entries z)) (sym here.0) at_f)
    | inr there' ↦
        subst (λ (b : Bool). IsCounter b d (begun f entries k)) (sym (snoc_other k f fs there'.0)) (subst (IsCounter (is_among k fs) d) (sym (begun_other f k entries there'.0)) (h.counters k d there'.1))
  ]

  pub begin_holds : Holds (fs ++ f ∷ []) new (begun f entries) count
  begin_holds = record {
    many = ap length live ∙ length-append old.live.items (o' ∷ []) ∙ ap (λ (n : ℕ). n + 1) h.many ∙ sym (length-append fs (f ∷ []));
    opens = λ k o is.
        let at_old : IsNewest fs' old.stamps.items at (begun f entries) count k o = elim (front_or_last old.live.items o' k o (ap (λ (l : List Open). slice_get l k) (sym live) ∙ is)) [
          | inl front ↦ older_newest k o (h.opens k o front)
          | inr last ↦ subst (λ (z : Open). IsNewest fs' old.stamps.items at (begun f entries) count k z) (sym last.1) (subst (λ (j : ℕ). IsNewest fs' old.stamps.items at (begun f entries) count j o') (sym (last.0 ∙ h.many)) newest)
        ] in
        subst (λ (t : ℕ). IsNewest fs' new.stamps.items t (begun f entries) count k o) (sym time) (subst (λ (l : List ℕ). IsNewest fs' l at (begun f entries) count k o) (sym stamps) at_old);
    counters = counter_begun;
    stamped = λ p. omega (arith, h.stamped p, at_is, time, ap (λ (l : List ℕ). get_or l p 0) stamps);
  }

-- ---- an outermost call returns

module _ (fs : List ℕ) (f : ℕ) (old new : Tally) (entries : ℕ → List Entry) (count spent steps pages : ℕ) (o : Open) (c : Counter) (none : is_among f fs ≡ false) (steps_is : steps ≡ c.steps + spent) (pages_is : pages ≡ c.pages + o.pages)
    (live : old.live.items ≡ new.live.items ++ o ∷ []) (there : slice_get old.counters.items o.function ≡ Some c) (spends : spent + o.since ≡ count)
    (counters : new.counters.items ≡ slice_set old.counters.items o.function (record { depth = c.depth; calls = c.calls; steps = steps; pages = pages }))
    (stamps : new.stamps.items ≡ old.stamps.items) (time : new.time ≡ old.time) (h : Holds (fs ++ f ∷ []) old entries count) where
  abbrev c' : Counter
  c' = record { depth = c.depth; calls = c.calls; steps = steps; pages = pages }

  many : length new.live.items ≡ length fs
  many = omega (arith, ap length live, length-append new.live.items (o ∷ []), h.many, length-append fs (f ∷ []))

  at_last : slice_get old.live.items (length fs) ≡ Some o
  at_last = ap (λ (l : List Open). slice_get l (length fs)) live ∙ ap (slice_get (new.live.items ++ o ∷ [])) (sym many) ∙ get_last new.live.items o

  abbrev n : IsNewest (fs ++ f ∷ []) old.stamps.items old.time entries count (length fs) o
  n = h.opens (length fs) o at_last

  is_f : o.function ≡ f
  is_f = sym (same_Some f o.function (sym (get_last fs f) ∙ n.function))

  front : (k g : ℕ) → k < length fs → slice_get (fs ++ f ∷ []) k ≡ Some g → slice_get fs k ≡ Some g
  front k g lt is = elim (front_or_last fs f k g is) [ inl there' ↦ there' | inr last ↦ absurd (omega (arith, lt, last.0)) ]

  more_steps : c.steps ≡ steps_in n.older → steps ≡ n.e.steps + steps_in n.older
  more_steps e = omega (arith, e, n.stands.steps, spends, steps_is)

  more_pages : c.pages ≡ pages_in n.older → pages ≡ different n.e.pages + pages_in n.older
  more_pages e = omega (arith, e, n.stands.pages, pages_is)

  closes : IsCounter false c' (entries f)
  closes =
      let x = h.counters o.function c there in
      let at_f : IsCounter (is_among f (fs ++ f ∷ [])) c (entries f) = subst (λ (z : ℕ). IsCounter (is_among z (fs ++ f ∷ [])) c (entries z)) is_f x in
      let has : entries f ≡ n.e ∷ n.older = ap entries (sym is_f) ∙ n.is in
      let y : IsCounter true c (n.e ∷ n.older) = subst (IsCounter true c) has (subst (λ (b : Bool). IsCounter b c (entries f)) (snoc_last f fs) at_f) in
      let made : IsCounter false c' (n.e ∷ n.older) = record {
        calls = y.calls;
        steps = more_steps y.steps;
        pages = more_pages y.pages;
      } in
      subst (IsCounter false c') (sym has) made

  pub close_holds : Holds fs new entries count
  close_holds = record {
    many = many;
    opens = λ k x is.
        let lt : k < length fs = omega (arith, slice_get_within new.live.items k x is, many) in
        let y = h.opens k x (ap (λ (l : List Open). slice_get l k) live ∙ get_front new.live.items o k x is) in
        let at_old : IsNewest fs old.stamps.items old.time entries count k x = record { function = front k x.function lt y.function; e = y.e; older = y.older; is = y.is; stands = y.stands; past = y.past } in
        subst (λ (t : ℕ). IsNewest fs new.stamps.items t entries count k x) (sym time) (subst (λ (l : List ℕ). IsNewest fs l old.time entries count k x) (sym stamps) at_old);
    counters = λ k d is. elim (counter_at old.counters.items o.function k c' d (slice_get_within old.counters.items o.function c there) (ap (λ (l : List Counter). slice_get l k) (sym counters) ∙ is)) [
      | inl here ↦
          let at_f : IsCounter (is_among f fs) c' (entries f) = subst (λ (b : Bool). IsCounter b c' (entries f)) (sym none) closes in
          subst (λ (z : Counter). IsCounter (is_among k fs) z (entries k)) (sym here.1) (subst (λ (z : ℕ). IsCounter (is_among z fs) c' (entries z)) (sym (here.0 ∙ is_f)) at_f)
      | inr there' ↦
          subst (λ (b : Bool). IsCounter b d (entries k)) (snoc_other k f fs (λ e. there'.0 (is_f ∙ e))) (h.counters k d there'.1)
    ];
    stamped = λ p. omega (arith, h.stamped p, time, ap (λ (l : List ℕ). get_or l p 0) stamps);
  }

-- ---- how many calls of a function are open

-- counters that differ in that alone
pub depth_holds : (fs : List ℕ) (old new : Tally) (entries : ℕ → List Entry) (count f : ℕ) (c : Counter) (depth : ℕ) → slice_get old.counters.items f ≡ Some c
    → new.counters.items ≡ slice_set old.counters.items f (record { depth = depth; calls = c.calls; steps = c.steps; pages = c.pages }) → new.live.items ≡ old.live.items → new.stamps.items ≡ old.stamps.items → new.time ≡ old.time
    → Holds fs old entries count → Holds fs new entries count
depth_holds fs old new entries count f c depth there counters live stamps time h = record {
  many = ap length live ∙ h.many;
  opens = λ k o is.
      subst (λ (t : ℕ). IsNewest fs new.stamps.items t entries count k o) (sym time) (subst (λ (l : List ℕ). IsNewest fs l old.time entries count k o) (sym stamps) (h.opens k o (ap (λ (l : List Open). slice_get l k) (sym live) ∙ is)));
  counters = λ k d is. elim (counter_at old.counters.items f k (record { depth = depth; calls = c.calls; steps = c.steps; pages = c.pages }) d (slice_get_within old.counters.items f c there) (ap (λ (l : List Counter). slice_get l k) (sym counters) ∙ is)) [
    | inl here ↦
        let x = h.counters f c there in
        let y : IsCounter (is_among f fs) (record { depth = depth; calls = c.calls; steps = c.steps; pages = c.pages }) (entries f) = record { calls = x.calls; steps = x.steps; pages = x.pages } in
        subst (λ (z : Counter). IsCounter (is_among k fs) z (entries k)) (sym here.1) (subst (λ (z : ℕ). IsCounter (is_among z fs) (record { depth = depth; calls = c.calls; steps = c.steps; pages = c.pages }) (entries z)) (sym here.0) y)
    | inr there' ↦ h.counters k d there'.1
  ];
  stamped = λ p. omega (arith, h.stamped p, time, ap (λ (l : List ℕ). get_or l p 0) stamps);
}

-- what is known of each counter where one was set that has the depth that it had
pub depths_set : (xs : List Counter) (f : ℕ) (c v : Counter) → slice_get xs f ≡ Some c → v.depth ≡ c.depth → (k : ℕ) (d : Counter) → slice_get (slice_set xs f v) k ≡ Some d → (x : Counter) × (slice_get xs k ≡ Some x) × (d.depth ≡ x.depth)
depths_set xs f c v there same k d is = elim (counter_at xs f k v d (slice_get_within xs f c there) is) [
  | inl here ↦ (c, ap (slice_get xs) here.0 ∙ there, ap (λ (z : Counter). z.depth) here.1 ∙ same)
  | inr other ↦ (d, other.1, refl)
]

-- the same of one that was set
pub depth_set : (xs : List Counter) (f depth : ℕ) (c v : Counter) → slice_get xs f ≡ Some c → v.depth ≡ depth → HasDepth f depth xs (slice_set xs f v)
depth_set xs f depth c v there same k d is = elim (counter_at xs f k v d (slice_get_within xs f c there) is) [
  | inl here ↦ inl (here.0, ap (λ (z : Counter). z.depth) here.1 ∙ same)
  | inr other ↦ inr (other.0, d, other.1, refl)
]

-- ---- calls and returns

-- how many calls are open where one more is
deeper : (inside : List ℕ) (old : List Counter) (new : List Counter) (f depth : ℕ) → depth ≡ times f inside + 1 → ((k : ℕ) (c : Counter) → slice_get old k ≡ Some c → c.depth ≡ times k inside) → HasDepth f depth old new
    → (k : ℕ) (c : Counter) → slice_get new k ≡ Some c → c.depth ≡ times k (f ∷ inside)
deeper inside old new f depth is before has k c e = elim (has k c e) [
  | inl here ↦ here.1 ∙ is ∙ sym (times_same f inside) ∙ ap (λ (x : ℕ). times x (f ∷ inside)) (sym here.0)
  | inr other ↦ other.3 ∙ before k other.1 other.2 ∙ sym (times_other k f inside other.0)
]

higher : (inside : List ℕ) (old : List Counter) (new : List Counter) (f depth : ℕ) → depth ≡ times f inside → ((k : ℕ) (c : Counter) → slice_get old k ≡ Some c → c.depth ≡ times k (f ∷ inside)) → HasDepth f depth old new
    → (k : ℕ) (c : Counter) → slice_get new k ≡ Some c → c.depth ≡ times k inside
higher inside old new f depth is before has k c e = elim (has k c e) [
  | inl here ↦ here.1 ∙ is ∙ ap (λ (x : ℕ). times x inside) (sym here.0)
  | inr other ↦ other.3 ∙ before k other.1 other.2 ∙ times_other k f inside other.0
]

kept_depths : (inside : List ℕ) (old new : List Counter) → ((k : ℕ) (c : Counter) → slice_get old k ≡ Some c → c.depth ≡ times k inside) → KeepsDepths old new → (k : ℕ) (c : Counter) → slice_get new k ≡ Some c → c.depth ≡ times k inside
kept_depths inside old new before keeps k c e = (let x = keeps k c e in x.2 ∙ before k x.0 x.1)

-- a call of a function that has one open
pub call_again : (inside : List ℕ) (f depth count : ℕ) (old new : Tally) (c : Counter) (entries : ℕ → List Entry) → slice_get old.counters.items f ≡ Some c → (c.depth ≡ 0 → ⊥) → depth ≡ c.depth + 1
    → ((fs : List ℕ) (entries : ℕ → List Entry) (count : ℕ) → Holds fs old entries count → Holds fs new entries count) → HasDepth f depth old.counters.items new.counters.items
    → Tallied inside old entries count → Tallied (f ∷ inside) new (called_in inside f entries) count
call_again inside f depth count old new c entries there some is holds has t =
    let before : c.depth ≡ times f inside = t.depth f c there in
    let known : is_among f inside ≡ true = times_some f inside (λ z. some (before ∙ z)) in
    record {
      holds = subst (λ (b : Bool). Holds (if b then outermost inside else outermost inside ++ f ∷ []) new (if b then entries else begun f entries) count) (sym known) (holds (outermost inside) entries count t.holds);
      depth = deeper inside old.counters.items new.counters.items f depth (is ∙ ap (λ (n : ℕ). n + 1) before) t.depth has;
    }

-- a call of one that has none
pub call_first : (inside : List ℕ) (f depth count : ℕ) (old mid new : Tally) (c : Counter) (entries : ℕ → List Entry) → slice_get old.counters.items f ≡ Some c → c.depth ≡ 0 → depth ≡ c.depth + 1
    → ((fs : List ℕ) (entries : ℕ → List Entry) → is_among f fs ≡ false → Holds fs old entries count → Holds (fs ++ f ∷ []) mid (begun f entries) count) → KeepsDepths old.counters.items mid.counters.items
    → ((fs : List ℕ) (entries : ℕ → List Entry) (count : ℕ) → Holds fs mid entries count → Holds fs new entries count) → HasDepth f depth mid.counters.items new.counters.items
    → Tallied inside old entries count → Tallied (f ∷ inside) new (called_in inside f entries) count
call_first inside f depth count old mid new c entries there none is begins keeps holds has t =
    let before : c.depth ≡ times f inside = t.depth f c there in
    let unknown : is_among f inside ≡ false = times_none f inside (sym before ∙ none) in
    record {
      holds = subst (λ (b : Bool). Holds (if b then outermost inside else outermost inside ++ f ∷ []) new (if b then entries else begun f entries) count) (sym unknown)
          (holds (outermost inside ++ f ∷ []) (begun f entries) count (begins (outermost inside) entries (outermost_among f inside ∙ unknown) t.holds));
      depth = deeper inside mid.counters.items new.counters.items f depth (is ∙ ap (λ (n : ℕ). n + 1) before) (kept_depths inside old.counters.items mid.counters.items t.depth keeps) has;
    }

-- a return inside another call of the function
pub back_again : (inside : List ℕ) (f depth count : ℕ) (old new : Tally) (c : Counter) (entries : ℕ → List Entry) → slice_get old.counters.items f ≡ Some c → c.depth ≡ depth + 1 → (depth ≡ 0 → ⊥)
    → ((fs : List ℕ) (entries : ℕ → List Entry) (count : ℕ) → Holds fs old entries count → Holds fs new entries count) → HasDepth f depth old.counters.items new.counters.items
    → Tallied (f ∷ inside) old entries count → Tallied inside new entries count
back_again inside f depth count old new c entries there is some holds has t =
    let one : c.depth ≡ times f inside + 1 = t.depth f c there ∙ times_same f inside in
    let same : depth ≡ times f inside = omega (arith, one, is) in
    let known : is_among f inside ≡ true = times_some f inside (λ z. some (same ∙ z)) in
    record {
      holds = holds (outermost inside) entries count (subst (λ (b : Bool). Holds (if b then outermost inside else outermost inside ++ f ∷ []) old entries count) known t.holds);
      depth = higher inside old.counters.items new.counters.items f depth same t.depth has;
    }

-- a return of an outermost call
pub back_last : (inside : List ℕ) (f depth count : ℕ) (old mid new : Tally) (c : Counter) (entries : ℕ → List Entry) → slice_get old.counters.items f ≡ Some c → c.depth ≡ depth + 1 → depth ≡ 0
    → ((fs : List ℕ) (entries : ℕ → List Entry) (count : ℕ) → Holds fs old entries count → Holds fs mid entries count) → HasDepth f depth old.counters.items mid.counters.items
    → ((fs : List ℕ) (f : ℕ) (entries : ℕ → List Entry) → is_among f fs ≡ false → Holds (fs ++ f ∷ []) mid entries count → Holds fs new entries count) → KeepsDepths mid.counters.items new.counters.items
    → Tallied (f ∷ inside) old entries count → Tallied inside new entries count
back_last inside f depth count old mid new c entries there is none holds has closes keeps t =
    let one : c.depth ≡ times f inside + 1 = t.depth f c there ∙ times_same f inside in
    let same : depth ≡ times f inside = omega (arith, one, is) in
    let unknown : is_among f inside ≡ false = times_none f inside (sym same ∙ none) in
    record {
      holds = closes (outermost inside) f entries (outermost_among f inside ∙ unknown) (holds (outermost inside ++ f ∷ []) entries count (subst (λ (b : Bool). Holds (if b then outermost inside else outermost inside ++ f ∷ []) old entries count) unknown t.holds));
      depth = kept_depths inside mid.counters.items new.counters.items (higher inside old.counters.items mid.counters.items f depth same t.depth has) keeps;
    }

-- ---- the end

-- the newest outermost call, where one is open
pub newest_of : (inside : List ℕ) → (outermost inside ≡ []) ⊎ ((f : ℕ) × (rest : List ℕ) × (outermost inside ≡ outermost rest ++ f ∷ []) × (is_among f (outermost rest) ≡ false))
newest_of [] = inl refl
newest_of (f ∷ fs) = of (is_among f fs) refl (newest_of fs)
  where
    of : (b : Bool) → is_among f fs ≡ b → (outermost fs ≡ []) ⊎ ((g : ℕ) × (rest : List ℕ) × (outermost fs ≡ outermost rest ++ g ∷ []) × (is_among g (outermost rest) ≡ false))
        → ((if b then outermost fs else outermost fs ++ f ∷ []) ≡ []) ⊎ ((g : ℕ) × (rest : List ℕ) × ((if b then outermost fs else outermost fs ++ f ∷ []) ≡ outermost rest ++ g ∷ []) × (is_among g (outermost rest) ≡ false))
    of true is rest = rest
    of false is rest = inr (f, fs, refl, outermost_among f fs ∙ is)

-- some of the newest were closed
abbrev pub HasClosed : Tally → Tally → ℕ → Type 0
HasClosed old new count = (inside : List ℕ) (entries : ℕ → List Entry) → Tallied inside old entries count → (rest : List ℕ) × Holds (outermost rest) new entries count

pub none_closed : (t : Tally) (count : ℕ) → HasClosed t t count
none_closed t count inside entries h = (inside, h.holds)

pub one_closed : (old mid new : Tally) (count : ℕ) → HasClosed old mid count → length new.live.items + 1 ≡ length mid.live.items
    → ((fs : List ℕ) (f : ℕ) (entries : ℕ → List Entry) → is_among f fs ≡ false → Holds (fs ++ f ∷ []) mid entries count → Holds fs new entries count) → HasClosed old new count
one_closed old mid new count done fewer closes inside entries h =
    let x = done inside entries h in
    elim (newest_of x.0) [
      | inl none ↦ absurd (omega (arith, fewer, x.1.many, ap length none))
      | inr last ↦ (last.1, closes (outermost last.1) last.0 entries last.3 (subst (λ (fs : List ℕ). Holds fs mid entries count) last.2 x.1))
    ]

pub all_closed : (old new : Tally) (count : ℕ) → HasClosed old new count → length new.live.items ≡ 0 → (inside : List ℕ) (entries : ℕ → List Entry) → Tallied inside old entries count
    → (f : ℕ) (c : Counter) → slice_get new.counters.items f ≡ Some c → IsCounter false c (entries f)
all_closed old new count done empty inside entries h f c is =
    let x = done inside entries h in
    elim (newest_of x.0) [
      | inr last ↦ absurd (omega (arith, empty, x.1.many, ap length last.2, length-append (outermost last.1) (last.0 ∷ [])))
      | inl none ↦ (let y = x.1.counters f c is in subst (λ (fs : List ℕ). IsCounter (is_among f fs) c (entries f)) none y)
    ]
