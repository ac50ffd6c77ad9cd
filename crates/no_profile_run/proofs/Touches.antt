-- A tally stays right where a page is touched, and where something is counted.
use Rattle.std.proofs.Common.{◌≡◌, ℕ, zero, suc, ◌+◌, ◌-◌, ◌<◌, ◌≤◌, ◌==◌, nat_lt, inl, inr, ◌⊎◌, Bool, true, false, true≢false, if◌then◌else◌, List, [], ◌∷◌, ◌++◌, append-nil, length, get_or, slice_get, slice_set, Option, Some, None, refl, sym, ap, subst, ◌∙◌, arith}
use Rattle.std.proofs.lemmas.Bool.{cases_Bool, cases_lt, eqb-true, le-ltb, lt-ltb}
use Rattle.std.proofs.lemmas.Option.{same_Some, slice_get_within}
use Rattle.no_profile_run.specs.Profiled.{Entry, different, is_among, pages_in, steps_in}
use Rattle.no_layout.specs.Memory.{page_count, page_of}
use Rattle.no_semantics.specs.Spans.{span_of}
use Rattle.no_profile_run.specs.Moments.{pages_from, pages_of}
use Rattle.no_profile_run.specs.Tallied.{Holds, IsCounter, IsNewest, IsOpen, among, bumped, closed, paid, touched, touched_all}
use Rattle.no_profile_run.specs.declared.tally.Counter.{Counter}
use Rattle.no_profile_run.specs.declared.tally.Open.{Open}
use Rattle.no_profile_run.specs.declared.tally.Tally.{Tally}
use Rattle.no_profile_run.proofs.Sets.{among_at, among_cons, among_first, among_more, equal, or_set_elsewhere, or_set_there, set_length, there_is}

-- ---- one open call

module _ (stamps : List ℕ) (time p : ℕ) (inside : p < length stamps) (count : ℕ) (o : Open) (e : Entry) (past : o.time ≤ time) (is : IsOpen stamps count o e) where
  abbrev old : ℕ
  old = get_or stamps p 0

  abbrev new : List ℕ
  new = slice_set stamps p time

  known : is_among p e.pages ≡ true → (bumped old o).pages ≡ different (p ∷ e.pages)
  known has =
      let low : nat_lt old o.time ≡ false = le-ltb old o.time (is.high p has) in
      ap (λ (b : Bool). (if b then record o { pages = o.pages + 1 } else o).pages) low ∙ is.pages ∙ sym (ap (λ (b : Bool). (if b then 0 else 1) + different e.pages) has ∙ omega arith)

  unknown : is_among p e.pages ≡ false → (bumped old o).pages ≡ different (p ∷ e.pages)
  unknown none =
      let below : old < o.time = elim (cases_lt old o.time) [ inl lt ↦ lt | inr le ↦ absurd (true≢false (sym (is.low p inside le) ∙ none)) ] in
      let low : nat_lt old o.time ≡ true = lt-ltb old o.time below in
      let more : different e.pages + 1 ≡ different (p ∷ e.pages) = sym (ap (λ (b : Bool). (if b then 0 else 1) + different e.pages) none ∙ omega arith) in
      ap (λ (b : Bool). (if b then record o { pages = o.pages + 1 } else o).pages) low ∙ ap (λ (n : ℕ). n + 1) is.pages ∙ more

  same_rest : (b : Bool) → ((if b then record o { pages = o.pages + 1 } else o).since ≡ o.since) × ((if b then record o { pages = o.pages + 1 } else o).time ≡ o.time) × ((if b then record o { pages = o.pages + 1 } else o).function ≡ o.function)
  same_rest true = (refl, refl, refl)
  same_rest false = (refl, refl, refl)

  high : (q : ℕ) → is_among q (p ∷ e.pages) ≡ true → o.time ≤ get_or new q 0
  high q has = elim (equal p q) [
    | inl same ↦ subst (λ (x : ℕ). o.time ≤ get_or new x 0) same (subst (λ (n : ℕ). o.time ≤ n) (sym (or_set_there stamps p time inside)) past)
    | inr other ↦ elim (among_cons q p e.pages has) [
      | inl same ↦ absurd (other same)
      | inr older ↦ subst (λ (n : ℕ). o.time ≤ n) (sym (or_set_elsewhere stamps p q time other)) (is.high q older)
    ]
  ]

  low : (q : ℕ) → q < length new → o.time ≤ get_or new q 0 → is_among q (p ∷ e.pages) ≡ true
  low q lt le = elim (equal p q) [
    | inl same ↦ subst (λ (x : ℕ). is_among x (p ∷ e.pages) ≡ true) same (among_first p e.pages)
    | inr other ↦ among_more q p e.pages (is.low q (omega (arith, lt, set_length stamps p time)) (subst (λ (n : ℕ). o.time ≤ n) (or_set_elsewhere stamps p q time other) le))
  ]

  pub open_touched : IsOpen new count (bumped old o) (record { steps = e.steps; pages = p ∷ e.pages })
  open_touched =
      let rest = same_rest (nat_lt old o.time) in
      record {
        steps = ap (λ (n : ℕ). e.steps + n) rest.0 ∙ is.steps;
        pages = elim (cases_Bool (is_among p e.pages)) [ inl has ↦ known has | inr none ↦ unknown none ];
        high = λ q has. subst (λ (n : ℕ). n ≤ get_or new q 0) (sym rest.1) (high q has);
        low = λ q lt le. low q lt (subst (λ (n : ℕ). n ≤ get_or new q 0) rest.1 le);
      }

  pub rest_bumped : ((bumped old o).time ≡ o.time) × ((bumped old o).function ≡ o.function)
  rest_bumped = (let rest = same_rest (nat_lt old o.time) in (rest.1, rest.2))

-- ---- counters

counter_touched : (b : Bool) (p : ℕ) (c : Counter) (es : List Entry) → IsCounter b c es → IsCounter b c (if b then touched p es else es)
counter_touched false p c es is = is
counter_touched true p c [] is = is
counter_touched true p c (e ∷ older) is = record { calls = is.calls; steps = is.steps; pages = is.pages }

counter_paid : (b : Bool) (n : ℕ) (c : Counter) (es : List Entry) → IsCounter b c es → IsCounter b c (if b then paid n es else es)
counter_paid false n c es is = is
counter_paid true n c [] is = is
counter_paid true n c (e ∷ older) is = record { calls = is.calls; steps = is.steps; pages = is.pages }

-- ---- a tally

among_known : (fs : List ℕ) (change : List Entry → List Entry) (entries : ℕ → List Entry) (k f : ℕ) → slice_get fs k ≡ Some f → among fs change entries f ≡ change (entries f)
among_known fs change entries k f is = ap (λ (b : Bool). if b then change (entries f) else entries f) (among_at fs k f is)

-- a page is touched
pub touch_holds : (fs : List ℕ) (old new : Tally) (entries : ℕ → List Entry) (count p : ℕ) → p < length old.stamps.items
    → new.counters.items ≡ old.counters.items → new.stamps.items ≡ slice_set old.stamps.items p old.time → new.time ≡ old.time → length new.live.items ≡ length old.live.items
    → ((k : ℕ) (o : Open) → slice_get old.live.items k ≡ Some o → slice_get new.live.items k ≡ Some (bumped (get_or old.stamps.items p 0) o))
    → Holds fs old entries count → Holds fs new (among fs (touched p) entries) count
touch_holds fs old new entries count p inside counters stamps time long bumps h = record {
  many = long ∙ h.many;
  opens = λ k o' is.
      let there = there_is old.live.items k (omega (arith, slice_get_within new.live.items k o' is, long)) in
      let o = there.0 in
      let n = h.opens k o there.1 in
      let same : bumped (get_or old.stamps.items p 0) o ≡ o' = same_Some (bumped (get_or old.stamps.items p 0) o) o' (sym (bumps k o there.1) ∙ is) in
      let rest = rest_bumped old.stamps.items old.time p inside count o n.e n.past n.stands in
      let b : Open = bumped (get_or old.stamps.items p 0) o in
      let newest : IsNewest fs (slice_set old.stamps.items p old.time) old.time (among fs (touched p) entries) count k b = record {
        function = n.function ∙ ap Some (sym rest.1);
        e = record { steps = n.e.steps; pages = p ∷ n.e.pages };
        older = n.older;
        is = ap (among fs (touched p) entries) rest.1 ∙ among_known fs (touched p) entries k o.function n.function ∙ ap (touched p) n.is;
        stands = open_touched old.stamps.items old.time p inside count o n.e n.past n.stands;
        past = subst (λ (x : ℕ). x ≤ old.time) (sym rest.0) n.past;
      } in
      subst (IsNewest fs new.stamps.items new.time (among fs (touched p) entries) count k) same
      (subst (λ (t : ℕ). IsNewest fs new.stamps.items t (among fs (touched p) entries) count k b) (sym time)
      (subst (λ (l : List ℕ). IsNewest fs l old.time (among fs (touched p) entries) count k b) (sym stamps) newest));
  counters = λ f c is. counter_touched (is_among f fs) p c (entries f) (h.counters f c (ap (λ (l : List Counter). slice_get l f) (sym counters) ∙ is));
  stamped = λ q. subst (λ (t : ℕ). get_or new.stamps.items q 0 ≤ t) (sym time) (subst (λ (l : List ℕ). get_or l q 0 ≤ old.time) (sym stamps) (elim (equal p q) [
    | inl same ↦ subst (λ (x : ℕ). get_or (slice_set old.stamps.items p old.time) x 0 ≤ old.time) same (subst (λ (n : ℕ). n ≤ old.time) (sym (or_set_there old.stamps.items p old.time inside)) (omega arith))
    | inr other ↦ subst (λ (n : ℕ). n ≤ old.time) (sym (or_set_elsewhere old.stamps.items p q old.time other)) (h.stamped q)
  ]));
}

-- something is counted
pub pay_holds : (fs : List ℕ) (t : Tally) (entries : ℕ → List Entry) (count n : ℕ) → Holds fs t entries count → Holds fs t (among fs (paid n) entries) (count + n)
pay_holds fs t entries count n h = record {
  many = h.many;
  opens = λ k o is.
      let x = h.opens k o is in
      record {
        function = x.function;
        e = record { steps = x.e.steps + n; pages = x.e.pages };
        older = x.older;
        is = among_known fs (paid n) entries k o.function x.function ∙ ap (paid n) x.is;
        stands = record { steps = omega (arith, x.stands.steps); pages = x.stands.pages; high = x.stands.high; low = x.stands.low };
        past = x.past;
      };
  counters = λ f c is. counter_paid (is_among f fs) n c (entries f) (h.counters f c is);
  stamped = h.stamped;
}

-- the same entries
pub holds_as : (fs : List ℕ) (t : Tally) (entries other : ℕ → List Entry) (count : ℕ) → ((f : ℕ) → other f ≡ entries f) → Holds fs t entries count → Holds fs t other count
holds_as fs t entries other count same h = record {
  many = h.many;
  opens = λ k o is. let x = h.opens k o is in record { function = x.function; e = x.e; older = x.older; is = same o.function ∙ x.is; stands = x.stands; past = x.past };
  counters = λ f c is. subst (IsCounter (is_among f fs) c) (sym (same f)) (h.counters f c is);
  stamped = h.stamped;
}

-- ---- pages one after another

touched_snoc : (ps : List ℕ) (p : ℕ) (es : List Entry) → touched_all (ps ++ p ∷ []) es ≡ touched p (touched_all ps es)
touched_snoc [] p es = refl
touched_snoc (q ∷ ps) p es = touched_snoc ps p (touched q es)

among_then : (fs ps : List ℕ) (p : ℕ) (entries : ℕ → List Entry) (f : ℕ) → among fs (touched_all (ps ++ p ∷ [])) entries f ≡ among fs (touched p) (among fs (touched_all ps) entries) f
among_then fs ps p entries f = of (is_among f fs)
  where
    of : (b : Bool) → (if b then touched_all (ps ++ p ∷ []) (entries f) else entries f) ≡ (if b then touched p (if b then touched_all ps (entries f) else entries f) else (if b then touched_all ps (entries f) else entries f))
    of true = touched_snoc ps p (entries f)
    of false = refl

among_none : (fs : List ℕ) (entries : ℕ → List Entry) (f : ℕ) → among fs (touched_all []) entries f ≡ entries f
among_none fs entries f = of (is_among f fs)
  where
    of : (b : Bool) → (if b then entries f else entries f) ≡ entries f
    of true = refl
    of false = refl

pages_snoc : (p n : ℕ) → pages_from p (n + 1) ≡ pages_from p n ++ (p + n) ∷ []
pages_snoc p n = (let e : n + 1 ≡ suc n = omega arith in ap (pages_from p) e ∙ of p n)
  where
    of : (p n : ℕ) → pages_from p (suc n) ≡ pages_from p n ++ (p + n) ∷ []
    of p zero = (let e : p ≡ p + 0 = omega arith in ap (λ (k : ℕ). k ∷ []) e)
    of p (suc n) = (let e : p + 1 + n ≡ p + suc n = omega arith in ap (λ (l : List ℕ). p ∷ l) (of (p + 1) n ∙ ap (λ (k : ℕ). pages_from (p + 1) n ++ k ∷ []) e))

-- the first pages of a range were told
abbrev pub HasTouched : Tally → Tally → ℕ → ℕ → Type 0
HasTouched old new first n = (fs : List ℕ) (entries : ℕ → List Entry) (count : ℕ) → Holds fs old entries count → Holds fs new (among fs (touched_all (pages_from first n)) entries) count

pub none_touched : (t : Tally) (first : ℕ) → HasTouched t t first 0
none_touched t first fs entries count h = holds_as fs t entries (among fs (touched_all []) entries) count (among_none fs entries) h

pub next_touched : (old mid new : Tally) (first n : ℕ) → HasTouched old mid first n
    → ((fs : List ℕ) (entries : ℕ → List Entry) (count : ℕ) → Holds fs mid entries count → Holds fs new (among fs (touched (first + n)) entries) count) → HasTouched old new first (n + 1)
next_touched old mid new first n done one fs entries count h =
    let mid' = done fs entries count h in
    subst (λ (ps : List ℕ). Holds fs new (among fs (touched_all ps) entries) count) (sym (pages_snoc first n))
    (holds_as fs new (among fs (touched (first + n)) (among fs (touched_all (pages_from first n)) entries)) (among fs (touched_all (pages_from first n ++ (first + n) ∷ [])) entries) count (among_then fs (pages_from first n) (first + n) entries)
    (one fs (among fs (touched_all (pages_from first n)) entries) count mid'))

-- the pages of a range of bytes
pub span_pages : (at n : ℕ) → 0 < n → pages_of (span_of at n) ≡ pages_from (page_of at) (page_count at n)
span_pages at n some = elim (cases_Bool (n == 0)) [
  | inl is ↦ absurd (let e : n ≡ 0 = eqb-true n 0 is in omega (arith, e))
  | inr other ↦
      ap pages_of (ap (λ (b : Bool). if b then [] else record { at = at; len = n } ∷ []) other) ∙ ap (λ (b : Bool). (if b then [] else pages_from (page_of at) (page_count at n)) ++ []) other ∙ append-nil (pages_from (page_of at) (page_count at n))
]

pub nothing_touched : (fs : List ℕ) (t : Tally) (entries : ℕ → List Entry) (count at n : ℕ) → n ≡ 0 → Holds fs t entries count → Holds fs t (among fs (touched_all (pages_of (span_of at n))) entries) count
nothing_touched fs t entries count at n none h = subst (λ (k : ℕ). Holds fs t (among fs (touched_all (pages_of (span_of at k))) entries) count) (sym none) (none_touched t 0 fs entries count h)

pub range_touched : (old new : Tally) (at n first many : ℕ) → 0 < n → first ≡ page_of at → many ≡ page_count at n → HasTouched old new first many → (fs : List ℕ) (entries : ℕ → List Entry) (count : ℕ) → Holds fs old entries count → Holds fs new (among fs (touched_all (pages_of (span_of at n))) entries) count
range_touched old new at n first many some is long told fs entries count h =
    subst (λ (ps : List ℕ). Holds fs new (among fs (touched_all ps) entries) count) (sym (span_pages at n some))
    (subst (λ (k : ℕ). Holds fs new (among fs (touched_all (pages_from (page_of at) k)) entries) count) long
    (subst (λ (k : ℕ). Holds fs new (among fs (touched_all (pages_from k many)) entries) count) is (told fs entries count h)))
