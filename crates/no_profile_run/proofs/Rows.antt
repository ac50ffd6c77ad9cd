-- A tally stays right behind a row.
use Rattle.std.proofs.Common.{◌≡◌, ℕ, ◌+◌, ◌<◌, ◌≤◌, ◌==◌, inl, inr, ◌⊎◌, Bool, true, false, true≢false, if◌then◌else◌, List, [], ◌∷◌, ◌++◌, append_assoc, length, map, slice_get, Option, Some, None, refl, sym, ap, subst, ◌∙◌, arith}
use Rattle.std.proofs.lemmas.Bool.{cases_Bool, eq-eqb, eqb-true}
use Rattle.no_layout.specs.Memory.{page_count, page_of}
use Rattle.no_machine.specs.Watching.{spans_of}
use Rattle.no_machine.specs.declared.watch.Place.{Place}
use Rattle.no_machine.specs.declared.watch.Touch.{Touch}
use Rattle.no_semantics.specs.Acting.{row}
use Rattle.no_semantics.specs.Rows.{Row, Next, Calling, Goes, needed, touched_by}
use Rattle.no_semantics.specs.Rows as rows'
use Rattle.no_semantics.specs.Spans.{Span, span_of}
use Rattle.no_semantics.specs.States.{Frame, State}
use Rattle.no_semantics.specs.Values.{Program}
use Rattle.no_profile_run.specs.Moments.{Moment, called_by, moment_of, open_from, open_in, pages_from, pages_of}
use Rattle.no_profile_run.specs.Profiled.{Entry, called, entries_of, grown, is_among, is_call, touching, with_row}
use Rattle.no_profile_run.specs.Tallied.{HasPassed, Holds, Tallied, among, begun, called_in, outermost, paid, times, touched, touched_all}
use Rattle.no_profile_run.specs.declared.tally.Counter.{Counter}
use Rattle.no_profile_run.specs.declared.tally.Tally.{Tally}
use Rattle.no_profile_run.proofs.Frames.{Frames, frames}
use Rattle.no_profile_run.proofs.Sets.{equal, outermost_among}
use Rattle.no_profile_run.proofs.Touches.{holds_as, pay_holds}

-- ---- what was touched

pages_append : (xs ys : List Span) → pages_of (xs ++ ys) ≡ pages_of xs ++ pages_of ys
pages_append [] ys = refl
pages_append (s ∷ xs) ys =
    let one = if s.len == 0 then [] else pages_from (page_of s.at) (page_count s.at s.len) in
    ap (λ (l : List ℕ). one ++ l) (pages_append xs ys) ∙ sym (append_assoc one (pages_of xs) (pages_of ys))

touched_append : (xs ys : List ℕ) (es : List Entry) → touched_all (xs ++ ys) es ≡ touched_all ys (touched_all xs es)
touched_append [] ys es = refl
touched_append (x ∷ xs) ys es = touched_append xs ys (touched x es)

-- two ranges, one after the other
pub pair_touched : (fs : List ℕ) (old mid new : Tally) (entries : ℕ → List Entry) (count : ℕ) (xs ys : List Span)
    → ((fs : List ℕ) (entries : ℕ → List Entry) (count : ℕ) → Holds fs old entries count → Holds fs mid (among fs (touched_all (pages_of xs)) entries) count)
    → ((fs : List ℕ) (entries : ℕ → List Entry) (count : ℕ) → Holds fs mid entries count → Holds fs new (among fs (touched_all (pages_of ys)) entries) count)
    → Holds fs old entries count → Holds fs new (among fs (touched_all (pages_of (xs ++ ys))) entries) count
pair_touched fs old mid new entries count xs ys one two h =
    holds_as fs new (among fs (touched_all (pages_of ys)) (among fs (touched_all (pages_of xs)) entries)) (among fs (touched_all (pages_of (xs ++ ys))) entries) count same (two fs (among fs (touched_all (pages_of xs)) entries) count (one fs entries count h))
  where
    of : (f : ℕ) (b : Bool) → (if b then touched_all (pages_of xs ++ pages_of ys) (entries f) else entries f) ≡ (if b then touched_all (pages_of ys) (if b then touched_all (pages_of xs) (entries f) else entries f) else (if b then touched_all (pages_of xs) (entries f) else entries f))
    of f true = touched_append (pages_of xs) (pages_of ys) (entries f)
    of f false = refl

    same : (f : ℕ) → among fs (touched_all (pages_of (xs ++ ys))) entries f ≡ among fs (touched_all (pages_of ys)) (among fs (touched_all (pages_of xs)) entries) f
    same f = ap (λ (ps : List ℕ). among fs (touched_all ps) entries f) (pages_append xs ys) ∙ of f (is_among f fs)

pub nothing_told : (fs : List ℕ) (t : Tally) (entries : ℕ → List Entry) (count : ℕ) → Holds fs t entries count → Holds fs t (among fs (touched_all []) entries) count
nothing_told fs t entries count h = holds_as fs t entries (among fs (touched_all []) entries) count (λ f. of f (is_among f fs)) h
  where
    of : (f : ℕ) (b : Bool) → (if b then entries f else entries f) ≡ entries f
    of f true = refl
    of f false = refl

-- ---- entries behind a row

all_touched : (ps : List ℕ) (e : Entry) (older : List Entry) → touched_all ps (e ∷ older) ≡ record { steps = e.steps; pages = touching ps e.pages } ∷ older
all_touched [] e older = refl
all_touched (p ∷ ps) e older = all_touched ps (record { steps = e.steps; pages = p ∷ e.pages }) older

none_touched : (ps : List ℕ) → touched_all ps [] ≡ []
none_touched [] = refl
none_touched (p ∷ ps) = none_touched ps

grown_is : (m : Moment) (es : List Entry) → paid m.cost (touched_all m.pages es) ≡ grown m es
grown_is m [] = ap (paid m.cost) (none_touched m.pages)
grown_is m (e ∷ older) = ap (paid m.cost) (all_touched m.pages e older)

-- what was told before a call or a return
abbrev told : Moment → List ℕ → (ℕ → List Entry) → ℕ → List Entry
told m inside entries = among (outermost inside) (paid m.cost) (among (outermost inside) (touched_all m.pages) entries)

told_in : (m : Moment) (inside : List ℕ) (entries : ℕ → List Entry) (f : ℕ) → is_among f inside ≡ true → told m inside entries f ≡ grown m (entries f)
told_in m inside entries f known =
    let there : is_among f (outermost inside) ≡ true = outermost_among f inside ∙ known in
    ap (λ (b : Bool). if b then paid m.cost (if b then touched_all m.pages (entries f) else entries f) else (if b then touched_all m.pages (entries f) else entries f)) there ∙ grown_is m (entries f)

told_out : (m : Moment) (inside : List ℕ) (entries : ℕ → List Entry) (f : ℕ) → is_among f inside ≡ false → told m inside entries f ≡ entries f
told_out m inside entries f unknown =
    let there : is_among f (outermost inside) ≡ false = outermost_among f inside ∙ unknown in
    ap (λ (b : Bool). if b then paid m.cost (if b then touched_all m.pages (entries f) else entries f) else (if b then touched_all m.pages (entries f) else entries f)) there

row_in : (f : ℕ) (m : Moment) (es : List Entry) → is_among f m.inside ≡ true → with_row f m es ≡ grown m es
row_in f m es known = ap (λ (b : Bool). if b then grown m es else called f m.calls es) known

row_out : (f : ℕ) (m : Moment) (es : List Entry) → is_among f m.inside ≡ false → with_row f m es ≡ called f m.calls es
row_out f m es unknown = ap (λ (b : Bool). if b then grown m es else called f m.calls es) unknown

-- no call
pub quiet_row : (m : Moment) (entries : ℕ → List Entry) → m.calls ≡ None → (f : ℕ) → with_row f m (entries f) ≡ told m m.inside entries f
quiet_row m entries none f = elim (cases_Bool (is_among f m.inside)) [
  | inl known ↦ row_in f m (entries f) known ∙ sym (told_in m m.inside entries f known)
  | inr unknown ↦ row_out f m (entries f) unknown ∙ ap (λ (c : Option ℕ). called f c (entries f)) none ∙ sym (told_out m m.inside entries f unknown)
]

begun_at : (k f : ℕ) (entries : ℕ → List Entry) → k ≡ f → begun k entries f ≡ record { steps = 0; pages = [] } ∷ entries f
begun_at k f entries same = ap (λ (b : Bool). if b then record { steps = 0; pages = [] } ∷ entries f else entries f) (eq-eqb f k (sym same))

begun_not : (k f : ℕ) (entries : ℕ → List Entry) → (k ≡ f → ⊥) → begun k entries f ≡ entries f
begun_not k f entries other = of (f == k) refl
  where
    of : (b : Bool) → (f == k) ≡ b → (if b then record { steps = 0; pages = [] } ∷ entries f else entries f) ≡ entries f
    of true is = absurd (other (sym (eqb-true f k is)))
    of false is = refl

called_at : (k f : ℕ) (es : List Entry) → k ≡ f → called f (Some k) es ≡ record { steps = 0; pages = [] } ∷ es
called_at k f es same = ap (λ (b : Bool). if b then record { steps = 0; pages = [] } ∷ es else es) (eq-eqb k f same)

called_not : (k f : ℕ) (es : List Entry) → (k ≡ f → ⊥) → called f (Some k) es ≡ es
called_not k f es other = of (k == f) refl
  where
    of : (b : Bool) → (k == f) ≡ b → (if b then record { steps = 0; pages = [] } ∷ es else es) ≡ es
    of true is = absurd (other (eqb-true k f is))
    of false is = refl

-- a call
pub call_row : (m : Moment) (k : ℕ) (entries : ℕ → List Entry) → m.calls ≡ Some k → (f : ℕ) → with_row f m (entries f) ≡ called_in m.inside k (told m m.inside entries) f
call_row m k entries calls f = elim (cases_Bool (is_among k m.inside)) [
  | inl again ↦ row_is again ∙ sym (ap (λ (b : Bool). (if b then told m m.inside entries else begun k (told m m.inside entries)) f) again)
  | inr first ↦ row_first first ∙ sym (ap (λ (b : Bool). (if b then told m m.inside entries else begun k (told m m.inside entries)) f) first)
]
  where
    differs : (b : Bool) → is_among k m.inside ≡ b → (is_among f m.inside ≡ b → ⊥) → k ≡ f → ⊥
    differs b is other same = other (subst (λ (x : ℕ). is_among x m.inside ≡ b) same is)

    row_is : is_among k m.inside ≡ true → with_row f m (entries f) ≡ told m m.inside entries f
    row_is again = elim (cases_Bool (is_among f m.inside)) [
      | inl known ↦ row_in f m (entries f) known ∙ sym (told_in m m.inside entries f known)
      | inr unknown ↦
          row_out f m (entries f) unknown ∙ ap (λ (c : Option ℕ). called f c (entries f)) calls ∙ called_not k f (entries f) (differs true again (λ e. true≢false (sym e ∙ unknown)))
          ∙ sym (told_out m m.inside entries f unknown)
    ]

    row_first : is_among k m.inside ≡ false → with_row f m (entries f) ≡ begun k (told m m.inside entries) f
    row_first first = elim (cases_Bool (is_among f m.inside)) [
      | inl known ↦
          row_in f m (entries f) known ∙ sym (told_in m m.inside entries f known) ∙ sym (begun_not k f (told m m.inside entries) (differs false first (λ e. true≢false (sym known ∙ e))))
      | inr unknown ↦ elim (equal k f) [
        | inl same ↦
            row_out f m (entries f) unknown ∙ ap (λ (c : Option ℕ). called f c (entries f)) calls ∙ called_at k f (entries f) same
            ∙ sym (begun_at k f (told m m.inside entries) same ∙ ap (λ (es : List Entry). record { steps = 0; pages = [] } ∷ es) (told_out m m.inside entries f unknown))
        | inr other ↦
            row_out f m (entries f) unknown ∙ ap (λ (c : Option ℕ). called f c (entries f)) calls ∙ called_not k f (entries f) other
            ∙ sym (begun_not k f (told m m.inside entries) other ∙ told_out m m.inside entries f unknown)
      ]
    ]

-- ---- rows

pub tallied_as : (inside : List ℕ) (t : Tally) (entries other : ℕ → List Entry) (count : ℕ) → ((f : ℕ) → other f ≡ entries f) → Tallied inside t entries count → Tallied inside t other count
tallied_as inside t entries other count same h = record { holds = holds_as (outermost inside) t entries other count same h.holds; depth = h.depth }

abbrev fn : Frame → ℕ
fn f = f.function

module _ (touch : Touch) (wrote : ℕ) (before after : Place) (count : ℕ) (p : Program) (s : State) (bytes : List ℕ) (call : Option Calling) (t : State) (n : ℕ) (h : HasPassed touch wrote before after count p s bytes call t n)
    (rows : List Moment) (old mid : Tally) (tallied : Tallied (open_in s) old (λ f. entries_of f rows) n)
    (touches : (fs : List ℕ) (entries : ℕ → List Entry) (count : ℕ) → Holds fs old entries count → Holds fs mid (among fs (touched_all (pages_of (spans_of touch wrote))) entries) count)
    (counters : mid.counters.items ≡ old.counters.items) where
  abbrev m : Moment
  m = moment_of s (row p s)

  abbrev E : ℕ → List Entry
  E f = entries_of f rows

  pages_are : pages_of (spans_of touch wrote) ≡ m.pages
  pages_are =
      ap (λ (k : ℕ). pages_of (spans_of touch k)) h.long ∙ ap pages_of (sym (h.touches bytes call t h.next)) ∙ ap (λ (x : Next). pages_of (touched_by x (needed (row p s)))) (sym h.next)

  mid_told : Tallied (open_in s) mid (told m (open_in s) E) count
  mid_told =
      let one : Holds (outermost (open_in s)) mid (among (outermost (open_in s)) (touched_all m.pages) E) n =
      subst (λ (ps : List ℕ). Holds (outermost (open_in s)) mid (among (outermost (open_in s)) (touched_all ps) E) n) pages_are (touches (outermost (open_in s)) E n tallied.holds) in
      record {
        holds = subst (Holds (outermost (open_in s)) mid (told m (open_in s) E)) (sym h.counts) (pay_holds (outermost (open_in s)) mid (among (outermost (open_in s)) (touched_all m.pages) E) n m.cost one);
        depth = λ f c is. tallied.depth f c (ap (λ (l : List Counter). slice_get l f) (sym counters) ∙ is);
      }

  calls_is : m.calls ≡ called_by (Goes bytes call t)
  calls_is = ap called_by h.next

  no_call : call ≡ None → m.calls ≡ None
  no_call none = calls_is ∙ ap (λ (c : Option Calling). called_by (Goes bytes c t)) none

  -- the run stays in its frame
  pub note_stays : after.callers ≤ before.callers → before.callers ≤ after.callers → Tallied (open_in t) mid (λ f. entries_of f (m ∷ rows)) count
  note_stays most least = elim (frames p s bytes call t h.next) [
    | inl calls ↦ absurd (omega (arith, h.from.callers, h.to.callers, ap length calls.callers, most))
    | inr (inr returns) ↦ absurd (omega (arith, h.from.callers, h.to.callers, ap length returns.callers, least))
    | inr (inl stays) ↦
        let same : open_in s ≡ open_in t = ap (λ (k : ℕ). open_from k (map fn s.callers)) (sym stays.function) ∙ ap (λ (l : List Frame). open_from t.frame.function (map fn l)) (sym stays.callers) in
        subst (λ (inside : List ℕ). Tallied inside mid (λ f. entries_of f (m ∷ rows)) count) same (tallied_as (open_in s) mid (told m (open_in s) E) (λ f. entries_of f (m ∷ rows)) count (quiet_row m E (no_call stays.is)) mid_told)
  ]

  -- it enters one
  pub note_calls : (new : Tally) → before.callers < after.callers
      → ((inside : List ℕ) (entries : ℕ → List Entry) → Tallied inside mid entries count → Tallied (after.function ∷ inside) new (called_in inside after.function entries) count)
      → Tallied (open_in t) new (λ f. entries_of f (m ∷ rows)) count
  note_calls new more told' = elim (frames p s bytes call t h.next) [
    | inr (inl stays) ↦ absurd (omega (arith, h.from.callers, h.to.callers, ap length stays.callers, more))
    | inr (inr returns) ↦ absurd (omega (arith, h.from.callers, h.to.callers, ap length returns.callers, more))
    | inl calls ↦
        let k : ℕ = after.function in
        let known : m.calls ≡ Some k = calls_is ∙ ap (λ (c : Option Calling). called_by (Goes bytes c t)) calls.is ∙ ap Some (sym (h.to.function ∙ calls.function)) in
        let inside : k ∷ open_in s ≡ open_in t = ap (λ (f : ℕ). f ∷ open_in s) h.to.function ∙ ap (λ (l : List Frame). open_from t.frame.function (map fn l)) (sym calls.callers) in
        subst (λ (inside : List ℕ). Tallied inside new (λ f. entries_of f (m ∷ rows)) count) inside
        (tallied_as (k ∷ open_in s) new (called_in (open_in s) k (told m (open_in s) E)) (λ f. entries_of f (m ∷ rows)) count (call_row m k E known) (told' (open_in s) (told m (open_in s) E) mid_told))
  ]

  -- it leaves one
  pub note_returns : (new : Tally) → after.callers < before.callers
      → ((inside : List ℕ) (entries : ℕ → List Entry) → Tallied (before.function ∷ inside) mid entries count → Tallied inside new entries count)
      → Tallied (open_in t) new (λ f. entries_of f (m ∷ rows)) count
  note_returns new less told' = elim (frames p s bytes call t h.next) [
    | inl calls ↦ absurd (omega (arith, h.from.callers, h.to.callers, ap length calls.callers, less))
    | inr (inl stays) ↦ absurd (omega (arith, h.from.callers, h.to.callers, ap length stays.callers, less))
    | inr (inr returns) ↦
        let inside : open_in s ≡ before.function ∷ open_in t =
        ap (λ (l : List Frame). open_from s.frame.function (map fn l)) returns.callers ∙ ap (λ (k : ℕ). s.frame.function ∷ open_from k (map fn t.callers)) (sym returns.function) ∙ ap (λ (k : ℕ). k ∷ open_in t) (sym h.from.function) in
        let there : Tallied (before.function ∷ open_in t) mid (told m (open_in s) E) count = subst (λ (l : List ℕ). Tallied l mid (told m (open_in s) E) count) inside mid_told in
        tallied_as (open_in t) new (told m (open_in s) E) (λ f. entries_of f (m ∷ rows)) count (quiet_row m E (no_call returns.is)) (told' (open_in t) (told m (open_in s) E) there)
  ]
