-- Spans of bytes over the pages held, and answers over them.
use Rattle.std.proofs.Common.{◌≡◌, ℕ, zero, suc, ◌+◌, ◌-◌, ◌/◌, ◌<◌, ◌≤◌, ◌==◌, min, Bool, true, false, if◌then◌else◌, List, [], ◌∷◌, ◌++◌, Option, Some, None, ◌⊎◌, inl, inr, refl, sym, ap, subst, ◌∙◌, arith}
use Rattle.std.proofs.lemmas.Bool.{cond-true, cond-false, eq-eqb, ne_eqb, cases_lt, false≢true}
use Rattle.no_ir.specs.declared.ending.Trap.{Trap}
use Rattle.no_module.specs.declared.external.External.{External}
use Rattle.no_layout.specs.declared.memory.Regions.{Regions}
use Rattle.no_layout.specs.declared.memory.Access.TheVariants.{Done, Missing, Refused}
use Rattle.no_layout.specs.Memory.{access, answer, first_absent, page_count, page_of, refusal}
use Rattle.no_layout.proofs.Accesses.{all_held, named_absent}
use Rattle.no_semantics.specs.Spans.{Span, span_of, Touches, AreHeld, IsLowestAbsent}
use Rattle.no_semantics.specs.Externals.{World, Effect, Gives, Does, Over, bounded, cost_in}
use Rattle.no_lib.specs.declared.answer.LibAnswer.{LibAnswer}
use Rattle.no_lib.specs.declared.answer.LibAnswer.TheVariants as told
use Rattle.no_lib.specs.Answers.{Seen, IsWorld, IsLeft, Answers, AreSame, Means, TakesMemory, needed_by}
use Rattle.no_lib.proofs.Told.{afforded, too_dear}

-- ---- what an access answers

answer_done : (t : Option Trap) (m : Option ℕ) → answer t m ≡ Done → (t ≡ None) × (m ≡ None)
answer_done (Some trap) m e = absurd cc
answer_done None (Some page) e = absurd cc
answer_done None None e = (refl, refl)

answer_missing : (t : Option Trap) (m : Option ℕ) (p : ℕ) → answer t m ≡ Missing p → (t ≡ None) × (m ≡ Some p)
answer_missing (Some trap) m p e = absurd cc
answer_missing None (Some page) p e = (refl, cc)
answer_missing None None p e = absurd cc

answer_refused : (t : Option Trap) (m : Option ℕ) (trap : Trap) → answer t m ≡ Refused trap → t ≡ Some trap
answer_refused (Some other) m trap e = cc
answer_refused None (Some page) trap e = absurd cc
answer_refused None None trap e = absurd cc

pub done_allowed : (r : Regions) (held : ℕ → Bool) (write : Bool) (at n : ℕ) → access r held write at n ≡ Done → refusal r write at n ≡ None
done_allowed r held write at n e = (answer_done (refusal r write at n) (first_absent held (page_of at) (page_count at n)) e).0

pub done_held : (r : Regions) (held : ℕ → Bool) (write : Bool) (at n : ℕ) → access r held write at n ≡ Done → first_absent held (page_of at) (page_count at n) ≡ None
done_held r held write at n e = (answer_done (refusal r write at n) (first_absent held (page_of at) (page_count at n)) e).1

pub missing_allowed : (r : Regions) (held : ℕ → Bool) (write : Bool) (at n p : ℕ) → access r held write at n ≡ Missing p → refusal r write at n ≡ None
missing_allowed r held write at n p e = (answer_missing (refusal r write at n) (first_absent held (page_of at) (page_count at n)) p e).0

pub refused_is : (r : Regions) (held : ℕ → Bool) (write : Bool) (at n : ℕ) (trap : Trap) → access r held write at n ≡ Refused trap → refusal r write at n ≡ Some trap
refused_is r held write at n trap e = answer_refused (refusal r write at n) (first_absent held (page_of at) (page_count at n)) trap e

-- ---- one span

abbrev one_span : ℕ → ℕ → List Span
one_span at n = record { at = at; len = n } ∷ []

span_some : (at n : ℕ) → 0 < n → span_of at n ≡ one_span at n
span_some at n some = cond-false (n == 0) [] (one_span at n) (ne_eqb n 0 (λ e. omega arith))

span_none : (at n : ℕ) → n ≡ 0 → span_of at n ≡ []
span_none at n none = cond-true (n == 0) [] (one_span at n) (eq-eqb n 0 none)

held_one : (r : Regions) (held : ℕ → Bool) (write : Bool) (at n : ℕ) → access r held write at n ≡ Done → (p : ℕ) → Touches (one_span at n) p → held p ≡ true
held_one r held write at n done p (inl (some, low, high)) =
    all_held held (page_of at) (page_count at n) (answer_done (refusal r write at n) (first_absent held (page_of at) (page_count at n)) done).1 p low (omega arith)
held_one r held write at n done p (inr none) = absurd none

pub held_span : (r : Regions) (held : ℕ → Bool) (write : Bool) (at n : ℕ) → 0 < n → access r held write at n ≡ Done → AreHeld held (span_of at n)
held_span r held write at n some done = subst (AreHeld held) (sym (span_some at n some)) (held_one r held write at n done)

first_lower : (held : ℕ → Bool) (p n page q : ℕ) → first_absent held p n ≡ Some page → p ≤ q → q < page → held q ≡ true
first_lower held p zero page q e low high = absurd cc
first_lower held p (suc n) page q e low high = by (held p) refl e (λ f k. first_lower held (p + 1) n page q f k high)
  where
    by : (b : Bool) → held p ≡ b → (if b then first_absent held (p + 1) n else Some p) ≡ Some page → (first_absent held (p + 1) n ≡ Some page → p + 1 ≤ q → held q ≡ true) → held q ≡ true
    by true is e more = elim (cases_lt p q) [
      | inl later ↦ more e (omega arith)
      | inr here ↦ (let same : q ≡ p = omega arith in ap held same ∙ is)
    ]
    by false is e more = (let same : p ≡ page = cc in absurd (omega arith))

pub lowest_span : (r : Regions) (held : ℕ → Bool) (write : Bool) (at n page : ℕ) → 0 < n → access r held write at n ≡ Missing page → IsLowestAbsent held (span_of at n) page
lowest_span r held write at n page some e =
    let first = (answer_missing (refusal r write at n) (first_absent held (page_of at) (page_count at n)) page e).1 in
    let named = named_absent held (page_of at) (page_count at n) page first in
    subst (λ (spans : List Span). IsLowestAbsent held spans page) (sym (span_some at n some)) (record {
      touched = inl (some, named.1, omega (arith, named.1, named.2));
      absent = named.0;
      lowest = λ p t gone. lower p t gone first;
    })
  where
    lower : (p : ℕ) → Touches (one_span at n) p → held p ≡ false → first_absent held (page_of at) (page_count at n) ≡ Some page → page ≤ p
    lower p (inl (some', low, high)) gone first = elim (cases_lt p page) [
      | inl under ↦ absurd (false≢true (sym gone ∙ first_lower held (page_of at) (page_count at n) page p first low under))
      | inr not ↦ not
    ]
    lower p (inr none) gone first = absurd none

-- ---- two lists of spans

touches_left : (xs ys : List Span) (p : ℕ) → Touches xs p → Touches (xs ++ ys) p
touches_left [] ys p t = absurd t
touches_left (x ∷ xs) ys p (inl here) = inl here
touches_left (x ∷ xs) ys p (inr later) = inr (touches_left xs ys p later)

touches_right : (xs ys : List Span) (p : ℕ) → Touches ys p → Touches (xs ++ ys) p
touches_right [] ys p t = t
touches_right (x ∷ xs) ys p t = inr (touches_right xs ys p t)

touches_parts : (xs ys : List Span) (p : ℕ) → Touches (xs ++ ys) p → Touches xs p ⊎ Touches ys p
touches_parts [] ys p t = inr t
touches_parts (x ∷ xs) ys p (inl here) = inl (inl here)
touches_parts (x ∷ xs) ys p (inr later) = elim (touches_parts xs ys p later) [ inl t ↦ inl (inr t) | inr t ↦ inr t ]

pub held_both : (held : ℕ → Bool) (xs ys : List Span) → AreHeld held xs → AreHeld held ys → AreHeld held (xs ++ ys)
held_both held xs ys f g p t = elim (touches_parts xs ys p t) [ inl a ↦ f p a | inr b ↦ g p b ]

pub lowest_left : (held : ℕ → Bool) (xs ys : List Span) (page : ℕ) → IsLowestAbsent held xs page → AreHeld held ys → IsLowestAbsent held (xs ++ ys) page
lowest_left held xs ys page l h = record {
  touched = touches_left xs ys page l.touched;
  absent = l.absent;
  lowest = λ p t gone. elim (touches_parts xs ys p t) [ inl a ↦ l.lowest p a gone | inr b ↦ absurd (false≢true (sym gone ∙ h p b)) ];
}

pub lowest_right : (held : ℕ → Bool) (xs ys : List Span) (page : ℕ) → AreHeld held xs → IsLowestAbsent held ys page → IsLowestAbsent held (xs ++ ys) page
lowest_right held xs ys page h l = record {
  touched = touches_right xs ys page l.touched;
  absent = l.absent;
  lowest = λ p t gone. elim (touches_parts xs ys p t) [ inl a ↦ absurd (false≢true (sym gone ∙ h p a)) | inr b ↦ l.lowest p b gone ];
}

pub lowest_both : (held : ℕ → Bool) (xs ys : List Span) (p q least : ℕ) → IsLowestAbsent held xs p → IsLowestAbsent held ys q → least ≡ min p q → IsLowestAbsent held (xs ++ ys) least
lowest_both held xs ys p q least l m is = record {
  touched = elim (cases_lt q p) [
    | inl under ↦ (let same : least ≡ q = omega arith in subst (λ (k : ℕ). Touches (xs ++ ys) k) (sym same) (touches_right xs ys q m.touched))
    | inr not ↦ (let same : least ≡ p = omega arith in subst (λ (k : ℕ). Touches (xs ++ ys) k) (sym same) (touches_left xs ys p l.touched))
  ];
  absent = elim (cases_lt q p) [
    | inl under ↦ (let same : least ≡ q = omega arith in ap held same ∙ m.absent)
    | inr not ↦ (let same : least ≡ p = omega arith in ap held same ∙ l.absent)
  ];
  lowest = λ k t gone. elim (touches_parts xs ys k t) [ inl a ↦ omega (arith, l.lowest k a gone, is) | inr b ↦ omega (arith, m.lowest k b gone, is) ];
}

-- ---- answers over them

same : (s : Seen) → AreSame s s
same s = record { bytes = refl; blocks = refl; rest = refl; output = refl }

pub over_means : (which : External) (f : World → Effect) (left : ℕ) (s : Seen) → ((more : List ℕ) (w : World) → IsWorld s more w → (left < cost_in (f w).outcome) × AreHeld s.held (f w).sought) → Means which (λ w. bounded left (f w) w) told.Over s s
over_means which f left s is = record {
  map = refl;
  pages = refl;
  ended = refl;
  kept = λ p h. h;
  same = same s;
  told = λ more w last here. subst (λ (e : Effect). Answers told.Over e s s more) (sym (too_dear left (f w) w (is more w here).0)) (refl, (is more w here).1);
  enough = λ e. absurd cc;
  asks = λ e. absurd cc;
}

pub want_means : (which : External) (f : World → Effect) (left page : ℕ) (s : Seen) → ((more : List ℕ) (w : World) → IsWorld s more w → (cost_in (f w).outcome ≤ left) × IsLowestAbsent s.held (needed_by (f w)) page) → Means which (λ w. bounded left (f w) w) (told.WantPage page) s s
want_means which f left page s is = record {
  map = refl;
  pages = refl;
  ended = refl;
  kept = λ p h. h;
  same = same s;
  told = λ more w last here. subst (λ (e : Effect). Answers (told.WantPage page) e s s more) (sym (afforded left (f w) w (is more w here).0)) (is more w here).1;
  enough = λ e. absurd cc;
  asks = λ e. absurd cc;
}

pub full_means : (which : External) (effect : World → Effect) (s t : Seen) → TakesMemory which → t.regions ≡ s.regions → t.held ≡ s.held → t.env.ended ≡ s.env.ended → ((p : ℕ) → s.own p ≡ true → t.own p ≡ true) → AreSame s t → Means which effect told.NoMemory s t
full_means which effect s t takes map pages ended kept same' = record {
  map = map;
  pages = pages;
  ended = ended;
  kept = kept;
  same = same';
  told = λ more w last here. tt;
  enough = λ e. takes;
  asks = λ e. absurd cc;
}

pub does_means : (which : External) (f : World → Effect) (left cost : ℕ) (s t : Seen) → cost ≤ left → t.regions ≡ s.regions → t.held ≡ s.held → t.env.ended ≡ s.env.ended → ((p : ℕ) → s.own p ≡ true → t.own p ≡ true)
    → ((more : List ℕ) (w : World) → IsWorld s more w → ((f w).outcome ≡ Does cost) × IsLeft (f w) s t more) → Means which (λ w. bounded left (f w) w) (told.Nothing cost) s t
does_means which f left cost s t some map pages ended kept is = record {
  map = map;
  pages = pages;
  ended = ended;
  kept = kept;
  same = tt;
  told = λ more w last here.
      let d = is more w here in
      subst (λ (e : Effect). Answers (told.Nothing cost) e s t more) (sym (afforded left (f w) w (omega (arith, ap cost_in d.0, some)))) d;
  enough = λ e. absurd cc;
  asks = λ e. absurd cc;
}

pub gives_means : (which : External) (f : World → Effect) (left v cost : ℕ) (s t : Seen) → cost ≤ left → t.regions ≡ s.regions → t.held ≡ s.held → t.env.ended ≡ s.env.ended → ((p : ℕ) → s.own p ≡ true → t.own p ≡ true)
    → ((more : List ℕ) (w : World) → IsWorld s more w → ((f w).outcome ≡ Gives v cost) × IsLeft (f w) s t more) → Means which (λ w. bounded left (f w) w) (told.Value v cost) s t
gives_means which f left v cost s t some map pages ended kept is = record {
  map = map;
  pages = pages;
  ended = ended;
  kept = kept;
  same = tt;
  told = λ more w last here.
      let d = is more w here in
      subst (λ (e : Effect). Answers (told.Value v cost) e s t more) (sym (afforded left (f w) w (omega (arith, ap cost_in d.0, some)))) d;
  enough = λ e. absurd cc;
  asks = λ e. absurd cc;
}

pub want_later : (which : External) (effect : World → Effect) (page : ℕ) (s t : Seen) → Means which effect (told.WantPage page) s s → t.regions ≡ s.regions → t.held ≡ s.held → t.env.ended ≡ s.env.ended → ((p : ℕ) → s.own p ≡ true → t.own p ≡ true) → AreSame s t → Means which effect (told.WantPage page) s t
want_later which effect page s t m map pages ended kept same' = record {
  map = map;
  pages = pages;
  ended = ended;
  kept = kept;
  same = same';
  told = λ more w last here. m.told more w last here;
  enough = m.enough;
  asks = m.asks;
}
