-- Bytes that lie in one region, and the pages that they touch.
use Rattle.std.proofs.Common.{◌≡◌, ℕ, ◌+◌, ◌-◌, ◌*◌, ◌≤◌, ◌<◌, ◌==◌, nat_le, inl, inr, Bool, true, false, ◌&&◌, ◌||◌, if◌then◌else◌, List, [], ◌∷◌, ◌++◌, Some, None, refl, sym, ap, subst, ◌∙◌, arith}
use Rattle.std.proofs.lemmas.Bool.{cases_Bool, cases_lt, leb-true, le-leb}
use Rattle.no_heap.proofs.Gaps.{fit_is}
use Rattle.no_heap.specs.Blocks.{AreLive}
use Rattle.no_heap.specs.Fit.{IsFit, fit, rounded}
use Rattle.no_heap.specs.declared.block.Block as heap'
use Rattle.no_ir.specs.declared.ending.Trap.TheVariants.{BadAddress, ConstantWrite}
use Rattle.no_layout.specs.Memory.{IsPage, constants_start, globals_start, heap_end, heap_start, in_constants, in_written, page_of, refusal, stack_end, stack_start, within}
use Rattle.no_layout.specs.declared.memory.Regions.{Regions}
use Rattle.no_semantics.specs.Externals as ext
use Rattle.no_semantics.specs.Spans.{Span, Touches, span_of}

and_left : (a b : Bool) → (a && b) ≡ true → a ≡ true
and_left true b e = refl
and_left false b e = e

and_right : (a b : Bool) → (a && b) ≡ true → b ≡ true
and_right true b e = e
and_right false b e = absurd cc

both : (a b : Bool) → a ≡ true → b ≡ true → (a && b) ≡ true
both a b e f = rw (e, f) refl

either_left : (a b : Bool) → a ≡ true → (a || b) ≡ true
either_left a b e = rw e refl

either_right : (a b : Bool) → b ≡ true → (a || b) ≡ true
either_right true b e = refl
either_right false b e = e

-- each byte of what lies in a region lies there
part : (low high at n x : ℕ) → within low high at n ≡ true → at ≤ x → x < at + n → within low high x 1 ≡ true
part low high at n x is above below =
    let one : low ≤ at = leb-true low at (and_left (nat_le low at) (nat_le (at + n) high) is) in
    let two : at + n ≤ high = leb-true (at + n) high (and_right (nat_le low at) (nat_le (at + n) high) is) in
    both (nat_le low x) (nat_le (x + 1) high) (le-leb low x (omega (arith, one, above))) (le-leb (x + 1) high (omega (arith, two, below)))

module _ (r : Regions) where
  -- a byte in a region
  abbrev IsIn : ℕ → Type 0
  IsIn x = refusal r false x 1 ≡ None

  const_in : (x : ℕ) → in_constants r x 1 ≡ true → IsIn x
  const_in x is = ap (λ (b : Bool). if b then None else (if in_written r x 1 then None else Some BadAddress)) is

  written_in : (x : ℕ) → in_written r x 1 ≡ true → IsIn x
  written_in x is = elim (cases_Bool (in_constants r x 1)) [
    | inl there ↦ const_in x there
    | inr not ↦ ap (λ (b : Bool). if b then None else (if in_written r x 1 then None else Some BadAddress)) not ∙ ap (λ (b : Bool). if b then None else Some BadAddress) is
  ]

  -- the bytes from one address up to another
  abbrev pub AreIn : ℕ → ℕ → Type 0
  AreIn at n = (x : ℕ) → at ≤ x → x < at + n → IsIn x

  globals_in : (at n : ℕ) → within (globals_start r) r.globals_end at n ≡ true → AreIn at n
  globals_in at n is = λ x above below. written_in x (either_left (within (globals_start r) r.globals_end x 1) (within heap_start heap_end x 1 || within stack_start stack_end x 1) (part (globals_start r) r.globals_end at n x is above below))

  heap_in : (at n : ℕ) → within heap_start heap_end at n ≡ true → AreIn at n
  heap_in at n is = λ x above below.
      written_in x (either_right (within (globals_start r) r.globals_end x 1) (within heap_start heap_end x 1 || within stack_start stack_end x 1) (either_left (within heap_start heap_end x 1) (within stack_start stack_end x 1) (part heap_start heap_end at n x is above below)))

  stack_in : (at n : ℕ) → within stack_start stack_end at n ≡ true → AreIn at n
  stack_in at n is = λ x above below.
      written_in x (either_right (within (globals_start r) r.globals_end x 1) (within heap_start heap_end x 1 || within stack_start stack_end x 1) (either_right (within heap_start heap_end x 1) (within stack_start stack_end x 1) (part stack_start stack_end at n x is above below)))

  some_written : (at n : ℕ) → in_written r at n ≡ true → AreIn at n
  some_written at n is = elim (cases_Bool (within (globals_start r) r.globals_end at n)) [
    | inl there ↦ globals_in at n there
    | inr not ↦ elim (cases_Bool (within heap_start heap_end at n)) [
      | inl there ↦ heap_in at n there
      | inr nor ↦ stack_in at n (sym (ap (λ (b : Bool). b || (within heap_start heap_end at n || within stack_start stack_end at n)) not ∙ ap (λ (b : Bool). b || within stack_start stack_end at n) nor) ∙ is)
    ]
  ]

  -- an access that is not refused
  pub allowed : (write : Bool) (at n : ℕ) → refusal r write at n ≡ None → AreIn at n
  allowed write at n is = elim (cases_Bool (in_constants r at n)) [
    | inl there ↦ λ x above below. const_in x (part constants_start r.constants_end at n x there above below)
    | inr not ↦ elim (cases_Bool (in_written r at n)) [
      | inl there ↦ some_written at n there
      | inr nor ↦ absurd (refused (sym (ap (λ (b : Bool). if b then (if write then Some ConstantWrite else None) else (if in_written r at n then None else Some BadAddress)) not ∙ ap (λ (b : Bool). if b then None else Some BadAddress) nor) ∙ is))
    ]
  ]
    where
      refused : Some BadAddress ≡ None → ⊥
      refused e = absurd cc

  -- up to the end of a region
  up_to_in : (low high at other : ℕ) → ((n : ℕ) → within low high at n ≡ true → AreIn at n) → AreIn at other → AreIn at (ext.up_to low high at other)
  up_to_in low high at other there others = elim (cases_Bool (within low high at 1)) [
    | inl is ↦
        let one : low ≤ at = leb-true low at (and_left (nat_le low at) (nat_le (at + 1) high) is) in
        let two : at + 1 ≤ high = leb-true (at + 1) high (and_right (nat_le low at) (nat_le (at + 1) high) is) in
        let all : within low high at (high - at) ≡ true = both (nat_le low at) (nat_le (at + (high - at)) high) (le-leb low at one) (le-leb (at + (high - at)) high (omega (arith, two))) in
        subst (λ (b : Bool). AreIn at (if b then high - at else other)) (sym is) (there (high - at) all)
    | inr not ↦ subst (λ (b : Bool). AreIn at (if b then high - at else other)) (sym not) others
  ]

  pub room_in : (at : ℕ) → AreIn at (ext.room_of r at)
  room_in at =
      up_to_in constants_start r.constants_end at _ (λ n is x above below. const_in x (part constants_start r.constants_end at n x is above below))
      (up_to_in (globals_start r) r.globals_end at _ (globals_in at)
      (up_to_in heap_start heap_end at _ (heap_in at)
      (up_to_in stack_start stack_end at 0 (stack_in at) (λ x above below. absurd (omega (arith, above, below))))))

  -- a block at the place that fits
  pub block_in : (bs : List heap'.Block) (size place : ℕ) → AreLive bs → fit bs size ≡ Some place → AreIn place size
  block_in bs size place live is =
      let f : IsFit bs size (Some place) = subst (IsFit bs size) is (fit_is bs size live) in
      let most : size ≤ rounded size = omega arith in
      heap_in place size (both (nat_le heap_start place) (nat_le (place + size) heap_end) (le-leb heap_start place f.1.above) (le-leb (place + size) heap_end (omega (arith, most, f.1.below))))

  -- ---- spans

  abbrev pub Lie : List Span → Type 0
  Lie [] = Unit {0}
  Lie (s ∷ ss) = AreIn s.at s.len × Lie ss

  pub lie_all : (a b : List Span) → Lie a → Lie b → Lie (a ++ b)
  lie_all [] b one two = two
  lie_all (s ∷ a) b one two = (one.0, lie_all a b one.1 two)

  pub span_lies : (at n : ℕ) → AreIn at n → Lie (span_of at n)
  span_lies at n are = elim (cases_Bool (n == 0)) [
    | inl is ↦ rw is tt
    | inr other ↦ rw other (are, tt)
  ]

  -- a page that they touch has a byte in a region
  pub touched_page : (spans : List Span) (q : ℕ) → Lie spans → Touches spans q → IsPage r q
  touched_page [] q lie touched = absurd touched
  touched_page (s ∷ ss) q lie (inr more) = touched_page ss q lie.1 more
  touched_page (s ∷ ss) q lie (inl here) = elim (cases_lt s.at (4096 * q)) [
    | inl before ↦
        let there : page_of (4096 * q) ≡ q = omega arith in
        (4096 * q, there, lie.0 (4096 * q) (omega (arith, before)) (omega (arith, here.2, here.0)))
    | inr behind ↦
        let there : page_of s.at ≡ q = omega (arith, behind, here.1) in
        (s.at, there, lie.0 s.at (omega arith) (omega (arith, here.0)))
  ]
