-- A part of a range that may be read or written, and is there, may be too.
use Rattle.std.proofs.Common.{◌≡◌, ℕ, zero, suc, ◌+◌, ◌-◌, ◌/◌, ◌<◌, ◌≤◌, Bool, true, false, ◌&&◌, ◌||◌, nat_le, if◌then◌else◌, Option, Some, None, ◌⊎◌, inl, inr, refl, sym, ap, subst, ◌∙◌, arith}
use Rattle.std.proofs.lemmas.Bool.{and_parts, or_cases, cases_lt, leb-true, le-leb, lt-leb, cond-true, cond-false, false≢true, cases_Bool}
use Rattle.no_ir.specs.declared.ending.Trap.{Trap}
use Rattle.no_ir.specs.declared.ending.Trap.TheVariants.{BadAddress, ConstantWrite}
use Rattle.no_layout.specs.declared.memory.Regions.{Regions}
use Rattle.no_layout.specs.declared.memory.Access.TheVariants.{Done}
use Rattle.no_layout.specs.Memory.{AreFormed, AreOwn, access, answer, constants_start, first_absent, globals_start, heap_start, heap_end, in_constants, in_written, page_count, page_of, refusal, stack_start, stack_end, within}
use Rattle.no_layout.proofs.Accesses.{all_held}
use Rattle.no_lib.proofs.Paged.{done_allowed, done_held}

part_within : (low high at n a k : ℕ) → at ≤ a → a + k ≤ at + n → within low high at n ≡ true → within low high a k ≡ true
part_within low high at n a k from to e =
    let parts = and_parts (nat_le low at) (nat_le (at + n) high) e in
    ap (λ (b : Bool). b && nat_le (a + k) high) (le-leb low a (omega (arith, leb-true low at parts.0))) ∙ le-leb (a + k) high (omega (arith, leb-true (at + n) high parts.1))

allowed_by : (c d w : Bool) → (if c then (if w then Some ConstantWrite else None) else (if d then None else Some BadAddress)) ≡ None → ((c ≡ true) × (w ≡ false)) ⊎ (d ≡ true)
allowed_by true d true e = absurd cc
allowed_by true d false e = inl (refl, refl)
allowed_by false true w e = inr refl
allowed_by false false w e = absurd cc

written_part : (r : Regions) (at n a k : ℕ) → at ≤ a → a + k ≤ at + n → in_written r at n ≡ true → in_written r a k ≡ true
written_part r at n a k from to e =
    let others = within heap_start heap_end at n || within stack_start stack_end at n in
    elim (or_cases (within (globals_start r) r.globals_end at n) (within heap_start heap_end at n || within stack_start stack_end at n) e) [
      | inl g ↦ ap (λ (b : Bool). b || (within heap_start heap_end a k || within stack_start stack_end a k)) (part_within (globals_start r) r.globals_end at n a k from to g)
      | inr o ↦ elim (or_cases (within heap_start heap_end at n) (within stack_start stack_end at n) o) [
        | inl h ↦ later (within (globals_start r) r.globals_end a k) (within heap_start heap_end a k) (within stack_start stack_end a k) (inl (part_within heap_start heap_end at n a k from to h))
        | inr s ↦ later (within (globals_start r) r.globals_end a k) (within heap_start heap_end a k) (within stack_start stack_end a k) (inr (part_within stack_start stack_end at n a k from to s))
      ]
    ]
  where
    later : (x y z : Bool) → (y ≡ true) ⊎ (z ≡ true) → (x || (y || z)) ≡ true
    later true y z e = refl
    later false true z e = refl
    later false false true e = refl
    later false false false (inl e) = e
    later false false false (inr e) = e

starts_at : (low high a k : ℕ) → within low high a k ≡ true → low ≤ a
starts_at low high a k e = leb-true low a (and_parts (nat_le low a) (nat_le (a + k) high) e).0

behind_constants : (r : Regions) (a k : ℕ) → AreFormed r → in_written r a k ≡ true → r.constants_end ≤ a
behind_constants r a k formed e = elim (or_cases (within (globals_start r) r.globals_end a k) (within heap_start heap_end a k || within stack_start stack_end a k) e) [
  | inl g ↦ omega (arith, starts_at (globals_start r) r.globals_end a k g)
  | inr o ↦ elim (or_cases (within heap_start heap_end a k) (within stack_start stack_end a k) o) [
    | inl h ↦ omega (arith, starts_at heap_start heap_end a k h, formed.globals, formed.limit)
    | inr s ↦ omega (arith, starts_at stack_start stack_end a k s, formed.globals, formed.limit)
  ]
]

no_constants : (r : Regions) (a k : ℕ) → 0 < k → r.constants_end ≤ a → in_constants r a k ≡ false
no_constants r a k some behind = none (nat_le constants_start a) (nat_le (a + k) r.constants_end) (lt-leb (a + k) r.constants_end (omega arith))
  where
    none : (x y : Bool) → y ≡ false → (x && y) ≡ false
    none true y e = e
    none false y e = refl

-- what lies in a region that may be written may be read and written
pub written_allowed : (r : Regions) (write : Bool) (a k : ℕ) → AreFormed r → 0 < k → in_written r a k ≡ true → refusal r write a k ≡ None
written_allowed r write a k formed some e =
    cond-false (in_constants r a k) (if write then Some ConstantWrite else None) (if in_written r a k then None else Some BadAddress) (no_constants r a k some (behind_constants r a k formed e))
    ∙ cond-true (in_written r a k) None (Some BadAddress) e

part_allowed : (r : Regions) (write : Bool) (at n a k : ℕ) → AreFormed r → 0 < k → at ≤ a → a + k ≤ at + n → refusal r write at n ≡ None → refusal r write a k ≡ None
part_allowed r write at n a k formed some from to e = elim (allowed_by (in_constants r at n) (in_written r at n) write e) [
  | inl c ↦ cond-true (in_constants r a k) (if write then Some ConstantWrite else None) (if in_written r a k then None else Some BadAddress) (part_within constants_start r.constants_end at n a k from to c.0)
      ∙ cond-false write (Some ConstantWrite) None c.1
  | inr w ↦ written_allowed r write a k formed some (written_part r at n a k from to w)
]

none_absent : (held : ℕ → Bool) (p n : ℕ) → ((q : ℕ) → p ≤ q → q < p + n → held q ≡ true) → first_absent held p n ≡ None
none_absent held p zero all = refl
none_absent held p (suc n) all = cond-true (held p) (first_absent held (p + 1) n) (Some p) (all p (omega arith) (omega arith)) ∙ none_absent held (p + 1) n (λ q low high. all q (omega arith) (omega arith))

pub part_done : (r r' : Regions) (held held' : ℕ → Bool) (write : Bool) (at n a k : ℕ) → AreFormed r → r' ≡ r → held' ≡ held → 0 < k → at ≤ a → a + k ≤ at + n → access r held write at n ≡ Done → access r' held' write a k ≡ Done
part_done r r' held held' write at n a k formed map pages some from to done =
    let allowed = part_allowed r write at n a k formed some from to (done_allowed r held write at n done) in
    let there = none_absent held (page_of a) (page_count a k) (λ q low high. all_held held (page_of at) (page_count at n) (done_held r held write at n done) q (omega arith) (omega arith)) in
    ap (λ (x : Regions). access x held' write a k) map ∙ ap (λ (h : ℕ → Bool). access r h write a k) pages
    ∙ ap (λ (t : Option Trap). answer t (first_absent held (page_of a) (page_count a k))) allowed ∙ ap (answer None) there

pub part_own : (own own' : ℕ → Bool) (at n a k : ℕ) → ((p : ℕ) → own p ≡ true → own' p ≡ true) → 0 < k → at ≤ a → a + k ≤ at + n → AreOwn own at n → AreOwn own' a k
part_own own own' at n a k kept some from to mine = λ p low high. kept p (mine p (omega arith) (omega arith))
