-- An access inside one page of a kind.
use Rattle.std.proofs.Common.{◌≡◌, ◌≢◌, ℕ, ◌+◌, ◌*◌, ◌/◌, ◌%◌, ◌<◌, ◌≤◌, inl, inr, Bool, true, false, None, refl, arith, nat_le, ◌||◌}
use Rattle.std.proofs.lemmas.Bool.{and_parts, and_right, leb-true, le-leb, lt-leb, or_cases}
use Rattle.no_layout.specs.Memory.{AreFormed, access, constants_start, first_absent, globals_start, heap_start, heap_end, in_constants, in_written, page_count, page_of, stack_start, stack_end, within}
use Rattle.no_layout.specs.declared.memory.Regions.{Regions}
use Rattle.no_layout.specs.declared.memory.Access.TheVariants.{Done}
use Rattle.no_pages.specs.Kinds.{IsKind}
use Rattle.no_pages.specs.declared.slot.Kind.{Kind}
use Rattle.no_pages.specs.declared.slot.Kind.TheVariants.{Constant, Writable, Mixed}

pub within_of : (low high at n : ℕ) → low ≤ at → at + n ≤ high → within low high at n ≡ true
within_of low high at n h k = rw (le-leb low at h, le-leb (at + n) high k) refl

pub bounds : (low high at n : ℕ) → within low high at n ≡ true → (low ≤ at) × (at + n ≤ high)
bounds low high at n h =
    let parts = and_parts (nat_le low at) (nat_le (at + n) high) h in
    (leb-true low at parts.0, leb-true (at + n) high parts.1)

part : (low high a m at n : ℕ) → a ≤ at → at + n ≤ a + m → within low high a m ≡ true → within low high at n ≡ true
part low high a m at n from to h = let b = bounds low high a m h in within_of low high at n (omega arith) (omega arith)

or_left : (x y : Bool) → x ≡ true → (x || y) ≡ true
or_left true y e = refl
or_left false y e = absurd cc

or_right : (x y : Bool) → y ≡ true → (x || y) ≡ true
or_right true y e = refl
or_right false true e = refl
or_right false false e = absurd cc

module _ (r : Regions) (formed : AreFormed r) where
  written_part : (a m at n : ℕ) → a ≤ at → at + n ≤ a + m → in_written r a m ≡ true → in_written r at n ≡ true
  written_part a m at n from to h = elim (or_cases (within (globals_start r) r.globals_end a m) _ h) [
    | inl globals ↦ or_left (within (globals_start r) r.globals_end at n) (within heap_start heap_end at n || within stack_start stack_end at n) (part (globals_start r) r.globals_end a m at n from to globals)
    | inr more ↦ or_right (within (globals_start r) r.globals_end at n) (within heap_start heap_end at n || within stack_start stack_end at n) (elim (or_cases (within heap_start heap_end a m) (within stack_start stack_end a m) more) [
      | inl heap ↦ or_left (within heap_start heap_end at n) (within stack_start stack_end at n) (part heap_start heap_end a m at n from to heap)
      | inr stack ↦ or_right (within heap_start heap_end at n) (within stack_start stack_end at n) (part stack_start stack_end a m at n from to stack)
    ])
  ]

  -- bytes that may be written are no constants
  not_constants : (at n : ℕ) → 0 < n → in_written r at n ≡ true → in_constants r at n ≡ false
  not_constants at n some h = elim (or_cases (within (globals_start r) r.globals_end at n) _ h) [
    | inl globals ↦ let b = bounds (globals_start r) r.globals_end at n globals in past (omega (arith, formed.globals))
    | inr more ↦ elim (or_cases (within heap_start heap_end at n) (within stack_start stack_end at n) more) [
      | inl heap ↦ let b = bounds heap_start heap_end at n heap in past (omega (arith, formed.globals, formed.limit))
      | inr stack ↦ let b = bounds stack_start stack_end at n stack in past (omega (arith, formed.globals, formed.limit))
    ]
  ]
    where
      past : r.constants_end < at + n → in_constants r at n ≡ false
      past lt = and_right (nat_le constants_start at) (nat_le (at + n) r.constants_end) (lt-leb (at + n) r.constants_end lt)

  module _ (held : ℕ → Bool) (at n p : ℕ) (kind : Kind) (is : IsKind r p kind) (some : 0 < n) (page : at / 4096 ≡ p) (fits : at % 4096 + n ≤ 4096) (present : held p ≡ true) where
    one_page : page_count at n ≡ 1
    one_page = omega arith

    pub one_held : first_absent held (page_of at) (page_count at n) ≡ None
    one_held = rw (one_page, page, present) refl

    pub writes : kind ≡ Writable → (write : Bool) → access r held write at n ≡ Done
    writes e write =
        let may : in_written r at n ≡ true = written_part (4096 * p) 4096 at n (omega arith) (omega arith) (is.writable e) in
        rw (not_constants at n some may, may, one_held) refl

    reads_constant : kind ≡ Constant → access r held false at n ≡ Done
    reads_constant e =
        let may : in_constants r at n ≡ true = part constants_start r.constants_end (4096 * p) 4096 at n (omega arith) (omega arith) (is.constant e) in
        rw (may, one_held) refl

    pub reads : (k : Kind) → kind ≡ k → k ≢ Mixed → access r held false at n ≡ Done
    reads Constant e ne = reads_constant e
    reads Writable e ne = writes e false
    reads Mixed e ne = absurd (ne refl)
